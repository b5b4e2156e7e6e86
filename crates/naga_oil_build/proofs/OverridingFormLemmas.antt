-- The names of what is overridden in builds are not shared.
use Rattle.std.proofs.Common.{◌≡◌, ℕ, zero, suc, ◌-◌, ◌||◌, if◌then◌else◌, Bool, true, false, Option, Some, None, option_map, List, [], ◌∷◌, ◌++◌, length, take, drop, All, bytes_eq, slice_get, refl, sym, ap, subst, ◌∙◌, append_assoc, append-nil, nat_eq}
use Rattle.std.specs.Prelude.{codes}
use Rattle.std.specs.List.{starts_with, ends_with}
use Rattle.std.specs.Option.{option_or}
use Rattle.std.proofs.lemmas.Bool.{false≢true}
use Rattle.std.proofs.lemmas.Bool.Decides.{Decides-eqb, Decides-like, same_from_decides}
use Rattle.std.proofs.lemmas.List.Elements.{All-nil, All-cons, All-head, All-tail, All-push}
use Rattle.std.proofs.lemmas.Option.{none-some, same_Some}
use Rattle.std.proofs.lemmas.Slice.Eq.{bytes_eq-Decides, starts_is, ends_is}
use Rattle.naga_oil_lines.specs.Decorate.{base32, decoded, decorated_name}
use Rattle.naga_oil_words.specs.Texts.{is_among}
use Rattle.naga_oil_words.specs.OptionSteps.{◌>>=◌}
use Rattle.naga_oil_lines.proofs.DecorateLemmas.{coded_text}
use Rattle.naga_oil_words.specs.Marks.{module_mark, override_mark}
use Rattle.naga_oil_link.specs.BuiltModule.{Overriding}
use Rattle.naga_oil_build.specs.Overriding.{with_new, overridden, overridden_by, with_overriding}
use Rattle.naga_oil_build.specs.Virtuals.{override_name, around_last, without_end, are_parts, item_and_code, item_and_module}
use Rattle.naga_oil_build.specs.OverridingForm.{IsOverrideName, NameLaw, is_overridden, OverridesEachOnce, NoNameSharedLaw, LacksOverrideMark, BasesLackMark, NoneOverridesLaw}
use Rattle.naga_oil_build.proofs.NameLemmas.{plain_override, plain_tells, decorated_tells, never_alike}

-- the decoration of a build: nothing for a shader, and for a module what its name decorates with
abbrev pub IsDecoration : List ℕ → Type 0
IsDecoration decoration = (within : Option (List ℕ)) × (decoration ≡ decorated_name within [])

-- ---- names determine what is overridden

same_item : (f g m n : List ℕ) → plain_override f m ≡ plain_override g n → decorated_name (Some m) f ≡ decorated_name (Some n) g
same_item f g m n e = let q = plain_tells f g m n e in λ i. q.0 i ++ module_mark ++ q.1 i ++ codes "X"

pub name_law : NameLaw
name_law a b name x y = x.is ∙ one x.within y.within (sym x.named ∙ y.named) ∙ sym y.is
  where
    f : List ℕ
    f = plain_override x.item x.module_name

    g : List ℕ
    g = plain_override y.item y.module_name

    one : (p q : Option (List ℕ)) → f ++ decorated_name p [] ≡ g ++ decorated_name q [] → decorated_name (Some x.module_name) x.item ≡ decorated_name (Some y.module_name) y.item
    one None None e = same_item x.item y.item x.module_name y.module_name (sym (append-nil f) ∙ e ∙ append-nil g)
    one None (Some l) e = absurd (never_alike x.item g x.module_name l (sym (append-nil f) ∙ e))
    one (Some k) None e = absurd (never_alike y.item f y.module_name k (sym (append-nil g) ∙ sym e))
    one (Some k) (Some l) e = same_item x.item y.item x.module_name y.module_name (decorated_tells f g k l e)

-- ---- no two share a name

same_bytes : (a b : List ℕ) → bytes_eq a b ≡ bytes_eq b a
same_bytes a b = same_from_decides _ _ (Decides-like _ sym sym (bytes_eq-Decides a b)) (bytes_eq-Decides b a)

first_false : (a b : Bool) → (a || b) ≡ false → a ≡ false
first_false true b e = e
first_false false b e = refl

rest_false : (a b : Bool) → (a || b) ≡ false → b ≡ false
rest_false true b e = absurd (false≢true (sym e))
rest_false false b e = e

not_there : (all : Overriding) (base : List ℕ) (j : ℕ) (b : List ℕ × List (List ℕ)) → is_overridden all base ≡ false → slice_get all j ≡ Some b → bytes_eq base b.0 ≡ false
not_there [] base j b e at = absurd (none-some b at)
not_there (o ∷ more) base zero b e at = ap (λ (x : List ℕ × List (List ℕ)). bytes_eq base x.0) (sym (same_Some o b at)) ∙ first_false (bytes_eq base o.0) (is_overridden more base) e
not_there (o ∷ more) base (suc j) b e at = not_there more base j b (rest_false (bytes_eq base o.0) (is_overridden more base) e) at

bases_apart : (all : Overriding) (i j : ℕ) (a b : List ℕ × List (List ℕ)) → OverridesEachOnce all → slice_get all i ≡ Some a → slice_get all j ≡ Some b → (j ≡ i → ⊥) → bytes_eq b.0 a.0 ≡ false
bases_apart [] i j a b h at there other = absurd (none-some a at)
bases_apart (o ∷ more) zero zero a b h at there other = absurd (other refl)
bases_apart (o ∷ more) zero (suc j) a b h at there other = same_bytes b.0 a.0 ∙ not_there more a.0 j b (ap (λ (x : List ℕ × List (List ℕ)). is_overridden more x.0) (sym (same_Some o a at)) ∙ h.0) there
bases_apart (o ∷ more) (suc i) zero a b h at there other = not_there more b.0 i a (ap (λ (x : List ℕ × List (List ℕ)). is_overridden more x.0) (sym (same_Some o b there)) ∙ h.0) at
bases_apart (o ∷ more) (suc i) (suc j) a b h at there other = bases_apart more i j a b h.2 at there (λ q. other (ap suc q))

all_named : (all : Overriding) (i : ℕ) (a : List ℕ × List (List ℕ)) → OverridesEachOnce all → slice_get all i ≡ Some a → All (IsOverrideName a.0) a.1
all_named [] i a h at = absurd (none-some a at)
all_named (o ∷ more) zero a h at = subst (λ (x : List ℕ × List (List ℕ)). All (IsOverrideName x.0) x.1) (same_Some o a at) h.1
all_named (o ∷ more) (suc i) a h at = all_named more i a h.2 at

named_so : (base : List ℕ) (names : List (List ℕ)) (n : List ℕ) → All (IsOverrideName base) names → is_among names n ≡ true → IsOverrideName base n
named_so base [] n h e = absurd (false≢true e)
named_so base (x ∷ xs) n h e = one (bytes_eq n x) refl (named_so base xs n (All-tail (IsOverrideName base) x xs h)) e
  where
    one : (b : Bool) → bytes_eq n x ≡ b → (is_among xs n ≡ true → IsOverrideName base n) → (b || is_among xs n) ≡ true → IsOverrideName base n
    one true q rest e = subst (IsOverrideName base) (sym ((bytes_eq-Decides n x).0 q)) (All-head (IsOverrideName base) x xs h)
    one false q rest e = rest e

pub no_name_shared : NoNameSharedLaw
no_name_shared all h i j a b at there other =
    let apart = bases_apart all i j a b h at there other in
    record { base = apart; names = λ n e. one apart n e (is_among a.1 n) refl }
  where
    one : bytes_eq b.0 a.0 ≡ false → (n : List ℕ) → is_among b.1 n ≡ true → (x : Bool) → is_among a.1 n ≡ x → x ≡ false
    one apart n e true q =
        let same = name_law b.0 a.0 n (named_so b.0 b.1 n (all_named all j b h there) e) (named_so a.0 a.1 n (all_named all i a h at) q) in
        absurd (false≢true (sym apart ∙ (bytes_eq-Decides b.0 a.0).1 same))
    one apart n e false q = refl

-- ---- one more overriding function

new_name : (P : List ℕ → Type 0) (names : List (List ℕ)) (name : List ℕ) → All P names → P name → All P (with_new names name)
new_name P names name h p = one (is_among names name)
  where
    one : (b : Bool) → All P (if b then names else names ++ name ∷ [])
    one true = h
    one false = All-push P names name h p

module _ (base name : List ℕ) where
  still_none : (all : Overriding) (k : List ℕ) → bytes_eq k base ≡ false → is_overridden all k ≡ false → is_overridden (overridden all base name) k ≡ false
  still_none [] k d e = ap (λ b. b || false) d
  still_none (o ∷ more) k d e = one (still_none more k d (rest_false (bytes_eq k o.0) (is_overridden more k) e)) (bytes_eq base o.0)
    where
      one : is_overridden (overridden more base name) k ≡ false → (b : Bool) → is_overridden (if b then (o.0, with_new o.1 name) ∷ more else o ∷ overridden more base name) k ≡ false
      one rest true = e
      one rest false = ap (λ b. b || is_overridden (overridden more base name) k) (first_false (bytes_eq k o.0) (is_overridden more k) e) ∙ rest

  pub one_more : (all : Overriding) → IsOverrideName base name → OverridesEachOnce all → OverridesEachOnce (overridden all base name)
  one_more [] p h = (refl, All-cons (IsOverrideName base) name [] p (All-nil (IsOverrideName base)), tt)
  one_more (o ∷ more) p h = one (one_more more p h.2) (bytes_eq base o.0) refl
    where
      one : OverridesEachOnce (overridden more base name) → (b : Bool) → bytes_eq base o.0 ≡ b → OverridesEachOnce (if b then (o.0, with_new o.1 name) ∷ more else o ∷ overridden more base name)
      one rest true q = (h.0, new_name (IsOverrideName o.0) o.1 name h.1 (subst (λ k. IsOverrideName k name) ((bytes_eq-Decides base o.0).0 q) p), h.2)
      one rest false q = (still_none more o.0 (same_bytes o.0 base ∙ q) h.0, h.1, rest)

more_by : (base : List ℕ) (names : List (List ℕ)) (all : Overriding) → All (IsOverrideName base) names → OverridesEachOnce all → OverridesEachOnce (overridden_by all base names)
more_by base [] all p h = h
more_by base (n ∷ ns) all p h = more_by base ns (overridden all base n) (All-tail (IsOverrideName base) n ns p) (one_more base n all (All-head (IsOverrideName base) n ns p) h)

pub all_more : (others all : Overriding) → OverridesEachOnce others → OverridesEachOnce all → OverridesEachOnce (with_overriding all others)
all_more [] all p h = h
all_more (o ∷ more) all p h = all_more more (overridden_by all o.0 o.1) p.2 (more_by o.0 o.1 all p.1 h)

-- ---- what a decorated name says

last_there : (mark text : List ℕ) (p : List ℕ × List ℕ) → around_last mark text ≡ Some p → text ≡ p.0 ++ (mark ++ p.1)
unfolding around_last
last_there mark [] p e = absurd (none-some p e)
last_there mark (b ∷ more) p e = one (last_there mark more) (around_last mark more) refl (starts_with nat_eq (b ∷ more) mark) refl e
  where
    one : ((q : List ℕ × List ℕ) → around_last mark more ≡ Some q → more ≡ q.0 ++ (mark ++ q.1)) → (o : Option (List ℕ × List ℕ)) → around_last mark more ≡ o → (t : Bool) → starts_with nat_eq (b ∷ more) mark ≡ t
        → option_or (option_map (λ (p : List ℕ × List ℕ). (b ∷ p.0, p.1)) o) (if t then Some ([], drop (length mark) (b ∷ more)) else None) ≡ Some p → b ∷ more ≡ p.0 ++ (mark ++ p.1)
    one rest (Some q) f t g e =
        let same : (b ∷ q.0, q.1) ≡ p = same_Some (b ∷ q.0, q.1) p e in
        ap (λ l. b ∷ l) (rest q f) ∙ ap (λ (x : List ℕ × List ℕ). x.0 ++ (mark ++ x.1)) same
    one rest None f true g e =
        let same : ([], drop (length mark) (b ∷ more)) ≡ p = same_Some ([], drop (length mark) (b ∷ more)) p e in
        (starts_is Decides-eqb (b ∷ more) mark (starts_with nat_eq (b ∷ more) mark) refl).0 g ∙ ap (λ (x : List ℕ × List ℕ). x.0 ++ (mark ++ x.1)) same
    one rest None f false g e = absurd (none-some p e)

end_there : (name marked : List ℕ) → without_end name ≡ Some marked → name ≡ marked ++ codes "X"
end_there name marked e = one (ends_with nat_eq name (codes "X")) refl e
  where
    one : (t : Bool) → ends_with nat_eq name (codes "X") ≡ t → (if t then Some (take (length name - 1) name) else None) ≡ Some marked → name ≡ marked ++ codes "X"
    one true g e = (ends_is Decides-eqb name (codes "X") (ends_with nat_eq name (codes "X")) refl).0 g ∙ ap (λ l. l ++ codes "X") (same_Some (take (length name - 1) name) marked e)
    one false g e = absurd (none-some marked e)

parts_there : (name : List ℕ) (p : List ℕ × List ℕ) → item_and_code name ≡ Some p → name ≡ p.0 ++ module_mark ++ p.1 ++ codes "X"
unfolding item_and_code
parts_there name p e = one (without_end name) refl e
  where
    two : (marked : List ℕ) → name ≡ marked ++ codes "X" → (o : Option (List ℕ × List ℕ)) → around_last module_mark marked ≡ o
        → (o >>= λ p. if are_parts p.0 p.1 then Some p else None) ≡ Some p → name ≡ p.0 ++ module_mark ++ p.1 ++ codes "X"
    two marked n (Some q) f e = three (are_parts q.0 q.1) e
      where
        three : (t : Bool) → (if t then Some q else None) ≡ Some p → name ≡ p.0 ++ module_mark ++ p.1 ++ codes "X"
        three true e =
            n ∙ ap (λ l. l ++ codes "X") (last_there module_mark marked q f ∙ sym (append_assoc q.0 module_mark q.1))
            ∙ ap (λ (x : List ℕ × List ℕ). x.0 ++ module_mark ++ x.1 ++ codes "X") (same_Some q p e)
        three false e = absurd (none-some p e)
    two marked n None f e = absurd (none-some p e)

    one : (o : Option (List ℕ)) → without_end name ≡ o → (o >>= around_last module_mark >>= λ p. if are_parts p.0 p.1 then Some p else None) ≡ Some p → name ≡ p.0 ++ module_mark ++ p.1 ++ codes "X"
    one (Some marked) f e = two marked (end_there name marked f) (around_last module_mark marked) refl e
    one None f e = absurd (none-some p e)

pub override_named : (name decoration : List ℕ) (p : List ℕ × List ℕ × List ℕ) → IsDecoration decoration → item_and_module name ≡ Some p → IsOverrideName name (override_name p.0 p.1 decoration)
override_named name decoration p d e = one (item_and_code name) refl e
  where
    two : (q : List ℕ × List ℕ) → item_and_code name ≡ Some q → (o : Option (List ℕ)) → decoded q.1 ≡ o → option_map (λ module_name. (q.0, q.1, module_name)) o ≡ Some p → IsOverrideName name (override_name p.0 p.1 decoration)
    two q f (Some m) g e =
        let same : (q.0, q.1, m) ≡ p = same_Some (q.0, q.1, m) p e in
        let code = (coded_text q.1 m g).0 in
        subst (λ (x : List ℕ × List ℕ × List ℕ). IsOverrideName name (override_name x.0 x.1 decoration)) same (record {
          item = q.0;
          module_name = m;
          within = d.0;
          is = parts_there name q f ∙ ap (λ c. q.0 ++ module_mark ++ c ++ codes "X") (sym code);
          named = ap (λ c. override_name q.0 c decoration) (sym code) ∙ ap (override_name q.0 (base32 m)) d.1;
        })
    two q f None g e = absurd (none-some p e)

    one : (o : Option (List ℕ × List ℕ)) → item_and_code name ≡ o → (o >>= λ p. option_map (λ module_name. (p.0, p.1, module_name)) (decoded p.1)) ≡ Some p → IsOverrideName name (override_name p.0 p.1 decoration)
    one (Some q) f e = two q f (decoded q.1) refl e
    one None f e = absurd (none-some p e)

-- ---- names without the mark of an override

marked_so : (base n : List ℕ) → IsOverrideName base n → LacksOverrideMark n → ⊥
marked_so base n h l =
    let code = base32 h.module_name in
    let after = decorated_name h.within [] in
    l h.item (code ++ (codes "X" ++ after))
    (h.named ∙ append_assoc ((h.item ++ override_mark) ++ code) (codes "X") after ∙ append_assoc (h.item ++ override_mark) code (codes "X" ++ after))

not_among : (base : List ℕ) (names : List (List ℕ)) (n : List ℕ) → All (IsOverrideName base) names → LacksOverrideMark n → is_among names n ≡ false
not_among base names n h l = one (is_among names n) refl
  where
    one : (t : Bool) → is_among names n ≡ t → is_among names n ≡ false
    one true e = absurd (marked_so base n (named_so base names n h e) l)
    one false e = e

lacks_at : (all : Overriding) (j : ℕ) (b : List ℕ × List (List ℕ)) → BasesLackMark all → slice_get all j ≡ Some b → LacksOverrideMark b.0
lacks_at [] j b h at = absurd (none-some b at)
lacks_at (o ∷ more) zero b h at = subst (λ (x : List ℕ × List (List ℕ)). LacksOverrideMark x.0) (same_Some o b at) (All-head (λ (x : List ℕ × List (List ℕ)). LacksOverrideMark x.0) o more h)
lacks_at (o ∷ more) (suc j) b h at = lacks_at more j b (All-tail (λ (x : List ℕ × List (List ℕ)). LacksOverrideMark x.0) o more h) at

pub none_overrides : NoneOverridesLaw
none_overrides all once lacks i j a b at there =
    (not_among a.0 a.1 b.0 (all_named all i a once at) (lacks_at all j b lacks there), not_among b.0 b.1 a.0 (all_named all j b once there) (lacks_at all i a lacks at))
