-- Special types of a module come from those of the modules that it was put together from.
use Rattle.std.proofs.Common.{◌≡◌, ℕ, zero, suc, ◌==◌, Bool, true, false, cond, nat_eq, if◌then◌else◌, List, [], ◌∷◌, ◌++◌, Option, Some, None, option_map, unwrap_or, All, refl, ap, sym, ◌∙◌, subst}
use Rattle.std.specs.Map.{lookup}
use Rattle.std.proofs.lemmas.List.Elements.{All-nil, All-cons, All-head, All-tail, All-append}
use Rattle.std.proofs.lemmas.Option.{none-some}
use Rattle.naga_oil_ir.specs.ModuleValue.{ModuleValue, SpecialValue}
use Rattle.naga_oil_ir.specs.declared.names.ItemPlace.{ItemPlace}
use Rattle.naga_oil_ir.specs.declared.names.ItemPlace.TheVariants.{TypeItem}
use Rattle.naga_oil_form.proofs.LinkLemmas.{eqb_eq, eq_eqb}
use Rattle.naga_oil_derive.specs.Tree.{World, Kept, tree, reading, kept_tree, row_tree}
use Rattle.naga_oil_derive.specs.World.{LacksKey, HaveDistinctKeys, or_option, kept_in, special_at, special_entry, special_entries}
use Rattle.naga_oil_derive.specs.declared.special.SpecialKey.{SpecialKey}
use Rattle.naga_oil_derive.specs.declared.special.SpecialKey.TheVariants.{RayDesc, RayIntersection, RayVertexReturn, Predeclared}
use Rattle.naga_oil_derive.proofs.SpecialLemmas.{coded, entries_nested}
use Rattle.naga_oil_copy_laws.specs.Scope.{Scope}
use Rattle.naga_oil_link_laws.specs.SpecialComes.{IsTypeFrom, AreSameTypes, SpecialComes, Copied, Shared}

abbrev pub Entry : Type 0
Entry = SpecialKey × ℕ

-- ---- entries and keys

-- the special type of a key is that of its entry
abbrev IsAt : SpecialValue → Entry → Type 0
IsAt s e = special_at s e.0 ≡ Some e.1

code_apart : (c d : ℕ) → (Predeclared d ≡ Predeclared c → ⊥) → (b : Bool) → nat_eq d c ≡ b → nat_eq d c ≡ false
code_apart c d n true e = absurd (n (ap Predeclared (eqb_eq d c e)))
code_apart c d n false e = e

codes_at : (es : List (ℕ × ℕ)) → HaveDistinctKeys (coded es) → All (λ (e : ℕ × ℕ). lookup (nat_eq e.0) es ≡ Some e.1) es
codes_at [] d = All-nil (λ (e : ℕ × ℕ). lookup (nat_eq e.0) [] ≡ Some e.1)
codes_at (x ∷ es) d =
    let P = λ (e : ℕ × ℕ). lookup (nat_eq e.0) (x ∷ es) ≡ Some e.1 in
    All-cons P x es (ap (λ b. cond b (Some x.1) (lookup (nat_eq x.0) es)) (eq_eqb x.0 x.0 refl)) (later es d.0 (codes_at es d.1))
  where
    later : (ys : List (ℕ × ℕ)) → LacksKey (Predeclared x.0) (coded ys) → All (λ (e : ℕ × ℕ). lookup (nat_eq e.0) es ≡ Some e.1) ys → All (λ (e : ℕ × ℕ). lookup (nat_eq e.0) (x ∷ es) ≡ Some e.1) ys
    later [] l a = All-nil (λ (e : ℕ × ℕ). lookup (nat_eq e.0) (x ∷ es) ≡ Some e.1)
    later (y ∷ ys) l a =
        let Q = λ (e : ℕ × ℕ). lookup (nat_eq e.0) es ≡ Some e.1 in
        let apart = code_apart x.0 y.0 l.0 (nat_eq y.0 x.0) refl in
        All-cons (λ (e : ℕ × ℕ). lookup (nat_eq e.0) (x ∷ es) ≡ Some e.1) y ys (ap (λ b. cond b (Some x.1) (lookup (nat_eq y.0) es)) apart ∙ All-head Q y ys a) (later ys l.1 (All-tail Q y ys a))

coded_at : (s : SpecialValue) (es : List (ℕ × ℕ)) → All (λ (e : ℕ × ℕ). lookup (nat_eq e.0) s.predeclared_types ≡ Some e.1) es → All (IsAt s) (coded es)
coded_at s [] a = All-nil (IsAt s)
coded_at s (e ∷ es) a =
    let P = λ (e : ℕ × ℕ). lookup (nat_eq e.0) s.predeclared_types ≡ Some e.1 in
    All-cons (IsAt s) (Predeclared e.0, e.1) (coded es) (All-head P e es a) (coded_at s es (All-tail P e es a))

entry_at : (P : Entry → Type 0) (key : SpecialKey) (o : Option ℕ) → ((k : ℕ) → o ≡ Some k → P (key, k)) → All P (special_entry key o)
entry_at P key None h = All-nil P
entry_at P key (Some k) h = All-cons P (key, k) [] (h k refl) (All-nil P)

without_entry : (key : SpecialKey) (o : Option ℕ) (es : List Entry) → HaveDistinctKeys (special_entry key o ++ es) → HaveDistinctKeys es
without_entry key None es d = d
without_entry key (Some k) es d = d.1

pub entries_at : (s : SpecialValue) → HaveDistinctKeys (special_entries s) → All (IsAt s) (special_entries s)
entries_at s d =
    let P = IsAt s in
    let cs = coded s.predeclared_types in
    let x = special_entry RayDesc s.ray_desc in
    let y = special_entry RayIntersection s.ray_intersection in
    let z = special_entry RayVertexReturn s.ray_vertex_return in
    let nested = entries_nested s in
    let own = without_entry RayVertexReturn s.ray_vertex_return cs (without_entry RayIntersection s.ray_intersection (z ++ cs) (without_entry RayDesc s.ray_desc (y ++ (z ++ cs)) (subst HaveDistinctKeys nested d))) in
    subst (All P) (sym nested)
    (All-append P x (y ++ (z ++ cs)) (entry_at P RayDesc s.ray_desc (λ k e. e))
    (All-append P y (z ++ cs) (entry_at P RayIntersection s.ray_intersection (λ k e. e))
    (All-append P z cs (entry_at P RayVertexReturn s.ray_vertex_return (λ k e. e)) (coded_at s s.predeclared_types (codes_at s.predeclared_types own)))))

-- what is kept for a type is kept for one of its keys
pub kept_entry : (Q : Entry → Type 0) (f : SpecialKey → Option ℕ) (es : List Entry) (h q : ℕ) → All Q es → kept_in f es h ≡ Some q → (e : Entry) × (e.1 ≡ h) × (f e.0 ≡ Some q) × Q e
kept_entry Q f [] h q a e = absurd (none-some q e)
kept_entry Q f (x ∷ es) h q a e = one (λ p. kept_entry Q f es h q (All-tail Q x es a) p) (kept_in f es h) refl (x.1 == h) refl e
  where
    one : (kept_in f es h ≡ Some q → (e : Entry) × (e.1 ≡ h) × (f e.0 ≡ Some q) × Q e) → (o : Option ℕ) → kept_in f es h ≡ o → (b : Bool) → (x.1 == h) ≡ b → or_option o (if b then f x.0 else None) ≡ Some q → (e : Entry) × (e.1 ≡ h) × (f e.0 ≡ Some q) × Q e
    one rest (Some y) p b t r = rest (p ∙ r)
    one rest None p true t r = (x, eqb_eq x.1 h t, r, All-head Q x es a)
    one rest None p false t r = absurd (none-some q r)

pub type_went : (o : Option ℕ) (k at : ℕ) → option_map TypeItem o ≡ Some (TypeItem at) → unwrap_or o k ≡ at
type_went None k at e = absurd (none-some (TypeItem at) e)
type_went (Some h) k at e = cc

pub all_both : (P Q R : Entry → Type 0) → ((e : Entry) → P e → Q e → R e) → (es : List Entry) → All P es → All Q es → All R es
all_both P Q R f [] a b = All-nil R
all_both P Q R f (e ∷ es) a b = All-cons R e es (f e (All-head P e es a) (All-head Q e es b)) (all_both P Q R f es (All-tail P e es a) (All-tail Q e es b))

-- ---- other modules, with the types at other places

-- the special type of a key, in the module's place: it says the same, and if the type at q is a copy of it, so is that at r
pub record CarriesKey (scope later : Scope) (t u : ModuleValue) (q r : ℕ) (w v : World) (n : ModuleValue) (key : SpecialKey) (k : ℕ) : Type 0 where
  pub place : ℕ
  pub at : special_at n.special_types key ≡ Some place
  pub same : (j : ℕ) → tree j w (TypeItem k) ≡ tree j v (TypeItem place)
  pub copied : IsTypeFrom w scope t k q → IsTypeFrom v later u place r

-- a module that says where a special type comes from, and one in its place
pub record Carries (Other : World → ModuleValue → Type 0) (scope later : World → ModuleValue → Scope) (t u : ModuleValue) (q r : ℕ) (w : World) (m : ModuleValue) : Type 0 where
  pub reads : World
  pub value : ModuleValue
  pub of : Other reads value
  pub each : (key : SpecialKey) (k : ℕ) → special_at m.special_types key ≡ Some k → CarriesKey (scope w m) (later reads value) t u q r w reads value key k

module _ (Of Other : World → ModuleValue → Type 0) (scope later : World → ModuleValue → Scope) (t u : ModuleValue) (q r : ℕ) (carry : (w : World) (m : ModuleValue) → Of w m → Carries Other scope later t u q r w m) (keys : (key : SpecialKey) → special_at t.special_types key ≡ Some q → special_at u.special_types key ≡ Some r) where
  carry_copied : (key : SpecialKey) (w : World) (m : ModuleValue) (k : ℕ) → Of w m → special_at m.special_types key ≡ Some k → IsTypeFrom w (scope w m) t k q → SpecialComes Other later u key r
  carry_copied key w m k of at copy =
      let c = carry w m of in
      let e = c.each key k at in
      Copied c.reads c.value e.place c.of e.at (e.copied copy)

  carry_shared : (key other : SpecialKey) (w : World) (m : ModuleValue) (j k : ℕ) → Of w m → special_at m.special_types key ≡ Some j → special_at m.special_types other ≡ Some k → AreSameTypes w j k → special_at t.special_types other ≡ Some q → SpecialComes Other later u other r → SpecialComes Other later u key r
  carry_shared key other w m j k of at too same there more =
      let c = carry w m of in
      let a = c.each key j at in
      let b = c.each other k too in
      Shared c.reads c.value a.place b.place c.of a.at b.at (λ n. sym (a.same n) ∙ same n ∙ b.same n) (keys other there) more

  -- where a special type comes from, by the other modules
  pub carried : (key : SpecialKey) → SpecialComes Of scope t key q → SpecialComes Other later u key r
  carried key (Copied w m k of at copy) = carry_copied key w m k of at copy
  carried key (Shared w m j k of at too same there more) = carry_shared key _ w m j k of at too same there (carried _ more)

-- ---- types that read by what was kept first

later_step : (w v : World) (first later : Kept) → ((p q : ItemPlace) → first p ≡ Some q → later p ≡ Some q) → (n : ℕ) (p : ItemPlace) → reading n w v later ≡ reading n w v first → ((q : ItemPlace) → later p ≡ Some q → tree (suc n) v q ≡ kept_tree (tree (suc n) v) (first p) (row_tree (reading n w v first) (w p))) → (o : Option ItemPlace) → later p ≡ o → (f : Option ItemPlace) → first p ≡ f → kept_tree (tree (suc n) v) (later p) (row_tree (reading n w v later) (w p)) ≡ kept_tree (tree (suc n) v) (first p) (row_tree (reading n w v first) (w p))
later_step w v first later still n p below reads None e None g = ap (λ o. kept_tree (tree (suc n) v) o (row_tree (reading n w v later) (w p))) e ∙ ap (λ f. row_tree f (w p)) below ∙ sym (ap (λ o. kept_tree (tree (suc n) v) o (row_tree (reading n w v first) (w p))) g)
later_step w v first later still n p below reads None e (Some x) g = absurd (none-some x (sym e ∙ still p x g))
later_step w v first later still n p below reads (Some q) e f g = ap (λ o. kept_tree (tree (suc n) v) o (row_tree (reading n w v later) (w p))) e ∙ reads q e

-- what is kept later reads as by what was kept first, if its places do
pub kept_later : (w v : World) (first later : Kept) → ((p q : ItemPlace) → first p ≡ Some q → later p ≡ Some q) → ((p q : ItemPlace) (n : ℕ) → later p ≡ Some q → tree n v q ≡ reading n w v first p) → (n : ℕ) (p : ItemPlace) → reading n w v later p ≡ reading n w v first p
unfolding reading
kept_later w v first later still reads zero p = refl
kept_later w v first later still reads (suc n) p = later_step w v first later still n p (λ i q. kept_later w v first later still reads n q i) (λ q e. reads p q (suc n) e) (later p) refl (first p) refl

-- a type that isn't kept reads by its row
pub not_kept : (w v : World) (m : Kept) (p : ItemPlace) → m p ≡ None → (n : ℕ) → reading (suc n) w v m p ≡ row_tree (reading n w v m) (w p)
unfolding reading
not_kept w v m p e n = ap (λ o. kept_tree (tree (suc n) v) o (row_tree (reading n w v m) (w p))) e
