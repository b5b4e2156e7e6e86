-- A module that is set as the source, with its special types, follows a trail.
use Rattle.std.proofs.Common.{◌≡◌, ⊎_elim, ◌⊎◌, inl, inr, ℕ, ◌==◌, Bool, true, false, ◌||◌, ◌&&◌, if◌then◌else◌, List, [], ◌∷◌, ◌++◌, map, Option, Some, None, is_some, option_map, option_to_list, All, refl, ap, sym, ◌∙◌, subst}
use Rattle.std.specs.List.{flat_map, list_any}
use Rattle.std.proofs.lemmas.Bool.{false≢true}
use Rattle.std.proofs.lemmas.List.Elements.{All-head, All-tail, All-weaker}
use Rattle.std.proofs.lemmas.Option.{none-some}
use Rattle.naga_oil_form.proofs.LinkLemmas.{or_false, or_left, or_right, same_bool}
use Rattle.naga_oil_form_laws.proofs.SpecialLemmas.{at_key}
use Rattle.naga_oil_ir.specs.ModuleValue.{ModuleValue, SpecialValue}
use Rattle.naga_oil_ir.specs.Rows.{Text}
use Rattle.naga_oil_ir.specs.declared.names.ItemPlace.{ItemPlace}
use Rattle.naga_oil_ir.specs.declared.names.ItemPlace.TheVariants.{TypeItem, ConstantItem, OverrideItem, GlobalItem, ExpressionItem}
use Rattle.naga_oil_derive.specs.declared.special.SpecialKey.{SpecialKey}
use Rattle.naga_oil_derive.specs.declared.special.SpecialKey.TheVariants.{RayDesc, RayIntersection, RayVertexReturn, Predeclared}
use Rattle.naga_oil_derive.specs.CopiedLaw.{HasAt, IsCopyable, AreSpecial, reads_now}
use Rattle.naga_oil_derive.specs.Copying.{special_names}
use Rattle.naga_oil_derive.specs.Derived.{Derived, type_under}
use Rattle.naga_oil_derive.specs.DerivedFunctions.{meant}
use Rattle.naga_oil_derive.specs.DerivedLaw.{IsDerivation}
use Rattle.naga_oil_derive.specs.DerivedValue.{copy_special, set_source}
use Rattle.naga_oil_derive.specs.Tree.{Kept}
use Rattle.naga_oil_derive.specs.World.{goes, world, kept_of, kept_in, or_option, special_at, special_entries, with_special, with_specials}
use Rattle.naga_oil_derive.proofs.SetLaws.{set_law, start, midway_first, as_names}
use Rattle.naga_oil_derive.proofs.SpecialLemmas.{Entry, special_others, specials_keep}
use Rattle.naga_oil_derive.proofs.TreeLemmas.{AreCopied-kept, same_number}
use Rattle.naga_oil_link_laws.proofs.Specials.{entries_at}
use Rattle.naga_oil_copy_laws.proofs.FrameLaws.{keys}
use Rattle.naga_oil_collected_laws.specs.FirstReach.{has_name}
use Rattle.naga_oil_collected_laws.specs.ItemOrder.{AreAllOf}
use Rattle.naga_oil_collected_laws.specs.Trail.{Trail, is_special_for, reached_by, special_items, with_source}
use Rattle.naga_oil_collected_laws.proofs.Followed.{Along, AskThere}
use Rattle.naga_oil_collected_laws.proofs.Traces.{Traced, all_traced}

-- ---- keys that are there

test_some : (b : Bool) (o : Option ℕ) (c : Bool) → is_some o ≡ c → (b && c) ≡ is_some (if b then o else None)
test_some true o c e = sym e
test_some false o c e = refl

some_or : (a b : Option ℕ) → (is_some b || is_some a) ≡ is_some (or_option a b)
some_or None b = or_false (is_some b)
some_or (Some x) b = or_right (is_some b) true refl

module _ (there : SpecialKey → Bool) (f : SpecialKey → Option ℕ) (h : (k : SpecialKey) → is_some (f k) ≡ there k) where
  abbrev is_for : ℕ → Entry → Bool
  is_for k = λ e. (e.1 == k) && there e.0

  kept_any : (es : List Entry) (k : ℕ) → list_any (is_for k) es ≡ is_some (kept_in f es k)
  kept_any [] k = refl
  kept_any (e ∷ es) k =
      let own = if e.1 == k then f e.0 else None in
      ap (λ b. b || list_any (is_for k) es) (test_some (e.1 == k) (f e.0) (there e.0) (h e.0)) ∙ ap (λ b. is_some own || b) (kept_any es k) ∙ some_or (kept_in f es k) own

some_mapped : (o : Option ℕ) → is_some o ≡ is_some (option_map TypeItem o)
some_mapped None = refl
some_mapped (Some x) = refl

-- special types with keys that are there are kept
pub special_kept : (there : SpecialKey → Bool) (m t : ModuleValue) → ((k : SpecialKey) → is_some (special_at t.special_types k) ≡ there k) → (p : ItemPlace) → is_special_for there m p ≡ is_some (kept_of m.special_types t.special_types p)
unfolding kept_of
special_kept there m t h (TypeItem k) = kept_any there (special_at t.special_types) h (special_entries m.special_types) k ∙ some_mapped (kept_in (special_at t.special_types) (special_entries m.special_types) k)
special_kept there m t h (ConstantItem k) = refl
special_kept there m t h (OverrideItem k) = refl
special_kept there m t h (GlobalItem k) = refl
special_kept there m t h (ExpressionItem k) = refl

-- ---- keys that come

same_key : (a b : SpecialKey) → (a ≡ b) ⊎ (a ≡ b → ⊥)
same_key RayDesc RayDesc = inl refl
same_key RayIntersection RayIntersection = inl refl
same_key RayVertexReturn RayVertexReturn = inl refl
same_key (Predeclared a) (Predeclared b) = ⊎_elim (λ e. inl (ap Predeclared e)) (λ e. inr (λ h. e (let i : a ≡ b = cc in i))) (same_number a b)
same_key _ _ = inr (λ h. cc)

keys_from : (P : SpecialKey → Type 0) (f : ℕ → ℕ) (es : List Entry) → All (λ (e : Entry). P e.0) es → (s : SpecialValue) → ((k : SpecialKey) (q : ℕ) → special_at s k ≡ Some q → P k) → (k : SpecialKey) (q : ℕ) → special_at (with_specials s f es) k ≡ Some q → P k
keys_from P f [] a s h k q e = h k q e
keys_from P f (x ∷ es) a s h k q e = keys_from P f es (All-tail (λ (y : Entry). P y.0) x es a) (if is_some (special_at s x.0) then s else with_special s x.0 (f x.1)) (one (is_some (special_at s x.0))) k q e
  where
    one : (b : Bool) (j : SpecialKey) (r : ℕ) → special_at (if b then s else with_special s x.0 (f x.1)) j ≡ Some r → P j
    one true j r g = h j r g
    one false j r g =
        ⊎_elim
        (λ same. subst P (sym same) (All-head (λ (y : Entry). P y.0) x es a))
        (λ other. h j r (sym (special_others s x.0 j (f x.1) other) ∙ g))
        (same_key j x.0)

some_there : (o : Option ℕ) → is_some o ≡ true → (q : ℕ) × (o ≡ Some q)
some_there None h = absurd (false≢true h)
some_there (Some q) h = (q, refl)

pub or_either : (a b : Bool) → (a || b) ≡ true → (a ≡ true) ⊎ (b ≡ true)
or_either true b h = inl refl
or_either false b h = inr h

-- the keys of a module have types
pub keys_own : (m : ModuleValue) → AreSpecial m → All (λ (e : Entry). is_some (special_at m.special_types e.0) ≡ true) (special_entries m.special_types)
keys_own m a = All-weaker (λ (e : Entry). special_at m.special_types e.0 ≡ Some e.1) (λ (e : Entry). is_some (special_at m.special_types e.0) ≡ true) (λ e h. ap is_some h) (special_entries m.special_types) (entries_at m.special_types a.distinct)

-- a key has a type then if it had one, or the module has one
module _ (m : ModuleValue) (a : AreSpecial m) (s x : SpecialValue) (f : ℕ → ℕ) (is : x ≡ with_specials s f (special_entries m.special_types)) (all : All (λ (e : Entry). is_some (special_at x e.0) ≡ true) (special_entries m.special_types)) where
  abbrev HasEither : SpecialKey → Type 0
  HasEither k = (is_some (special_at s k) || is_some (special_at m.special_types k)) ≡ true

  come : (k : SpecialKey) → is_some (special_at x k) ≡ true → HasEither k
  come k h =
      let q = some_there (special_at x k) h in
      let own = All-weaker (λ (e : Entry). is_some (special_at m.special_types e.0) ≡ true) (λ (e : Entry). HasEither e.0) (λ e y. or_right (is_some (special_at s e.0)) (is_some (special_at m.special_types e.0)) y) (special_entries m.special_types) (keys_own m a) in
      keys_from HasEither f (special_entries m.special_types) own s (λ j r e. or_left (is_some (special_at s j)) (is_some (special_at m.special_types j)) (ap is_some e)) k q.0 (ap (λ v. special_at v k) (sym is) ∙ q.1)

  stay : (k : SpecialKey) → HasEither k → is_some (special_at x k) ≡ true
  stay k h =
      ⊎_elim
      (λ e. let q = some_there (special_at s k) e in ap (λ v. is_some (special_at v k)) is ∙ ap is_some (specials_keep s f (special_entries m.special_types) k q.0 q.1))
      (λ e. let q = some_there (special_at m.special_types k) e in at_key (λ (y : Entry). is_some (special_at x y.0) ≡ true) m.special_types k q.0 all q.1)
      (or_either (is_some (special_at s k)) (is_some (special_at m.special_types k)) h)

  keys_come : (k : SpecialKey) → is_some (special_at x k) ≡ (is_some (special_at s k) || is_some (special_at m.special_types k))
  keys_come k = same_bool (is_some (special_at x k)) (is_some (special_at s k) || is_some (special_at m.special_types k)) (come k) (stay k)

-- ---- the source is set

-- what was made so far: the places of a trail's items, the names of its functions, and its keys
pub record Made (t : Trail) (places : List ItemPlace) (d : Derived) : Type 0 where
  pub order : AreAllOf d.target places
  pub names : (n : Text) → is_some (meant d.function_names n) ≡ has_name t.functions n
  pub keys : (k : SpecialKey) → is_some (special_at d.target.special_types k) ≡ t.keys k

present_special : (es : List Entry) → flat_map option_to_list (special_names es) ≡ map (λ (e : Entry). TypeItem e.1) es
present_special [] = refl
present_special (e ∷ es) = ap (λ ps. TypeItem e.1 ∷ ps) (present_special es)

-- special types change no items
all_special : (u : ModuleValue) (x : SpecialValue) (xs : List ItemPlace) → AreAllOf u xs → AreAllOf (record u { special_types = x }) xs
all_special u x xs a = record { types = a.types; constants = a.constants; overrides = a.overrides; globals = a.globals; expressions = a.expressions }

-- more special types are kept, each at the place that it maps to
kept_still : (first now : Kept) → ((p q : ItemPlace) → first p ≡ Some q → now p ≡ Some q) → (p : ItemPlace) → now p ≡ None → first p ≡ None
kept_still first now still p n = one (first p) refl
  where
    one : (o : Option ItemPlace) → first p ≡ o → first p ≡ None
    one None e = e
    one (Some q) e = absurd (none-some q (sym n ∙ still p q e))

module _ (before : Kept) (d : Derived) (m : ModuleValue) (shift : ℕ) (i : IsDerivation before d) (can : IsCopyable m) (special : AreSpecial m) (asks : AskThere m) (t : Trail) (places : List ItemPlace) (made : Made t places d) where
  abbrev e : Derived
  e = set_source d m shift

  abbrev first : Kept
  first = kept_of m.special_types d.target.special_types

  abbrev pub now : Kept
  now = kept_of m.special_types (set_source d m shift).target.special_types

  abbrev pub keys_now : SpecialKey → Bool
  keys_now k = t.keys k || is_some (special_at m.special_types k)

  -- after the source is set
  pub keys_set : (k : SpecialKey) → is_some (special_at e.target.special_types k) ≡ keys_now k
  keys_set k =
      let law = set_law before d m shift i can special in
      keys_come m special d.target.special_types e.target.special_types (type_under (copy_special d m shift).places) law.set.1.special (keys before d m shift i can special) k
      ∙ ap (λ b. b || is_some (special_at m.special_types k)) (made.keys k)

  pub kept_now : (p : ItemPlace) → is_special_for keys_now m p ≡ is_some (now p)
  kept_now = special_kept keys_now m e.target keys_set

  pub source_along : Along m shift now keys_now kept_now can asks t places (with_source m t) e
  source_along =
      let u = copy_special d m shift in
      let es = special_entries m.special_types in
      let law = set_law before d m shift i can special in
      let of = law.derivation.source in
      let mid = of.midway in
      let traced = all_traced m shift first (is_special_for t.keys m) (special_kept t.keys m d.target made.keys) can (special_names es) (as_names (HasAt m) es special.there) (start d m) (midway_first before d m i special) in
      let items = ap (λ ps. flat_map (reached_by t.keys m) ps) (present_special es) in
      let all : Traced (start d m) u (flat_map (reached_by t.keys m) (special_items m)) = subst (Traced (start d m) u) items traced in
      record {
        maps = u.places;
        is = refl;
        known_keys = refl;
        midway = record {
          kinds = mid.kinds;
          roomy = mid.roomy;
          sound = mid.sound;
          copied = AreCopied-kept (reads_now m (record { places = u.places; target = e.target })) (world e.target) first now (goes u.places) mid.copied of.stand (kept_still first now of.still);
        };
        names = made.names;
        reached = flat_map (reached_by t.keys m) (special_items m);
        items = refl;
        places = all.places;
        went = all.went;
        order = all_special u.target e.target.special_types (places ++ all.places) (all.order places made.order);
      }
