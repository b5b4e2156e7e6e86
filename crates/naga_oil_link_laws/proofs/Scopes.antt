-- Modules as they read in others.
use Rattle.std.proofs.Common.{◌≡◌, ℕ, zero, suc, List, Option, Some, None, option_map, refl, ap, sym, ◌∙◌, subst}
use Rattle.std.proofs.lemmas.Option.{none-some}
use Rattle.naga_oil_ir.specs.ModuleValue.{ModuleValue, EntryValue}
use Rattle.naga_oil_ir.specs.declared.names.ItemPlace.{ItemPlace}
use Rattle.naga_oil_ir.specs.declared.names.ItemPlace.TheVariants.{TypeItem, ConstantItem, OverrideItem, GlobalItem, ExpressionItem}
use Rattle.naga_oil_derive.specs.CopiedLaw.{HasAt}
use Rattle.naga_oil_derive.specs.Copying.{AreWhole}
use Rattle.naga_oil_derive.specs.Derived.{Source, Derived, as_read, kept}
use Rattle.naga_oil_derive.specs.DerivedLaw.{IsSourceOf, AreThere}
use Rattle.naga_oil_derive.specs.DerivedValue.{no_places}
use Rattle.naga_oil_derive.specs.Tree.{World, Kept, tree, reading, kept_tree, row_tree}
use Rattle.naga_oil_derive.specs.World.{world, kept_of, kept_in, special_at, special_entries}
use Rattle.naga_oil_derive.proofs.DeriveLemmas.{kept_key}
use Rattle.naga_oil_copy_laws.specs.Scope.{Scope, name_of_function, scope_of, scope_from}
use Rattle.naga_oil_copy_laws.specs.Frame.{AreAlike, HasMore}
use Rattle.naga_oil_copy_laws.proofs.FrameLaws.{tree_stays, reading_stays, kept_stays}
use Rattle.naga_oil_copy_laws.proofs.HeldLemmas.{comes_there}
use Rattle.naga_oil_copy_laws.proofs.TurnLaws.{own_names}
use Rattle.naga_oil_link_laws.specs.ReadIn.{scope_in, HasKeysOf}
use Rattle.naga_oil_link_laws.proofs.Stages.{Stage, following, read_after}

pub alike_same : (a : Scope) → AreAlike a a
alike_same a = record { reads = λ p n. refl; names = λ k. refl }

-- ---- worlds that differ where special types are kept

but_step : (u v w : World) (m : Kept) → ((p : ItemPlace) → m p ≡ None → u p ≡ v p) → (n : ℕ) (p : ItemPlace) → reading n u w m ≡ reading n v w m → (o : Option ItemPlace) → m p ≡ o → kept_tree (tree (suc n) w) (m p) (row_tree (reading n u w m) (u p)) ≡ kept_tree (tree (suc n) w) (m p) (row_tree (reading n v w m) (v p))
but_step u v w m f n p below None e =
    ap (λ o. kept_tree (tree (suc n) w) o (row_tree (reading n u w m) (u p))) e ∙ ap (λ g. row_tree g (u p)) below ∙ ap (row_tree (reading n v w m)) (f p e) ∙ sym (ap (λ o. kept_tree (tree (suc n) w) o (row_tree (reading n v w m) (v p))) e)
but_step u v w m f n p below (Some q) e =
    ap (λ o. kept_tree (tree (suc n) w) o (row_tree (reading n u w m) (u p))) e ∙ sym (ap (λ o. kept_tree (tree (suc n) w) o (row_tree (reading n v w m) (v p))) e)

-- the two worlds read alike
pub reading_but : (u v w : World) (m : Kept) → ((p : ItemPlace) → m p ≡ None → u p ≡ v p) → (n : ℕ) (p : ItemPlace) → reading n u w m p ≡ reading n v w m p
unfolding reading
reading_but u v w m f zero p = refl
reading_but u v w m f (suc n) p = but_step u v w m f n p (λ i q. reading_but u v w m f n q i) (m p) refl

none_before : (first now : Kept) → ((p q : ItemPlace) → first p ≡ Some q → now p ≡ Some q) → (p : ItemPlace) → now p ≡ None → first p ≡ None
none_before first now still p n = one (first p) refl
  where
    one : (o : Option ItemPlace) → first p ≡ o → first p ≡ None
    one None e = e
    one (Some q) e = absurd (none-some q (sym n ∙ still p q e))

-- a source that is copied after what stood before reads as its module does in the target
pub after_alike : (before : Derived) (m : ModuleValue) (shift : ℕ) (d : Derived) → (t : Stage (following before m shift) (read_after before m) d) → AreAlike (scope_from t.source d.target) (scope_in m d.target)
after_alike before m shift d t =
    let s = t.source in
    let first = kept_of m.special_types before.target.special_types in
    let of = comes_there d.source s (λ y. IsSourceOf first y d.target) t.is t.derivation.source in
    let same = λ (p : ItemPlace) (e : kept s d.target p ≡ None). (let all : world m p ≡ as_read s d.target p = sym (ap (λ (f : World). f p) t.reads ∙ own_names (world m) (world before.target) first p (none_before first (kept s d.target) of.still p e)) in all) in
    record {
      reads = λ p n. ap (λ (y : ModuleValue). reading n (world m) (world d.target) (kept_of y.special_types d.target.special_types) p) (sym t.value) ∙ reading_but (world m) (as_read s d.target) (world d.target) (kept s d.target) same n p;
      names = λ k. ap (λ (y : ModuleValue). name_of_function y k) (sym t.value);
    }

-- ---- modules that grow

pub kept_there : (m t : ModuleValue) → AreThere t → (p q : ItemPlace) → kept_of m.special_types t.special_types p ≡ Some q → HasAt t q
unfolding kept_of
kept_there m t a (TypeItem k) q e = one (kept_in (special_at t.special_types) (special_entries m.special_types) k) refl e
  where
    one : (o : Option ℕ) → kept_in (special_at t.special_types) (special_entries m.special_types) k ≡ o → option_map TypeItem o ≡ Some q → HasAt t q
    one None i e = absurd (none-some q e)
    one (Some h) i e =
        let key = kept_key (special_at t.special_types) (special_entries m.special_types) k h i in
        let same : TypeItem h ≡ q = cc in
        subst (HasAt t) same (a key.0 h key.1)
kept_there m t a (ConstantItem k) q e = absurd (none-some q e)
kept_there m t a (OverrideItem k) q e = absurd (none-some q e)
kept_there m t a (GlobalItem k) q e = absurd (none-some q e)
kept_there m t a (ExpressionItem k) q e = absurd (none-some q e)

abbrev alone : ModuleValue → Source
alone m = record { value = m; offset = 0; places = no_places m }

-- a module reads in another as before when that one grows
pub in_alike : (m t u : ModuleValue) → AreWhole (world t) → AreThere t → HasKeysOf m t → HasMore t u → AreAlike (scope_in m t) (scope_in m u)
in_alike m t u w a h more =
    let keeps : kept_of m.special_types u.special_types ≡ kept_of m.special_types t.special_types = λ i p. kept_stays (alone m) t u h more p i in
    record {
      reads = λ p n.
          ap (λ (k : Kept). reading n (world m) (world u) k p) keeps ∙ reading_stays (world m) (world t) (world u) (kept_of m.special_types t.special_types) (λ x q k e. tree_stays t u w more q (kept_there m t a x q e) k) n p;
      names = λ k. refl;
    }

-- ---- entry points

with_entries : (t : ModuleValue) (es : List EntryValue) (p : ItemPlace) → world (record t { entry_points = es }) p ≡ world t p
unfolding world
with_entries t es (TypeItem k) = refl
with_entries t es (ConstantItem k) = refl
with_entries t es (OverrideItem k) = refl
with_entries t es (GlobalItem k) = refl
with_entries t es (ExpressionItem k) = refl

pub entries_world : (t : ModuleValue) (es : List EntryValue) → world (record t { entry_points = es }) ≡ world t
entries_world t es = λ i p. with_entries t es p i

-- a module reads in another as before when that one gets entry points
pub entries_in : (m t : ModuleValue) (es : List EntryValue) → AreAlike (scope_in m t) (scope_in m (record t { entry_points = es }))
entries_in m t es = record { reads = λ p n. ap (λ (v : World). reading n (world m) v (kept_of m.special_types t.special_types) p) (entries_world t es); names = λ k. refl }

pub entries_of : (t : ModuleValue) (es : List EntryValue) → AreAlike (scope_of t) (scope_of (record t { entry_points = es }))
entries_of t es = record { reads = λ p n. ap (λ (v : World). tree n v p) (entries_world t es); names = λ k. refl }
