-- The modules from a place of the registry on, and their number.
use Rattle.std.proofs.Common.{◌≡◌, ℕ, zero, suc, ◌+◌, ◌-◌, ◌<◌, ◌≤◌, List, [], ◌∷◌, Bool, ◌||◌, eqb, map, drop, get_or, length, true, false, refl, sym, ap, ◌∙◌, Some, None, Err, arith}
use Rattle.std.specs.List.{AllByRecursion, IsDistinct, list_any, slice_get}
use Rattle.std.proofs.lemmas.Bool.{eqb-true, eqb-false, ne_eqb, or_parts}
use Rattle.std.proofs.lemmas.List.{drop_more, length-map}
use Rattle.std.proofs.lemmas.Map.Steps.{length-le_from_distinct_below}
use Rattle.naga_oil_imports.specs.declared.import_definition.ImportDefinition.{ImportDefinition}
use Rattle.naga_oil_registry.specs.Registered.{Registered, Defs}
use Rattle.naga_oil_registry.specs.Registry.{place_named, taken, IsRegistry}
use Rattle.naga_oil_link.specs.BuiltModule.{Builds}
use Rattle.naga_oil_build.specs.Held.{Settings}
use Rattle.naga_oil.specs.Reach.{is_built, missing, reach, reach_module, unless_built}
use Rattle.naga_oil.proofs.ReachLemmas.{none_reached, first_reached}

-- ---- the number of modules

-- a free index is the index of no module
none_has : (index : ℕ) (ds : List Registered) → taken ds index ≡ false → AllByRecursion (λ other. eqb index other ≡ false) (map (λ d. d.index) ds)
none_has index [] h = tt
none_has index (d ∷ ds) h =
    let parts = or_parts (eqb d.index index) (taken ds index) h in
    (ne_eqb index d.index (λ e. eqb-false d.index index parts.0 (sym e)), none_has index ds parts.1)

indices_apart : (ds : List Registered) → IsRegistry ds → IsDistinct eqb (map (λ d. d.index) ds)
unfolding IsDistinct
indices_apart [] all = tt
indices_apart (d ∷ ds) all = (none_has d.index ds all.0.index, indices_apart ds all.1)

indices_small : (ds : List Registered) → IsRegistry ds → (index : ℕ) → list_any (eqb index) (map (λ d. d.index) ds) ≡ true → index < 2048
indices_small [] all index h = absurd cc
indices_small (d ∷ ds) all index h = by (eqb index d.index) refl h (indices_small ds all.1 index)
  where
    by : (b : Bool) → eqb index d.index ≡ b → (b || list_any (eqb index) (map (λ d. d.index) ds)) ≡ true → (list_any (eqb index) (map (λ d. d.index) ds) ≡ true → index < 2048) → index < 2048
    by true e h rest = let same : index ≡ d.index = eqb-true index d.index e in omega (arith, all.0.small, same)
    by false e h rest = rest h

-- no two modules have one index, so their number is limited
pub few_modules : (ds : List Registered) → IsRegistry ds → length ds ≤ 2048
few_modules ds all = omega (arith, length-le_from_distinct_below (map (λ d. d.index) ds) 2048 (indices_apart ds all) (indices_small ds all), length-map ds (λ d. d.index))

-- ---- modules from a place on

drop_none : {A : Type 0} (n : ℕ) → ◌≡◌ {A = List A} (drop n []) []
drop_none zero = refl
drop_none (suc n) = refl

dropped_on : {A : Type 0} (xs : List A) (i j : ℕ) → drop j (drop i xs) ≡ drop (i + j) xs
dropped_on xs zero j = ap (λ n. drop n xs) (let e : j ≡ zero + j = omega arith in e)
dropped_on [] (suc i) j = drop_none j ∙ sym (drop_none (suc i + j))
dropped_on (x ∷ xs) (suc i) j = dropped_on xs i j ∙ ap (λ n. drop n (x ∷ xs)) (let e : suc (i + j) ≡ suc i + j = omega arith in e)

got_after : {A : Type 0} (xs : List A) (i j : ℕ) → slice_get (drop i xs) j ≡ slice_get xs (i + j)
got_after xs zero j = ap (slice_get xs) (let e : j ≡ zero + j = omega arith in e)
got_after [] (suc i) j = refl
got_after (x ∷ xs) (suc i) j = got_after xs i j ∙ ap (slice_get (x ∷ xs)) (let e : suc (i + j) ≡ suc i + j = omega arith in e)

module _ (s : Settings) (defs : Defs) (name : List ℕ) (bs : Builds) (absent : is_built bs name ≡ false) (ds : List Registered) (from : ℕ) where
  -- no module from the place on has the name
  pub none_from : place_named name (drop from ds) ≡ None → unless_built (reach s defs (drop from ds)) name bs ≡ record { builds = bs; result = Err (missing name 0) }
  none_from e = none_reached s defs name bs absent (drop from ds) e

  -- the first module that has the name is reached over the modules after it
  pub first_from : (place : ℕ) (d : Registered) → (from ≤ place) × (place_named name (drop from ds) ≡ Some (place - from)) → slice_get ds place ≡ Some d
      → unless_built (reach s defs (drop from ds)) name bs ≡ reach_module s defs d (unless_built (reach s defs (drop (place + 1) ds))) bs
  first_from place d at is =
      let here : from + (place - from) ≡ place = omega (arith, at.0) in
      let next : from + (place - from + 1) ≡ place + 1 = omega (arith, at.0) in
      first_reached s defs name bs absent (drop from ds) (place - from) d at.1 (got_after ds from (place - from) ∙ ap (slice_get ds) here ∙ is)
      ∙ ap (λ (rest : List Registered). reach_module s defs d (unless_built (reach s defs rest)) bs) (dropped_on ds from (place - from + 1) ∙ ap (λ n. drop n ds) next)

-- the next of the remaining imports
pub next_import : (xs : List ImportDefinition) (i : ℕ) (x : ImportDefinition) → i < length xs → x ≡ get_or xs i x → drop i xs ≡ x ∷ drop (i + 1) xs
next_import xs i x within is = drop_more xs i x within ∙ ap (λ y. y ∷ drop (i + 1) xs) (sym is)
