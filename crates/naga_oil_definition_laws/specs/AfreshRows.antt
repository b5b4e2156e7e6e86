-- Worked rows: modules that are reached as from no builds, builds that only grow, and builds that are made and kept as from no builds;
-- and a name that is registered twice.
use Rattle.std.proofs.Common.{◌≡◌, ℕ, List, [], ◌∷◌, Bool, true, false, cond, ◌||◌, Option, Some, None, Ok, Err, length, reverse, bytes_eq, refl, ap, sym, subst, ◌∙◌, arith}
use Rattle.std.proofs.lemmas.List.Elements.{All-nil, All-head}
use Rattle.std.proofs.lemmas.Option.{same_Some}
use Rattle.std.proofs.lemmas.Slice.Eq.{bytes_eq-Decides}
use Rattle.std.specs.List.{IsDistinct}
use Rattle.std.specs.Prelude.{codes}
use Rattle.naga_oil_ir.specs.declared.backend.Capabilities.{Capabilities}
use Rattle.naga_oil_lines.specs.Decorate.{letters}
use Rattle.naga_oil_imports.specs.Uses.{Import, Use}
use Rattle.naga_oil_conditions.specs.Fault.{too_many_end_ifs}
use Rattle.naga_oil_conditions.specs.Replaced.{name_at, name_in_braces, hash_name, pieces, replaced_from, replaced, hash_names}
use Rattle.naga_oil_pre.specs.Preprocessed.{preprocessed}
use Rattle.naga_oil_pre.specs.Reading.{reading, read_block, read_arms}
use Rattle.naga_oil_registry.specs.Registered.{Registered}
use Rattle.naga_oil_link.specs.BuiltModule.{BuiltModule, Builds, nothing_built}
use Rattle.naga_oil_build.specs.Built.{preprocessed_of}
use Rattle.naga_oil_build.specs.Overriding.{build_named}
use Rattle.naga_oil.proofs.AfreshLemmas.{afresh_law}
use Rattle.naga_oil.proofs.StoreKeyLemmas.{key-Decides}
use Rattle.naga_oil.specs.AfreshLaw.{AllStandAfresh, AreReachedAfresh, Grows, IsBuiltAfresh, IsReachedAfresh, IsReadAfresh, ReachesAfresh, StandsAfresh, afresh, reach_new}
use Rattle.naga_oil.specs.Answer.{any_use}
use Rattle.naga_oil.specs.LocalLaw.{AlikeIn}
use Rattle.naga_oil.specs.Outcome.{Outcome}
use Rattle.naga_oil.specs.Reach.{Unreached, defined, is_built, reach, reach_each, reach_module, unbuilt}
use Rattle.naga_oil.specs.Store.{Key, Kept, same_key}
use Rattle.naga_oil.specs.StoreLaw.{IsKeptAfresh, IsKeptUnder, IsStore, Stands}
use Rattle.naga_oil_faithful_laws.specs.SmallMake.{small_settings, module_definition}
use Rattle.naga_oil_faithful_laws.proofs.Builds.{module_build, module_is_built}
use Rattle.naga_oil_faithful_laws.proofs.Texts.{texts, module_read}
use Rattle.naga_oil_definition_laws.specs.RegisteredRows.{modules, registry}

-- ---- builds that grow

abbrev built : (name : List ℕ) → (index : ℕ) → List ℕ × BuiltModule
built name index = (name, nothing_built [] index)

one_more : Grows (built (codes "a") 1 ∷ []) (built (codes "a") 1 ∷ built (codes "b") 2 ∷ [])
one_more = record { more = built (codes "b") 2 ∷ []; is = refl }

lost_build_is_refused : Grows (built (codes "a") 1 ∷ []) [] → ⊥
lost_build_is_refused h = let e : [] ≡ built (codes "a") 1 ∷ h.more = h.is in absurd cc

-- the number of the first build
abbrev first_index : Builds → ℕ
first_index [] = 0
first_index (e ∷ more) = e.1.index

build_before_is_refused : Grows (built (codes "a") 1 ∷ []) (built (codes "b") 2 ∷ built (codes "a") 1 ∷ []) → ⊥
build_before_is_refused h = let e : 2 ≡ 1 = ap first_index h.is in absurd (omega (arith, e))

-- ---- modules that are reached

module _ (c : Capabilities) where
  two_are_reached_afresh : ReachesAfresh (small_settings c) modules []
  two_are_reached_afresh = afresh_law (small_settings c) modules [] registry

  nothing_is_read_afresh : IsReadAfresh {X = ℕ} (small_settings c) modules [] [] (record { builds = []; result = Ok 0 }) (record { builds = []; result = Ok 0 })
  nothing_is_read_afresh = record { result = refl; grows = record { more = []; is = refl }; stand = two_are_reached_afresh.nothing }

-- The module `n` imports `m`, and a module that its text doesn't name. Then `m` is registered again, with a text that has a fault. So `m`
-- can't be built from no builds, but the reach of `n` builds the older one.
abbrev importing : List ℕ → Import
importing name = record { import = name; items = [] }

abbrev at_start : List ℕ → Use
at_start name = record { import = importing name; offset = 0 }

abbrev n : Registered
n = record module_definition { name = codes "n"; imports = at_start (codes "m") ∷ []; additional = importing (codes "m") ∷ importing (codes "o") ∷ []; index = 2 }

abbrev faulty : Registered
faulty = record module_definition { source = codes "#endif"; index = 3 }

abbrev twice : List Registered
twice = faulty ∷ n ∷ module_definition ∷ []

n_read : preprocessed_of (defined []) n ≡ Ok (record { text = codes "fn f() {}\n"; uses = at_start (codes "m") ∷ at_start (codes "o") ∷ [] })
unfolding texts preprocessed reading read_block read_arms letters replaced replaced_from pieces name_at name_in_braces hash_name hash_names
n_read = refl

faulty_read : preprocessed_of (defined []) faulty ≡ Err (too_many_end_ifs 0)
unfolding texts preprocessed reading read_block read_arms letters replaced replaced_from pieces name_at name_in_braces hash_name hash_names
faulty_read = refl

module _ (c : Capabilities) where
  m_isnt_built_afresh : (afresh (small_settings c) twice [] (codes "m")).result ≡ Err (unbuilt (codes "m") (record { fault = too_many_end_ifs 0; offset = 0 }))
  unfolding reach reach_module reach_each
  m_isnt_built_afresh = rw (faulty_read) refl

  m_is_built_for_n : is_built (reach (small_settings c) [] twice (codes "n") []).builds (codes "m") ≡ true
  unfolding reach reach_module reach_each
  m_is_built_for_n = rw (n_read, module_read, module_is_built c) refl

  name_registered_twice_is_refused : ReachesAfresh (small_settings c) twice [] → ⊥
  name_registered_twice_is_refused h =
      let m = (h.one (codes "n") [] h.nothing).stand.each (codes "m") m_is_built_for_n in
      let e = sym m_isnt_built_afresh ∙ m.reached in
      absurd cc

-- ---- builds that stand as they are built afresh

-- `m` alone is registered
abbrev one : List Registered
one = module_definition ∷ []

abbrev m_built : Builds
m_built = (codes "m", module_build) ∷ []

-- another build under its name
abbrev other_built : Builds
other_built = built (codes "m") 1 ∷ []

-- the number of functions of a build
abbrev functions_in : Option BuiltModule → ℕ
functions_in None = 0
functions_in (Some b) = length b.functions

m_alike : AlikeIn (reverse m_built) (reverse m_built) (codes "m")
unfolding AlikeIn
m_alike = record { same = refl; imports = All-nil (λ (i : Import). AlikeIn [] [] i.import) }

other_is_not_alike : AlikeIn (reverse other_built) (reverse m_built) (codes "m") → ⊥
unfolding AlikeIn
other_is_not_alike h = let e : ◌≡◌ {A = ℕ} 0 2 = ap (λ (b : BuiltModule). length b.functions) h.same in absurd cc

module _ (c : Capabilities) where
  m_is_reached : afresh (small_settings c) one [] (codes "m") ≡ record { builds = m_built; result = Ok tt }
  unfolding reach reach_module reach_each
  m_is_reached = rw (module_read, module_is_built c) refl

  m_stands : StandsAfresh (small_settings c) one [] m_built (codes "m")
  m_stands = record {
    reached = ap (λ (o : Outcome (Unit {0}) Unreached). o.result) m_is_reached;
    alike = subst (λ (o : Outcome (Unit {0}) Unreached). AlikeIn (reverse m_built) (reverse o.builds) (codes "m")) (sym m_is_reached) m_alike;
  }

  another_build_is_refused : StandsAfresh (small_settings c) one [] other_built (codes "m") → ⊥
  another_build_is_refused h = other_is_not_alike (subst (λ (o : Outcome (Unit {0}) Unreached). AlikeIn (reverse other_built) (reverse o.builds) (codes "m")) m_is_reached h.alike)

  all_stand : AllStandAfresh (small_settings c) one [] m_built
  unfolding IsDistinct
  all_stand = record { differ = (tt, tt); each = λ name is. only name (bytes_eq name (codes "m")) refl is }
    where
      only : (name : List ℕ) (q : Bool) → bytes_eq name (codes "m") ≡ q → (q || false) ≡ true → StandsAfresh (small_settings c) one [] m_built name
      only name true e is = subst (λ (n : List ℕ). StandsAfresh (small_settings c) one [] m_built n) (sym ((bytes_eq-Decides name (codes "m")).0 e)) m_stands
      only name false e is = absurd cc

  builds_with_another_are_refused : AllStandAfresh (small_settings c) one [] other_built → ⊥
  builds_with_another_are_refused h = another_build_is_refused (h.each (codes "m") refl)

  built_twice_is_refused : AllStandAfresh (small_settings c) one [] ((codes "m", module_build) ∷ (codes "m", module_build) ∷ []) → ⊥
  unfolding IsDistinct
  built_twice_is_refused h = let e : true ≡ false = h.differ.0.0 in absurd cc

  m_is_built_afresh : IsBuiltAfresh (small_settings c) one [] m_built (codes "m")
  m_is_built_afresh = record { built = refl; same = sym (ap (λ (o : Outcome (Unit {0}) Unreached). build_named o.builds (codes "m")) m_is_reached) }

  other_is_not_built_afresh : IsBuiltAfresh (small_settings c) one [] other_built (codes "m") → ⊥
  other_is_not_built_afresh h =
      let e : ◌≡◌ {A = ℕ} 0 2 = ap functions_in (h.same ∙ ap (λ (o : Outcome (Unit {0}) Unreached). build_named o.builds (codes "m")) m_is_reached) in
      absurd cc

  -- ---- what is reached

  a_is_reached_afresh : IsReachedAfresh (small_settings c) modules [] [] (codes "a") (reach (small_settings c) [] modules (codes "a") [])
  a_is_reached_afresh = let r = two_are_reached_afresh c in r.one (codes "a") [] r.nothing

  another_outcome_is_refused : IsReachedAfresh (small_settings c) one [] [] (codes "m") (record { builds = other_built; result = Ok tt }) → ⊥
  another_outcome_is_refused h = other_is_not_built_afresh (h.built refl)

  use_is_reached_afresh : AreReachedAfresh (small_settings c) modules [] any_use (at_start (codes "a") ∷ []) [] (reach_new (small_settings c) modules [] any_use (at_start (codes "a") ∷ []) [])
  use_is_reached_afresh = let r = two_are_reached_afresh c in r.each any_use (at_start (codes "a") ∷ []) [] r.nothing

  unbuilt_use_is_refused : AreReachedAfresh (small_settings c) one [] any_use (at_start (codes "m") ∷ []) [] (record { builds = []; result = Ok tt }) → ⊥
  unbuilt_use_is_refused h =
      let b = All-head (λ (u : Use). IsBuiltAfresh (small_settings c) one [] [] u.import.import) (at_start (codes "m")) [] (h.built refl) in
      let e : false ≡ true = b.built in
      absurd cc

-- ---- builds that are kept

abbrev key_of_m : Key
key_of_m = record { name = codes "m"; defs = [] }

abbrev one_kept : Kept
one_kept = (key_of_m, module_build) ∷ []

module _ (c : Capabilities) where
  kept_under_its_name : IsKeptUnder (small_settings c) one one_kept [] (codes "m")
  kept_under_its_name = refl

  unkept_is_refused : IsKeptUnder (small_settings c) one [] [] (codes "m") → ⊥
  unkept_is_refused h = let e : false ≡ true = h in absurd cc

  unregistered_is_refused : IsKeptUnder (small_settings c) [] one_kept [] (codes "m") → ⊥
  unregistered_is_refused h = h

  is_kept_afresh : IsKeptAfresh (small_settings c) one one_kept key_of_m module_build
  is_kept_afresh = record {
    key = refl;
    reached = ap (λ (o : Outcome (Unit {0}) Unreached). o.result) (m_is_reached c);
    built = ap (λ (o : Outcome (Unit {0}) Unreached). build_named o.builds (codes "m")) (m_is_reached c);
    imports = All-nil (λ (i : Import). IsKeptUnder (small_settings c) one one_kept [] i.import);
  }

  is_store : IsStore (small_settings c) one one_kept
  unfolding IsDistinct
  is_store = record { differ = (tt, tt); each = λ k b at. by k b (same_key k key_of_m) refl at }
    where
      by : (k : Key) (b : BuiltModule) (q : Bool) → same_key k key_of_m ≡ q → cond q (Some module_build) None ≡ Some b → IsKeptAfresh (small_settings c) one one_kept k b
      by k b true e at =
          subst (λ (x : BuiltModule). IsKeptAfresh (small_settings c) one one_kept k x) (same_Some module_build b at)
          (subst (λ (x : Key). IsKeptAfresh (small_settings c) one one_kept x module_build) (sym ((key-Decides k key_of_m).0 e)) is_kept_afresh)
      by k b false e at = absurd cc

  -- the build of a make stands once it is kept
  stands_kept : Stands (small_settings c) one [] m_built one_kept
  stands_kept = record { built = all_stand c; store = is_store; each = λ name is. only name (bytes_eq name (codes "m")) refl is }
    where
      only : (name : List ℕ) (q : Bool) → bytes_eq name (codes "m") ≡ q → (q || false) ≡ true → IsKeptUnder (small_settings c) one one_kept [] name
      only name true e is = subst (λ (n : List ℕ). IsKeptUnder (small_settings c) one one_kept [] n) (sym ((bytes_eq-Decides name (codes "m")).0 e)) kept_under_its_name
      only name false e is = absurd cc

  -- and not before
  unkept_build_is_refused : Stands (small_settings c) one [] m_built [] → ⊥
  unkept_build_is_refused h = unkept_is_refused (h.each (codes "m") refl)

  another_build_of_a_make_is_refused : (kept : Kept) → Stands (small_settings c) one [] other_built kept → ⊥
  another_build_of_a_make_is_refused kept h = builds_with_another_are_refused c h.built
