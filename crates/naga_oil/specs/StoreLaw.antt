-- Law: each kept build is what building its module afresh gives.
use Rattle.std.specs.Prelude.{◌≡◌, ℕ, List, [], ◌∷◌, drop, suc, slice_get, true, Some, Ok}
use Rattle.std.specs.List.{All, IsDistinct}
use Rattle.std.specs.Map.{keys_of}
use Rattle.std.specs.Option.{IsSomeAnd}
use Rattle.naga_oil_imports.specs.Uses.{Import}
use Rattle.naga_oil_registry.specs.Added.{registry_with}
use Rattle.naga_oil_registry.specs.Registered.{Registered, Defs}
use Rattle.naga_oil_registry.specs.Registry.{IsRegistry, module_named, reaches, removed}
use Rattle.naga_oil_link.specs.BuiltModule.{BuiltModule, Builds}
use Rattle.naga_oil_build.specs.Held.{Settings}
use Rattle.naga_oil_build.specs.Overriding.{build_named}
use Rattle.naga_oil.specs.AfreshLaw.{afresh, AllStandAfresh}
use Rattle.naga_oil.specs.Outcome.{Doing, given, ◌>>=◌}
use Rattle.naga_oil.specs.Reach.{Unreached, Reaching, is_built, builds_with, enter_build, reach, reach_module, unless_built}
use Rattle.naga_oil.specs.Store.{Key, Kept, key_under, key_named, same_key, kept_under, is_kept, keep_build, forget}

-- ---- a store

module _ (s : Settings) (ds : List Registered) where
  -- the build of a name is kept under definitions
  abbrev pub IsKeptUnder : Kept → Defs → (name : List ℕ) → Type 0
  IsKeptUnder kept defs name = IsSomeAnd (key_named ds defs name) (λ k. is_kept kept k ≡ true)

  -- A kept build is the build of its module afresh under the definitions of its key, and the builds that it imports are kept under them.
  pub record IsKeptAfresh (kept : Kept) (k : Key) (b : BuiltModule) : Type 0 where
    pub key : key_named ds k.defs k.name ≡ Some k
    pub reached : (afresh s ds k.defs k.name).result ≡ Ok tt
    pub built : build_named (afresh s ds k.defs k.name).builds k.name ≡ Some b
    pub imports : All (λ i. IsKeptUnder kept k.defs i.import) b.imports

  -- no key is kept twice, and each kept build is as built afresh
  pub record IsStore (kept : Kept) : Type 0 where
    pub differ : IsDistinct same_key (keys_of kept)
    pub each : (k : Key) (b : BuiltModule) → kept_under kept k ≡ Some b → IsKeptAfresh kept k b

  -- Each build of a make is as built afresh, and is kept.
  pub record Stands (defs : Defs) (builds : Builds) (kept : Kept) : Type 0 where
    pub built : AllStandAfresh s ds defs builds
    pub store : IsStore kept
    pub each : (name : List ℕ) → is_built builds name ≡ true → IsKeptUnder kept defs name

-- ---- a module whose build is kept

-- imports are reached one after the other
unfoldable pub reach_imports : Reaching → List Import → Doing (Unit {0}) Unreached
reach_imports reaching [] = given (Ok tt)
reach_imports reaching (i ∷ is) = reaching i.import >>= λ done. reach_imports reaching is

-- the imports of a kept build are reached, and the build is entered
abbrev pub reach_kept : Reaching → (name : List ℕ) → BuiltModule → Doing (Unit {0}) Unreached
reach_kept reaching name b = reach_imports reaching b.imports >>= λ done. enter_build name (Ok b)

-- LAW: a module whose build is kept is reached without building it again
abbrev pub KeptLaw : Type 0
KeptLaw = (s : Settings) (ds : List Registered) (defs : Defs) (place : ℕ) (d : Registered) (b : BuiltModule) (builds : Builds) (kept : Kept) →
    IsRegistry ds → slice_get ds place ≡ Some d → Stands s ds defs builds kept → kept_under kept (key_under d defs) ≡ Some b →
    let reaching = unless_built (reach s defs (drop (suc place) ds)) in
    reach_module s defs d reaching builds ≡ reach_kept reaching d.name b builds

-- LAW: a build made over builds that stand, after the builds that it imports, stands too once it is kept
abbrev pub EnterLaw : Type 0
EnterLaw = (s : Settings) (ds : List Registered) (defs : Defs) (d : Registered) (b : BuiltModule) (builds mid : Builds) (kept : Kept) →
    IsRegistry ds → module_named d.name ds ≡ Some d → AllStandAfresh s ds defs builds → Stands s ds defs mid kept →
    reach s defs ds d.name builds ≡ record { builds = builds_with mid d.name b; result = Ok tt } →
    All (λ i. is_built mid i.import ≡ true) b.imports →
    Stands s ds defs (builds_with mid d.name b) (keep_build kept (key_under d defs) b)

-- LAW: after modules are removed, or one is added, the builds that are still kept are a store of the registry then
pub record ForgetLaw : Type 0 where
  pub removal : (s : Settings) (ds : List Registered) (name : List ℕ) (kept : Kept) → IsRegistry ds → IsStore s ds kept →
      IsStore s (removed name ds) (forget (λ other. reaches ds other name) kept)
  pub addition : (s : Settings) (ds : List Registered) (d : Registered) (kept : Kept) → IsRegistry ds → IsRegistry (registry_with ds d) → IsStore s ds kept →
      IsStore s (registry_with ds d) (forget (λ other. reaches ds other d.name) kept)
