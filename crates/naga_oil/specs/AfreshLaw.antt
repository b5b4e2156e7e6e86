-- Law: reaching a module gives what reaching it from no builds gives, whatever was built before.
use Rattle.std.specs.Prelude.{◌≡◌, ℕ, List, [], ◌++◌, reverse, true, Ok}
use Rattle.std.specs.List.{All}
use Rattle.naga_oil_imports.specs.Uses.{Use}
use Rattle.naga_oil_pre.specs.Preprocessed.{Output}
use Rattle.naga_oil_registry.specs.Registered.{Registered, Defs}
use Rattle.naga_oil_registry.specs.Registry.{IsRegistry}
use Rattle.naga_oil_link.specs.BuiltModule.{Builds}
use Rattle.naga_oil_build.specs.Held.{Settings}
use Rattle.naga_oil_build.specs.Overriding.{build_named}
use Rattle.naga_oil.specs.Answer.{read_and_build_second}
use Rattle.naga_oil.specs.LocalLaw.{AlikeIn, BuildsDiffer, UsesAlike}
use Rattle.naga_oil.specs.Outcome.{Outcome}
use Rattle.naga_oil.specs.Reach.{Unreached, Rule, is_built, reach, reach_each, unless_built}
use Rattle.naga_oil.specs.Refused.{Refused}

-- builds with others added after them
pub record Grows (old new : Builds) : Type 0 where
  pub more : Builds
  pub is : new ≡ old ++ more

-- all used modules are built
abbrev pub AreBuilt : Builds → List Use → Type 0
AreBuilt bs uses = All (λ u. is_built bs u.import.import ≡ true) uses

module _ (s : Settings) (ds : List Registered) (defs : Defs) where
  -- the outcome of reaching a module from no builds
  abbrev pub afresh : (name : List ℕ) → Outcome (Unit {0}) Unreached
  afresh name = reach s defs ds name []

  -- the build of a name, with the builds that it imports, is as built afresh
  pub record StandsAfresh (bs : Builds) (name : List ℕ) : Type 0 where
    pub reached : (afresh name).result ≡ Ok tt
    pub alike : AlikeIn (reverse bs) (reverse (afresh name).builds) name

  -- no name is built twice, and each build is as built afresh
  pub record AllStandAfresh (bs : Builds) : Type 0 where
    pub differ : BuildsDiffer bs
    pub each : (name : List ℕ) → is_built bs name ≡ true → StandsAfresh bs name

  -- the build of a module is its build afresh
  pub record IsBuiltAfresh (bs : Builds) (name : List ℕ) : Type 0 where
    pub built : is_built bs name ≡ true
    pub same : build_named bs name ≡ build_named (afresh name).builds name

  -- a module is reached over builds as it is from no builds
  pub record IsReachedAfresh (bs : Builds) (name : List ℕ) (o : Outcome (Unit {0}) Unreached) : Type 0 where
    pub result : o.result ≡ (afresh name).result
    pub grows : Grows bs o.builds
    pub stand : AllStandAfresh o.builds
    pub built : o.result ≡ Ok tt → IsBuiltAfresh o.builds name

  -- each used module is reached, unless it is built
  abbrev pub reach_new : Rule → List Use → Builds → Outcome (Unit {0}) Unreached
  reach_new rule uses = reach_each rule (unless_built (reach s defs ds)) uses

  -- the used modules, reached one after the other, are reached as from no builds
  pub record AreReachedAfresh (rule : Rule) (uses : List Use) (bs : Builds) (o : Outcome (Unit {0}) Unreached) : Type 0 where
    pub result : o.result ≡ (reach_new rule uses []).result
    pub grows : Grows bs o.builds
    pub stand : AllStandAfresh o.builds
    pub built : o.result ≡ Ok tt → All (λ u. IsBuiltAfresh o.builds u.import.import) uses

-- Over builds that are all as built afresh, modules are reached as from no builds, with the same first fault, and the new builds are
-- as built afresh too. No builds are so, to begin with; and over any two such rows of builds the used modules stand alike.
pub record ReachesAfresh (s : Settings) (ds : List Registered) (defs : Defs) : Type 0 where
  pub nothing : AllStandAfresh s ds defs []
  pub one : (name : List ℕ) (bs : Builds) → AllStandAfresh s ds defs bs → IsReachedAfresh s ds defs bs name (reach s defs ds name bs)
  pub unless : (name : List ℕ) (bs : Builds) → AllStandAfresh s ds defs bs → IsReachedAfresh s ds defs bs name (unless_built (reach s defs ds) name bs)
  pub each : (rule : Rule) (uses : List Use) (bs : Builds) → AllStandAfresh s ds defs bs → AreReachedAfresh s ds defs rule uses bs (reach_new s ds defs rule uses bs)
  pub alike : (uses : List Use) (bs cs : Builds) → AllStandAfresh s ds defs bs → AllStandAfresh s ds defs cs → AreBuilt bs uses → AreBuilt cs uses → UsesAlike bs cs uses

-- LAW: modules are reached as they are from no builds, whatever was built before
abbrev pub AfreshLaw : Type 0
AfreshLaw = (s : Settings) (ds : List Registered) (defs : Defs) → IsRegistry ds → ReachesAfresh s ds defs

-- a reading of a shader over builds is as it is over no builds
pub record IsReadAfresh {X : Type 0} (s : Settings) (ds : List Registered) (defs : Defs) (bs : Builds) (none o : Outcome X Refused) : Type 0 where
  pub result : o.result ≡ none.result
  pub grows : Grows bs o.builds
  pub stand : AllStandAfresh s ds defs o.builds

-- LAW: the second reading of a shader is as it is over no builds, and the modules that the shader uses are built after it
pub record SecondLaw (s : Settings) (ds : List Registered) (defs : Defs) (text : List ℕ) (shader : Registered) (bs : Builds) : Type 0 where
  pub read : IsReadAfresh s ds defs bs (read_and_build_second s ds text shader defs []) (read_and_build_second s ds text shader defs bs)
  pub built : (out : Output) → (read_and_build_second s ds text shader defs bs).result ≡ Ok out → AreBuilt (read_and_build_second s ds text shader defs bs).builds out.uses

abbrev pub ReadingLaw : Type 0
ReadingLaw = (s : Settings) (ds : List Registered) (defs : Defs) (text : List ℕ) (shader : Registered) (bs : Builds) → IsRegistry ds → AllStandAfresh s ds defs bs → SecondLaw s ds defs text shader bs
