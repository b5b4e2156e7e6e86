-- How the modules that a text imports are reached: each is built over the builds that it imports itself.
use Rattle.std.specs.Prelude.{ℕ, Bool, List, [], ◌∷◌, Option, Some, None, Result, Ok, Err, bytes_eq, unwrap_or, if◌then◌else◌}
use Rattle.std.specs.BTreeMap.{is_at}
use Rattle.std.specs.Cmp.Lexicographic.{slice_cmp}
use Rattle.std.specs.List.{list_any}
use Rattle.std.specs.Map.{lookup}
use Rattle.std.specs.Ordering.{nat_cmp}
use Rattle.indexmap.specs.IndexMap.{insert_entry}
use Rattle.naga_oil_imports.specs.Uses.{Use}
use Rattle.naga_oil_conditions.specs.Fault.{Fault, Definitions}
use Rattle.naga_oil_pre.specs.Preprocessed.{Output}
use Rattle.naga_oil_registry.specs.Registered.{Registered, Defs}
use Rattle.naga_oil_link.specs.BuiltModule.{BuiltModule, Builds}
use Rattle.naga_oil_build.specs.Build.{Unbuilt, build}
use Rattle.naga_oil_build.specs.Built.{preprocessed_of}
use Rattle.naga_oil_build.specs.Held.{Settings}
use Rattle.naga_oil.specs.Outcome.{Doing, given, ◌>>=◌}

-- what a name is defined as
abbrev pub defined : Defs → Definitions
defined defs name = lookup (is_at (slice_cmp nat_cmp name)) defs

-- why a module can't be reached: it can't be imported at an offset of the importing text, or it can't be built
pub data Unreached : Type 0 where
  missing : (name : List ℕ) (offset : ℕ) → Unreached
  unbuilt : (name : List ℕ) → Unbuilt → Unreached

-- ---- builds by their names

-- whether a module is built
abbrev pub is_built : Builds → List ℕ → Bool
is_built builds name = list_any (λ b. bytes_eq name b.0) builds

-- builds with one more under a name, unless the name has a build
abbrev pub builds_with : Builds → List ℕ → BuiltModule → Builds
builds_with builds name b = insert_entry bytes_eq builds name (unwrap_or (lookup (bytes_eq name) builds) b)

-- a build is entered under the name of its module
abbrev pub enter_build : (name : List ℕ) → Result BuiltModule Unbuilt → Doing (Unit {0}) Unreached
enter_build name (Ok b) builds = record { builds = builds_with builds name b; result = Ok tt }
enter_build name (Err u) builds = record { builds = builds; result = Err (unbuilt name u) }

-- ---- what is reached

-- how a module of a name is reached
abbrev pub Reaching : Type 0
Reaching = List ℕ → Doing (Unit {0}) Unreached

-- a module that is built isn't reached again
abbrev pub unless_built : Reaching → Reaching
unless_built reaching name builds = if is_built builds name then given (Ok tt) builds else reaching name builds

-- why a use isn't allowed, or none if it is
abbrev pub Rule : Type 0
Rule = Use → Option Unreached

abbrev pub unless_refused : Option Unreached → Doing (Unit {0}) Unreached → Doing (Unit {0}) Unreached
unless_refused None doing = doing
unless_refused (Some why) doing = given (Err why)

-- the used modules are reached in order, if a rule allows them
unfoldable pub reach_each : Rule → Reaching → List Use → Doing (Unit {0}) Unreached
reach_each rule reaching [] = given (Ok tt)
reach_each rule reaching (u ∷ us) = unless_refused (rule u) (reaching u.import.import) >>= λ done. reach_each rule reaching us

-- An import has to be recorded of the text of the importing module, or listed in addition to it. Any other is missing at offset 0 of the
-- shader's text, which needn't name it: the text of the shader is the one that its fault is reported in.
abbrev pub as_recorded : Registered → Rule
as_recorded d u = if list_any (λ i. bytes_eq i.import.import u.import.import) d.imports then None else Some (missing u.import.import 0)

-- a module is preprocessed under definitions
abbrev pub preprocess_module : Defs → Registered → Result Output Fault → Doing Output Unreached
preprocess_module defs d (Ok out) = given (Ok out)
preprocess_module defs d (Err f) = given (Err (unbuilt d.name (record { fault = f; offset = 0 })))

-- a module is preprocessed, the modules that it uses are reached, and it is built over them
unfoldable pub reach_module : Settings → Defs → Registered → Reaching → Doing (Unit {0}) Unreached
reach_module s defs d reaching = do
  out ← preprocess_module defs d (preprocessed_of (defined defs) d)
  done ← reach_each (as_recorded d) reaching out.uses
  λ builds. enter_build d.name (build s d out builds) builds

-- the newest module of a name is reached, over the modules that were registered before it
unfoldable pub reach : Settings → Defs → List Registered → Reaching
reach s defs [] name = given (Err (missing name 0))
reach s defs (d ∷ earlier) name = if bytes_eq d.name name then reach_module s defs d (unless_built (reach s defs earlier)) else reach s defs earlier name
