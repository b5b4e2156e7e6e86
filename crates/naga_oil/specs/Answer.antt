-- The answer of a make, top to bottom.
use Rattle.std.specs.Prelude.{ℕ, List, Some, None, Result, Ok, if◌then◌else◌}
use Rattle.naga_oil_ir.specs.ModuleValue.{ModuleValue}
use Rattle.naga_oil_imports.specs.Uses.{Use}
use Rattle.naga_oil_conditions.specs.Fault.{Fault, import_not_found}
use Rattle.naga_oil_pre.specs.Preprocessed.{Output}
use Rattle.naga_oil_registry.specs.Added.{counter_after, read_source}
use Rattle.naga_oil_registry.specs.Registered.{Registered, Defs}
use Rattle.naga_oil_registry.specs.Descriptor.{ShaderSource}
use Rattle.naga_oil_registry.specs.Merged.{overwritten}
use Rattle.naga_oil_link.specs.BuiltModule.{Builds}
use Rattle.naga_oil_build.specs.Built.{preprocessed_of}
use Rattle.naga_oil_build.specs.Held.{Settings}
use Rattle.naga_oil.specs.Finish.{finish}
use Rattle.naga_oil.specs.Outcome.{Outcome, Doing, given, from_no_builds, map_fault, over_builds, ◌>>=◌}
use Rattle.naga_oil.specs.Reach.{Unreached, missing, unbuilt, Rule, defined, reach, reach_each, unless_built}
use Rattle.naga_oil.specs.Refused.{Refused, in_given, in_module, in_read, placed}
use Rattle.naga_oil.specs.Shader.{read_shader, defs_union_over, may_use}

-- a fault lies in the text of a shader as it is read
abbrev pub in_shader : {X : Type 0} → (path text : List ℕ) → Result X Fault → Doing X Refused
in_shader path text r = given (placed (in_read path text) r)

-- what a shader is refused for if a module can't be reached: a fault of the shader's text, at the offset of the import, if the module
-- can't be imported, or else a fault of the module's text under these definitions
abbrev pub refusal : (path text : List ℕ) → Defs → Unreached → Refused
refusal path text defs (missing name offset) = record { fault = import_not_found name offset; place = in_read path text }
refusal path text defs (unbuilt name u) = record { fault = u.fault; place = in_module name u.offset defs }

-- modules are reached for a shader
abbrev pub of_shader : {X : Type 0} → (path text : List ℕ) → Defs → Doing X Unreached → Doing X Refused
of_shader path text defs step = map_fault (refusal path text defs) step

-- the first reading may import any module
abbrev pub any_use : Rule
any_use u = None

-- the second reading may import a module whose definitions are among those of the make, and any other is missing at the offset at which
-- the shader's text uses it
abbrev pub as_merged : List Registered → Defs → Rule
as_merged ds defs u = if may_use ds defs u then None else Some (missing u.import.import u.offset)

-- the modules that a shader uses are reached, each once: those that aren't built yet are built
abbrev pub reach_uses : Settings → List Registered → Defs → Rule → List Use → Doing (Unit {0}) Unreached
reach_uses s ds defs rule uses = reach_each rule (unless_built (reach s defs ds)) uses

-- the first reading of a shader, under its own definitions: those of the modules that it imports are merged with them, and these modules
-- are built under all
unfoldable pub read_and_build_first : Settings → List Registered → (text : List ℕ) → Registered → Defs → Doing Defs Refused
read_and_build_first s ds text shader own = do
  out ← in_shader shader.file_path text (preprocessed_of (defined own) shader)
  defs ← in_shader shader.file_path text (defs_union_over ds own out.uses)
  done ← of_shader shader.file_path text defs (reach_uses s ds defs any_use out.uses)
  given (Ok defs)

-- the second reading, under the merged definitions, to which it may add none: the modules that the shader imports then are built too
unfoldable pub read_and_build_second : Settings → List Registered → (text : List ℕ) → Registered → Defs → Doing Output Refused
read_and_build_second s ds text shader defs = do
  out ← in_shader shader.file_path text (preprocessed_of (defined defs) shader)
  done ← of_shader shader.file_path text defs (reach_uses s ds defs (as_merged ds defs) out.uses)
  given (Ok out)

-- a shader's metadata is read, and its defines overwrite the given definitions; then its text is read twice under definitions; and the
-- shader is built over the modules reached, linked and validated
unfoldable pub module_of_text : Settings → List Registered → ShaderSource → (text : List ℕ) → Doing ModuleValue Refused
module_of_text s ds m text = do
  shader ← in_shader m.file_path text (read_shader m text)
  defs ← read_and_build_first s ds text shader (overwritten m.defs shader.defs)
  out ← read_and_build_second s ds text shader defs
  over_builds (λ builds. finish s defs builds shader out m.shader_type)

-- a shader's source is read, with a number for each automatic binding, and the module of its text is made
abbrev pub module_of_source : Settings → List Registered → (counter : ℕ) → ShaderSource → Doing ModuleValue Refused
module_of_source s ds counter m = do
  read ← given (placed (in_given m.file_path m.source) (read_source counter m.source))
  module_of_text s ds m read.0

-- an answer: the counter after it, the builds that it makes, in order, also those before a fault, and its module or the first fault
pub record Answer : Type 0 where
  pub counter : ℕ
  pub builds : Builds
  pub result : Result ModuleValue Refused

abbrev pub with_counter : (counter : ℕ) → Outcome ModuleValue Refused → Answer
with_counter counter o = record { counter = counter; builds = o.builds; result = o.result }

-- the answer of a make by settings, registry, counter and inputs
unfoldable pub answer : Settings → List Registered → (counter : ℕ) → ShaderSource → Answer
answer s ds counter m = with_counter (counter_after counter m.source) (from_no_builds (module_of_source s ds counter m))
