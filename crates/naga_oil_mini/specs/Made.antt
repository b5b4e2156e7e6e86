-- What `oil make` shows: the text of the module that a make of its files answers, or what is wrong.
use Rattle.std.specs.Prelude.{ℕ, Bool, true, List, [], ◌∷◌, map, Option, Some, None, Result, Ok, Err}
use Rattle.naga_oil_words.specs.ResultSteps.{◌>>=◌}
use Rattle.naga_oil_ir.specs.ModuleValue.{ModuleValue}
use Rattle.naga_oil_imports.specs.Uses.{Import}
use Rattle.naga_oil_registry.specs.Added.{counter_after, registry_with}
use Rattle.naga_oil_registry.specs.Descriptor.{ModuleSource, ShaderSource, no_module, no_shader}
use Rattle.naga_oil_registry.specs.Registered.{Registered, Defs}
use Rattle.naga_oil_build.specs.Held.{Settings, settings}
use Rattle.naga_oil.specs.Addition.{addition}
use Rattle.naga_oil.specs.Answer.{answer}
use Rattle.naga_oil.specs.Refused.{Refused}
use Rattle.naga_oil.specs.Sources.{report_of}
use Rattle.naga_oil_mini_front.specs.Front.{mini}
use Rattle.naga_oil_mini_writer.specs.Writer.{module_text}
use Rattle.naga_oil_mini.specs.Words.{Asked}

-- ---- what is wrong

-- an error in a text, by its report, or a module that Mini has no text for
pub data Failure : Type 0 where
  reported : (report : List ℕ) → Failure
  not_in_mini : Failure

-- a value, or the report of what is refused in its place; the registered modules have the texts
abbrev pub or_report : {X : Type 0} → List Registered → Result X Refused → Result X Failure
or_report ds (Ok x) = Ok x
or_report ds (Err r) = Err (reported (report_of ds r))

-- the text of a module, if Mini has one
abbrev pub or_not_in_mini : Option (List ℕ) → Result (List ℕ) Failure
or_not_in_mini (Some text) = Ok text
or_not_in_mini None = Err not_in_mini

-- ---- files

-- a file: its path, and its text
pub record File : Type 0 where
  pub path : List ℕ
  pub text : List ℕ

-- a file as a module to add, under the import path of its text, with no definitions
abbrev pub module_of : File → ModuleSource
module_of f = record no_module { source = f.text; file_path = f.path }

-- an import of a module without items
abbrev pub bare_import : List ℕ → Import
bare_import name = record { import = name; items = [] }

-- a file as the shader to build, under definitions, with imports besides those of its text
abbrev pub shader_of : Defs → (imports : List (List ℕ)) → File → ShaderSource
shader_of defs imports f = record no_shader { source = f.text; file_path = f.path; defs = defs; additional = map bare_import imports }

-- ---- a make of files

-- registered modules, and the number of the next automatic binding
pub record Modules : Type 0 where
  pub registry : List Registered
  pub counter : ℕ

abbrev pub no_modules : Modules
no_modules = record { registry = []; counter = 0 }

-- modules, and that of a file, in place of the one with its name and of all that reach that one
unfoldable pub with_file : Modules → File → Result Modules Failure
with_file ms f = do
  d ← or_report ms.registry (addition ms.registry ms.counter (module_of f))
  Ok (record { registry = registry_with ms.registry d; counter = counter_after ms.counter f.text })

-- modules, and those of files, added one after the other up to the first error
unfoldable pub with_files : Modules → List File → Result Modules Failure
with_files ms [] = Ok ms
with_files ms (f ∷ fs) = with_file ms f >>= λ more. with_files more fs

-- Mini without capabilities, which validates what is made; any imported function can be overridden, or only virtual ones
abbrev pub settings_for : (override_any : Bool) → Settings
settings_for override_any = settings mini (record { 0 = 0 }) true override_any

-- the module of a shader, made over modules
abbrev pub made_over : Settings → Modules → ShaderSource → Result ModuleValue Failure
made_over s ms m = or_report ms.registry (answer s ms.registry ms.counter m).result

-- the module of a shader's file, made over those of the other files in their order
unfoldable pub made_module : Asked → Defs → (top : File) → (others : List File) → Result ModuleValue Failure
made_module a defs top others = do
  ms ← with_files no_modules others
  made_over (settings_for a.override_any) ms (shader_of defs a.imports top)

-- its text
unfoldable pub made_text : Asked → Defs → (top : File) → (others : List File) → Result (List ℕ) Failure
made_text a defs top others = made_module a defs top others >>= λ m. or_not_in_mini (module_text m)
