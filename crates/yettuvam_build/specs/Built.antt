-- What a build shows: the text of the module that a make of its files answers, after the shader's directives, or the report of what is
-- wrong.
use Rattle.std.specs.Prelude.{ℕ, Bool, true, List, [], ◌∷◌, ◌++◌, map, codes, slice_get, Option, Some, None, Result, Ok, Err}
use Rattle.naga_oil_words.specs.ResultSteps.{◌>>=◌}
use Rattle.naga_oil_conditions.specs.Fault.{Fault}
use Rattle.naga_oil_imports.specs.Uses.{Import}
use Rattle.naga_oil_ir.specs.Backend.{FaultValue, FrontEnd}
use Rattle.naga_oil_ir.specs.ModuleValue.{ModuleValue}
use Rattle.naga_oil_ir.specs.declared.backend.Capabilities.{Capabilities}
use Rattle.naga_oil_ir.specs.declared.language.ShaderLanguage.TheVariants.{Wgsl}
use Rattle.naga_oil_lines.specs.Directives.{Directives}
use Rattle.naga_oil_lines.specs.DirectivesText.{directives_text}
use Rattle.naga_oil_pre.specs.Extracted.{extracted}
use Rattle.naga_oil_registry.specs.Added.{counter_after, registry_with}
use Rattle.naga_oil_registry.specs.Descriptor.{ModuleSource, ShaderSource, no_module, no_shader}
use Rattle.naga_oil_registry.specs.Registered.{Registered, Defs}
use Rattle.naga_oil_build.specs.Held.{Settings, settings}
use Rattle.naga_oil.specs.Addition.{addition}
use Rattle.naga_oil.specs.Answer.{answer}
use Rattle.naga_oil.specs.Refused.{Refused}
use Rattle.yettuvam_build.specs.Files.{File}
use Rattle.yettuvam_build.specs.Order.{module_order}
use Rattle.yettuvam_build.specs.Reported.{file_report, report_of}
use Rattle.yettuvam_build.specs.Words.{Request}
use Rattle.yettuvam_faults.specs.Reports.{write_report}

-- a value, or the report of what is refused in its place, by the files, the counter before the call, and the registered modules
abbrev pub or_report : {X : Type 0} → List File → (counter : ℕ) → List Registered → Result X Refused → Result X (List ℕ)
or_report files counter ds (Ok x) = Ok x
or_report files counter ds (Err r) = Err (report_of files counter ds r)

-- ---- files

-- a file as a module to add, under the import path of its text, with no definitions
abbrev pub module_of : File → ModuleSource
module_of f = record no_module { source = f.text; file_path = f.path }

-- an import of a module without items
abbrev pub bare_import : List ℕ → Import
bare_import name = record { import = name; items = [] }

-- a file as the shader to build, under definitions, with imports besides those of its text
abbrev pub shader_of : Defs → (imports : List (List ℕ)) → File → ShaderSource
shader_of defs imports f = record no_shader { source = f.text; file_path = f.path; defs = defs; additional = map bare_import imports }

-- ---- a make of files

-- registered modules, and the number of the next automatic binding
pub record Modules : Type 0 where
  pub registry : List Registered
  pub counter : ℕ

abbrev pub no_modules : Modules
no_modules = record { registry = []; counter = 0 }

-- modules, and that of a file, in place of the one with its name and of all that reach that one
unfoldable pub with_file : Modules → File → Result Modules (List ℕ)
with_file ms f = do
  d ← or_report (f ∷ []) ms.counter ms.registry (addition ms.registry ms.counter (module_of f))
  Ok (record { registry = registry_with ms.registry d; counter = counter_after ms.counter f.text })

abbrev pub with_any : Modules → Option File → Result Modules (List ℕ)
with_any ms (Some f) = with_file ms f
with_any ms None = Ok ms

-- modules, and that of the file at a place, if there is one
abbrev pub with_place : List File → Modules → (place : ℕ) → Result Modules (List ℕ)
with_place fs ms place = with_any ms (slice_get fs place)

-- modules, and those of the files at places, added one after the other up to the first error
unfoldable pub with_places : List File → Modules → (places : List ℕ) → Result Modules (List ℕ)
with_places fs ms [] = Ok ms
with_places fs ms (place ∷ places) = with_place fs ms place >>= λ more. with_places fs more places

abbrev pub no_capabilities : Capabilities
no_capabilities = record { 0 = 0 }

-- a front end without capabilities, which validates what is made; any imported function can be overridden, or only virtual ones
abbrev pub settings_for : FrontEnd → (override_any : Bool) → Settings
settings_for front override_any = settings front no_capabilities true override_any

-- the module of a shader, made over modules, or its report in these files
abbrev pub made_over : Settings → List File → Modules → ShaderSource → Result ModuleValue (List ℕ)
made_over s files ms m = or_report files ms.counter ms.registry (answer s ms.registry ms.counter m).result

-- the module of a shader's file, made over those of the other files, which are added in an order
unfoldable pub made_ordered : FrontEnd → Request → Defs → (top : File) → (others : List File) → (order : List ℕ) → Result ModuleValue (List ℕ)
made_ordered front r defs top others order = do
  ms ← with_places others no_modules order
  made_over (settings_for front r.override_any) (top ∷ others) ms (shader_of defs r.imports top)

-- the module of a shader's file, made over those of the other files, each of which is added after those that it imports
unfoldable pub made_module : FrontEnd → Request → Defs → (top : File) → (others : List File) → Result ModuleValue (List ℕ)
made_module front r defs top others = module_order others >>= made_ordered front r defs top others

-- ---- its text

abbrev pub text_before : Result (List ℕ × Directives) Fault → Result (List ℕ) Fault
text_before (Ok found) = Ok (directives_text found.1)
text_before (Err fault) = Err fault

-- the text of the directives at the start of a text
abbrev pub directives : (text : List ℕ) → Result (List ℕ) Fault
directives text = text_before (extracted text)

-- a text, or the report of a fault of a file
abbrev pub or_fault : File → Result (List ℕ) Fault → Result (List ℕ) (List ℕ)
or_fault f (Ok text) = Ok text
or_fault f (Err fault) = Err (file_report f (Some fault))

-- the text of the directives of a file
abbrev pub own_directives : File → Result (List ℕ) (List ℕ)
own_directives f = or_fault f (directives f.text)

abbrev pub or_unwritten : (path : List ℕ) → Result (List ℕ) FaultValue → Result (List ℕ) (List ℕ)
or_unwritten path (Ok text) = Ok text
or_unwritten path (Err f) = Err (write_report path f)

-- the text of a module that was made of the file at a path
abbrev pub written : FrontEnd → (path : List ℕ) → ModuleValue → Result (List ℕ) (List ℕ)
written front path m = or_unwritten path (front.write m Wgsl no_capabilities)

-- the text of a module, after the directives of the shader's file
unfoldable pub shader_text : FrontEnd → (top : File) → ModuleValue → Result (List ℕ) (List ℕ)
shader_text front top m = do
  start ← own_directives top
  body ← written front top.path m
  Ok (start ++ body)

-- the text of the shader of a file that is made over the modules of the other files
unfoldable pub built_text : FrontEnd → Request → Defs → (top : File) → (others : List File) → Result (List ℕ) (List ℕ)
built_text front r defs top others = made_module front r defs top others >>= shader_text front top
