-- The code of a build, seen by the words of `Built`.
use Rattle.std.specs.Prelude.{◌≡◌, ℕ, List, Option, Some, ⊤, string_bytes}
use Rattle.naga_oil_registry.specs.Registered.{Registered}
use Rattle.naga_oil_registry.specs.Registry.{module_named}
use Rattle.naga_oil.specs.Refused.{Refused}
use Rattle.naga_oil.specs.Sources.{offset_of, path_of, text_of}
use Rattle.naga_oil.specs.State.{State}
use Rattle.naga_oil.specs.declared.compose.error.ErrSource.{ErrSource}
use Rattle.naga_oil.specs.declared.compose.error.ErrSource.TheVariants as code
use Rattle.yettuvam_build.specs.Built.{Modules}
use Rattle.yettuvam_build.specs.Files.{File}
use Rattle.yettuvam_build.specs.Reported.{file_text, report_of, source_of}
use Rattle.yettuvam_build.specs.declared.refusal.Refusal.{Refusal}
use Rattle.yettuvam_build.specs.declared.refusal.Refusal.TheVariants.{Fault, Memory}
use Rattle.yettuvam_faults.specs.Marks.{Source}
use Rattle.yettuvam_faults.specs.Reports.{cleaned_source}

-- the modules of a composer
abbrev pub modules_of : {B : Type 0} → State B → Modules
modules_of c = record { registry = c.registry; counter = c.counter }

-- the texts of an error
abbrev pub cleaned_of : (counter : ℕ) → List Registered → ErrSource → List ℕ
cleaned_of counter ds (code.Constructing path source offset) = cleaned_source counter (string_bytes source)
cleaned_of counter ds (code.Module name offset defs) = source_of (module_named (string_bytes name) ds)

abbrev pub source_in : List File → (counter : ℕ) → List Registered → ErrSource → Source
source_in files counter ds at = record {
  path = path_of ds at;
  file = file_text (path_of ds at) files;
  cleaned = cleaned_of counter ds at;
  parsed = text_of ds at;
  offset = offset_of at;
}

-- the refusal of an error over registered modules: its report in files, or out of memory
abbrev pub IsTold : List File → (counter : ℕ) → List Registered → Option Refused → Refusal → Type 0
IsTold files counter ds error (Fault report) = (r : Refused) × (error ≡ Some r) × (string_bytes report ≡ report_of files counter ds r)
IsTold files counter ds error Memory = ⊤
IsTold files counter ds error e = ⊥
