-- The report of what a call of a composer is refused for, in the files of a build.
use Rattle.std.specs.Prelude.{ℕ, bytes_eq, if◌then◌else◌, Option, Some, None, List, [], ◌∷◌}
use Rattle.naga_oil_conditions.specs.Fault.{Fault}
use Rattle.naga_oil_registry.specs.Registered.{Registered}
use Rattle.naga_oil_registry.specs.Registry.{module_named}
use Rattle.naga_oil.specs.Refused.{Place, Refused, in_module, in_text}
use Rattle.naga_oil.specs.Sources.{offset_at, path_at, text_at}
use Rattle.yettuvam_build.specs.Files.{File}
use Rattle.yettuvam_faults.specs.Marks.{Source}
use Rattle.yettuvam_faults.specs.Reports.{cleaned_source, fault_report}

-- the text of the first file at a path, or the empty text
abbrev pub file_text : (path : List ℕ) → List File → List ℕ
file_text path [] = []
file_text path (f ∷ files) = if bytes_eq f.path path then f.text else file_text path files

abbrev pub source_of : Option Registered → List ℕ
source_of (Some d) = d.source
source_of None = []

-- the text without directives at a place; the binding counter is that before the call
abbrev pub cleaned_at : (counter : ℕ) → List Registered → Place → List ℕ
cleaned_at counter ds (in_module name offset defs) = source_of (module_named name ds)
cleaned_at counter ds (in_text path source offset) = cleaned_source counter source

-- the texts at a place
abbrev pub source_at : List File → (counter : ℕ) → List Registered → Place → Source
source_at files counter ds p = record {
  path = path_at ds p;
  file = file_text (path_at ds p) files;
  cleaned = cleaned_at counter ds p;
  parsed = text_at ds p;
  offset = offset_at p;
}

-- the report, by the files, the counter before the call, and the registered modules
unfoldable pub report_of : List File → (counter : ℕ) → List Registered → Refused → List ℕ
report_of files counter ds r = fault_report (source_at files counter ds r.place) (Some r.fault)

-- ---- a file alone

-- a file of which nothing was made yet
abbrev pub source_alone : File → Source
source_alone f = record { path = f.path; file = f.text; cleaned = f.text; parsed = f.text; offset = 0 }

-- the report of a fault of its directives
abbrev pub file_report : File → Option Fault → List ℕ
file_report f fault = fault_report (source_alone f) fault
