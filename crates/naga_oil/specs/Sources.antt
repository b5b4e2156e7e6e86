-- The path of the text of an error, the text, and its offset.
use Rattle.std.specs.Prelude.{ℕ, List, [], Option, Some, None, Result, Ok, Err, string_bytes}
use Rattle.std.specs.BTreeMap.{get_by_text}
use Rattle.naga_oil_conditions.specs.Fault.{Fault, Definitions}
use Rattle.naga_oil_pre.specs.Preprocessed.{Output, preprocessed}
use Rattle.naga_oil_registry.specs.Registered.{Registered}
use Rattle.naga_oil_registry.specs.Registry.{module_named}
use Rattle.naga_oil_registry.specs.Report.{report}
use Rattle.naga_oil.specs.Reach.{defined}
use Rattle.naga_oil.specs.Refused.{Place, Refused, in_module, in_text}
use Rattle.naga_oil.specs.declared.compose.error.ErrSource.{ErrSource}
use Rattle.naga_oil.specs.declared.compose.error.ErrSource.TheVariants as code

-- the path of a module's file, or else its name
abbrev pub path_or_name : (name : List ℕ) → Option Registered → List ℕ
path_or_name name (Some d) = d.file_path
path_or_name name None = name

-- the path that reports give the text
abbrev pub path_of : List Registered → ErrSource → List ℕ
path_of ds (code.Constructing path source offset) = string_bytes path
path_of ds (code.Module name offset defs) = path_or_name (string_bytes name) (module_named (string_bytes name) ds)

-- what preprocessing gives, or the empty text for a fault
abbrev pub text_given : Result Output Fault → List ℕ
text_given (Ok o) = o.text
text_given (Err f) = []

-- a module's text preprocessed under definitions, or the empty text if there is no module
abbrev pub text_under : Definitions → Option Registered → List ℕ
text_under defs (Some d) = text_given (preprocessed defs d.source)
text_under defs None = []

-- the text
abbrev pub text_of : List Registered → ErrSource → List ℕ
text_of ds (code.Constructing path source offset) = string_bytes source
text_of ds (code.Module name offset defs) = text_under (get_by_text defs) (module_named (string_bytes name) ds)

-- the offset of the text among all that spans count over
abbrev pub offset_of : ErrSource → ℕ
offset_of (code.Constructing path source offset) = offset
offset_of (code.Module name offset defs) = offset

-- ---- the report of what a call is refused for

abbrev pub path_at : List Registered → Place → List ℕ
path_at ds (in_module name offset defs) = path_or_name name (module_named name ds)
path_at ds (in_text path source offset) = path

abbrev pub text_at : List Registered → Place → List ℕ
text_at ds (in_module name offset defs) = text_under (defined defs) (module_named name ds)
text_at ds (in_text path source offset) = source

abbrev pub offset_at : Place → ℕ
offset_at (in_module name offset defs) = offset
offset_at (in_text path source offset) = offset

-- the report, by the registered modules, which have the texts
abbrev pub report_of : List Registered → Refused → List ℕ
report_of ds r = report (path_at ds r.place) (text_at ds r.place) (offset_at r.place) (Some r.fault)
