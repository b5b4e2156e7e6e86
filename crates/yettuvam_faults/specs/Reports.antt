-- The report of an error.
use Rattle.std.specs.Prelude.{ℕ, Option, Result, Ok, Err, List, [], map}
use Rattle.naga_oil_conditions.specs.Fault.{Fault}
use Rattle.naga_oil_ir.specs.Backend.{FaultValue}
use Rattle.naga_oil_lines.specs.Directives.{Directives}
use Rattle.naga_oil_lines.specs.Undecorate.{undecoration}
use Rattle.naga_oil_pre.specs.Extracted.{extracted}
use Rattle.naga_oil_registry.specs.Added.{read_source}
use Rattle.yettuvam_faults.specs.Marks.{Source, marks_of}
use Rattle.yettuvam_faults.specs.Message.{message_of}
use Rattle.yettuvam_faults.specs.Notes.{notes_of}
use Rattle.yettuvam_report.specs.Report.{report}

-- ---- the text in which places of lines count

abbrev pub text_or : (text : List ℕ) → Result (List ℕ × Directives) Fault → List ℕ
text_or text (Ok found) = found.0
text_or text (Err f) = text

-- a text without its directives; the text itself, if they can't be read
abbrev pub without_directives : (text : List ℕ) → List ℕ
without_directives text = text_or text (extracted text)

abbrev pub cleaned_or : (source : List ℕ) → Result (List ℕ × ℕ) Fault → List ℕ
cleaned_or source (Ok read) = without_directives read.0
cleaned_or source (Err f) = source

-- a source as it is read with this binding counter, without its directives; the source itself, if it can't be read
unfoldable pub cleaned_source : (counter : ℕ) (source : List ℕ) → List ℕ
cleaned_source counter source = cleaned_or source (read_source counter source)

-- ---- reports

-- the report of an error: its message, the marked parts of the file, and notes
unfoldable pub fault_report : Source → Option Fault → List ℕ
fault_report s f = report (message_of f) s.path s.file (marks_of s f) (notes_of f)

-- the report of why a shader that was made of the file at a path has no text
unfoldable pub write_report : (path : List ℕ) → FaultValue → List ℕ
write_report path f = report (undecoration f.message) path [] [] (map undecoration f.notes)
