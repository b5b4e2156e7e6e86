-- Where errors lie, and what is said of their places.
use Rattle.std.specs.Prelude.{ℕ, ◌==◌, if◌then◌else◌, Option, Some, List, [], codes}
use Rattle.naga_oil_conditions.specs.Fault as fault
use Rattle.naga_oil_conditions.specs.Fault.{Fault}
use Rattle.naga_oil_ir.specs.declared.span.Span.{Span}
use Rattle.yettuvam_faults.specs.Message.{is_ambiguous}

-- where an error lies, besides the spans of a front end
pub data Place : Type 0 where
  nowhere : Place
  -- bytes of the file
  bytes : (start end : ℕ) → Place
  -- a line of the file, by its index from 0
  line_index : (index : ℕ) → Place
  -- the line of a place in the text without directives
  line_at : (at : ℕ) → Place
  -- the word at a place in the text without directives
  word_at : (at : ℕ) → Place
  -- the line that opens the condition which is open at the end, the place, of the text without directives
  left_open : (end : ℕ) → Place
  -- the word at a place in the preprocessed text
  named : (at : ℕ) → Place
  -- an item of the preprocessed text
  item : Span → Place

-- the place of an import's use; an import that the text doesn't use has the place 0, where no use can be
abbrev pub use_place : ℕ → Place
use_place at = if at == 0 then nowhere else word_at at

abbrev pub place_of : Option Fault → Place
place_of (Some (fault.invalid_import text at)) = word_at at
place_of (Some (fault.import_not_found name at)) = use_place at
place_of (Some (fault.not_enough_end_ifs at)) = left_open at
place_of (Some (fault.too_many_end_ifs at)) = line_at at
place_of (Some (fault.else_without_condition at)) = line_at at
place_of (Some (fault.unknown_operator at operator)) = line_at at
place_of (Some (fault.unknown_def at name)) = line_at at
place_of (Some (fault.invalid_value at name value expected)) = line_at at
place_of (Some (fault.invalid_definition at name value)) = line_at at
place_of (Some (fault.define_in_module at)) = line_at at
place_of (Some (fault.invalid_version at)) = line_at at
place_of (Some (fault.decoration_in_source start end)) = bytes start end
place_of (Some (fault.not_virtual name at)) = named at
place_of (Some (fault.invalid_identifier original at)) = item at
place_of (Some (fault.invalid_directive text index reason)) = line_index index
place_of _ = nowhere

abbrev pub import_label : (text : List ℕ) → List ℕ
import_label text = if is_ambiguous text then codes "used here" else []

-- what is said of the place
abbrev pub label_of : Option Fault → List ℕ
label_of (Some (fault.invalid_import text at)) = import_label text
label_of (Some (fault.import_not_found name at)) = codes "used here"
label_of (Some (fault.not_enough_end_ifs at)) = codes "opened here"
label_of (Some (fault.too_many_end_ifs at)) = codes "no condition is open here"
label_of (Some (fault.else_without_condition at)) = codes "no condition is open here"
label_of (Some (fault.not_virtual name at)) = codes "overridden here"
label_of _ = []

-- the spans of a front end that lie in the text, each with its label; those of a header lie in the texts of imported modules
abbrev pub spans_of : Option Fault → List (Span × List ℕ)
spans_of (Some (fault.wgsl_parse f)) = f.spans
spans_of (Some (fault.glsl_parse f)) = f.spans
spans_of (Some (fault.shader_validation f)) = f.spans
spans_of _ = []
