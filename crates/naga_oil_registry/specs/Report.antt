-- Reports of errors: the message, its places in a text, and notes.
use Rattle.std.specs.Prelude.{ℕ, ◌+◌, ◌-◌, ◌%◌, ◌==◌, not, if◌then◌else◌, Option, Some, None, List, [], ◌∷◌, ◌++◌, length, take, count_by, codes}
use Rattle.std.specs.Fmt.{decimal}
use Rattle.std.specs.List.{flat_map, suffix_len}
use Rattle.naga_oil_ir.specs.RedirectFault.{RedirectFault, not_found, argument_mismatch, return_type_mismatch, circular_reference}
use Rattle.naga_oil_ir.specs.declared.span.Span.{Span}
use Rattle.naga_oil_lines.specs.Undecorate.{undecoration}
use Rattle.naga_oil_conditions.specs.Fault as fault
use Rattle.naga_oil_conditions.specs.Fault.{Fault}
use Rattle.naga_oil_registry.specs.Sanitized.{end_line}
use Rattle.naga_oil_ir.specs.Spans.{span_stride}

-- ---- the message
abbrev pub redirection_message : RedirectFault → List ℕ
redirection_message (not_found name) = codes "can't find function " ++ name ++ codes " for redirection"
redirection_message (argument_mismatch replacement original) = replacement ++ codes " cannot override " ++ original ++ codes " due to argument mismatch"
redirection_message (return_type_mismatch replacement original) = replacement ++ codes " cannot override " ++ original ++ codes " due to return type mismatch"
redirection_message (circular_reference names) = codes "circular reference; can't find an order for : " ++ names

abbrev pub message : Option Fault → List ℕ
message (Some (fault.invalid_import text at)) = text
message (Some (fault.import_not_found name at)) = codes "required import '" ++ name ++ codes "' not found"
message (Some (fault.wgsl_parse f)) = f.message
message (Some (fault.glsl_parse f)) = f.message
message (Some (fault.wgsl_back f)) = codes "naga_oil bug, please file a report: failed to convert imported module IR back into WGSL for use with WGSL shaders: " ++ f.message
message (Some (fault.glsl_back f)) = codes "naga_oil bug, please file a report: failed to convert imported module IR back into GLSL for use with GLSL shaders: " ++ f.message
message (Some (fault.header_validation f)) = codes "naga_oil bug, please file a report: composer failed to build a valid header: " ++ f.message
message (Some (fault.shader_validation f)) = codes "failed to build a valid final module: " ++ f.message
message (Some (fault.not_enough_end_ifs at)) = codes "Not enough '# endif' lines. Each if statement should be followed by an endif statement."
message (Some (fault.too_many_end_ifs at)) = codes "Too many '# endif' lines. Each endif should be preceded by an if statement."
message (Some (fault.else_without_condition at)) = codes "'#else' without preceding condition."
message (Some (fault.unknown_operator at operator)) = codes "Unknown shader def operator: '" ++ operator ++ codes "'"
message (Some (fault.unknown_def at name)) = codes "Unknown shader def: '" ++ name ++ codes "'"
message (Some (fault.invalid_value at name value expected)) = codes "Invalid shader def comparison for '" ++ name ++ codes "': expected " ++ expected ++ codes ", got " ++ value
message (Some (fault.inconsistent_def name)) = codes "multiple inconsistent shader def values: '" ++ name ++ codes "'"
message (Some fault.no_module_name) = codes "Attempted to add a module with no #define_import_path"
message (Some (fault.decoration_in_source start end)) = codes "source contains internal decoration string, results probably won't be what you expect. if you have a legitimate reason to do this please file a report"
message (Some (fault.invalid_version at)) = codes "naga oil only supports glsl 440 and 450"
message (Some (fault.redirection f)) = codes "invalid override :" ++ redirection_message f
message (Some fault.redirection_memory) = codes "invalid override :out of memory"
message (Some (fault.not_virtual name at)) = codes "override is invalid as `" ++ name ++ codes "` is not virtual (this error can be disabled with feature 'override_any')"
message (Some (fault.invalid_identifier original at)) = codes "Composable module identifiers must not require substitution according to naga writeback rules: `" ++ original ++ codes "`"
message (Some (fault.invalid_definition at name value)) = codes "Invalid value for `#define`d shader def " ++ name ++ codes ": " ++ value
message (Some (fault.define_in_module at)) = codes "#define statements are only allowed at the start of the top-level shaders"
message (Some (fault.invalid_directive text index reason)) = codes "Invalid WGSL directive '" ++ text ++ codes "' at line " ++ decimal index ++ codes ": " ++ reason
message (Some fault.too_many_modules) = codes "too many modules"
message (Some fault.bindings_exhausted) = codes "no binding left"
message (Some fault.text_too_large) = codes "shader text too large"
message (Some fault.wrong_form) = codes "front end gave a module of wrong form"
message None = codes "out of memory"

-- ---- its places
pub data ErrorPlaces : Type 0 where
  -- in the text as a whole
  no_place : ErrorPlaces
  byte : ℕ → ErrorPlaces
  -- the start of the line with this index
  line : ℕ → ErrorPlaces
  -- an item, labelled with the message
  item : Span → ErrorPlaces
  -- spans, each with its label
  spans : List (Span × List ℕ) → ErrorPlaces

abbrev pub fault_places : Option Fault → ErrorPlaces
fault_places (Some (fault.invalid_import text at)) = byte at
fault_places (Some (fault.import_not_found name at)) = byte at
fault_places (Some (fault.wgsl_parse f)) = spans f.spans
fault_places (Some (fault.glsl_parse f)) = spans f.spans
fault_places (Some (fault.header_validation f)) = spans f.spans
fault_places (Some (fault.shader_validation f)) = spans f.spans
fault_places (Some (fault.not_enough_end_ifs at)) = byte at
fault_places (Some (fault.too_many_end_ifs at)) = byte at
fault_places (Some (fault.else_without_condition at)) = byte at
fault_places (Some (fault.unknown_operator at operator)) = byte at
fault_places (Some (fault.unknown_def at name)) = byte at
fault_places (Some (fault.invalid_value at name value expected)) = byte at
fault_places (Some (fault.decoration_in_source start end)) = byte start
fault_places (Some (fault.invalid_version at)) = byte at
fault_places (Some (fault.redirection f)) = byte 0
fault_places (Some fault.redirection_memory) = byte 0
fault_places (Some (fault.not_virtual name at)) = byte at
fault_places (Some (fault.invalid_identifier original at)) = item at
fault_places (Some (fault.invalid_definition at name value)) = byte at
fault_places (Some (fault.define_in_module at)) = byte at
fault_places (Some (fault.invalid_directive text index reason)) = line index
fault_places (Some (fault.wgsl_back f)) = no_place
fault_places (Some (fault.glsl_back f)) = no_place
fault_places (Some (fault.inconsistent_def name)) = no_place
fault_places (Some fault.no_module_name) = no_place
fault_places (Some fault.too_many_modules) = no_place
fault_places (Some fault.bindings_exhausted) = no_place
fault_places (Some fault.text_too_large) = no_place
fault_places (Some fault.wrong_form) = no_place
fault_places None = no_place

-- ---- its notes
abbrev pub fault_notes : Option Fault → List (List ℕ)
fault_notes (Some (fault.invalid_import text at)) = (codes "invalid import spec: '" ++ text ++ codes "'") ∷ []
fault_notes (Some (fault.import_not_found name at)) = (codes "missing import '" ++ name ++ codes "'") ∷ []
fault_notes (Some (fault.wgsl_parse f)) = f.notes
fault_notes (Some (fault.glsl_parse f)) = f.notes
fault_notes (Some (fault.header_validation f)) = f.notes
fault_notes (Some (fault.shader_validation f)) = f.notes
fault_notes (Some (fault.redirection f)) = codes "override error" ∷ []
fault_notes (Some fault.redirection_memory) = codes "override error" ∷ []
fault_notes _ = []

-- ---- in a text

-- the line and the column of a place, from 1: the number of line ends before it, and the number of bytes between the last of them
-- and it; a place after the end counts as the end
abbrev pub line_column : List ℕ → ℕ → ℕ × ℕ
line_column text place = (count_by (λ b. b == 10) (take place text) + 1, suffix_len (λ b. not (b == 10)) (take place text) + 1)

-- the place in the text where a span begins, for a text at this offset; the bits from 2 ^ 21 on are the index of the text's
-- module
abbrev pub span_place : ℕ → Span → ℕ
span_place offset s = s.start % span_stride - offset

abbrev pub said_after : List ℕ → List ℕ
said_after said = end_line (if length said == 0 then [] else codes ": " ++ said)

abbrev pub place_line : (path : List ℕ) → ℕ × ℕ → (said : List ℕ) → List ℕ
place_line path place said = codes "  at " ++ path ++ codes ":" ++ decimal place.0 ++ codes ":" ++ decimal place.1 ++ said_after said

abbrev pub no_place_line : (path : List ℕ) → List ℕ
no_place_line path = end_line (codes "  in " ++ path)

abbrev pub span_lines : (path text : List ℕ) → ℕ → List (Span × List ℕ) → List ℕ
span_lines path text offset [] = no_place_line path
span_lines path text offset (s ∷ more) = flat_map (λ s. place_line path (line_column text (span_place offset s.0)) s.1) (s ∷ more)

abbrev pub place_lines : (path text : List ℕ) → ℕ → (message : List ℕ) → ErrorPlaces → List ℕ
place_lines path text offset message no_place = no_place_line path
place_lines path text offset message (byte place) = place_line path (line_column text place) []
place_lines path text offset message (line index) = place_line path (index + 1, 1) []
place_lines path text offset message (item s) = place_line path (line_column text (span_place offset s)) message
place_lines path text offset message (spans ss) = span_lines path text offset ss

abbrev pub note_line : List ℕ → List ℕ
note_line note = end_line (codes "  note: " ++ note)

-- the report, with decorated names
unfoldable pub report_text : (path text : List ℕ) → ℕ → Option Fault → List ℕ
report_text path text offset f =
    end_line (codes "error: " ++ message f) ++ place_lines path text offset (message f) (fault_places f) ++ flat_map note_line (fault_notes f)

-- the report, with undecorated names
unfoldable pub report : (path text : List ℕ) → ℕ → Option Fault → List ℕ
report path text offset f = undecoration (report_text path text offset f)
