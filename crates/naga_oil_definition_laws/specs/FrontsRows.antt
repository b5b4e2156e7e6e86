-- Worked rows: what the two front ends read, write and find valid, and what they refuse.
use lib.Utf8.{encode}
use Rattle.std.specs.Prelude.{◌≡◌, refl, ℕ, List, [], ◌∷◌, ◌++◌, Some, Result, Ok, Err, codes}
use Rattle.std.specs.Fmt.{digits}
use Rattle.std.specs.Str.{chars, trim_start, trim_end}
use Rattle.ucd_perl.proofs.Computing.{ucd_perl}
use Rattle.naga_oil_words.specs.Bytes.{newline}
use Rattle.naga_oil_ir.specs.Backend.{FaultValue}
use Rattle.naga_oil_ir.specs.ModuleValue.{ModuleValue}
use Rattle.naga_oil_ir.specs.Parts.{expr}
use Rattle.naga_oil_ir.specs.Rows.{Row, row, ConstantKind}
use Rattle.naga_oil_ir.specs.Spans.{undefined}
use Rattle.naga_oil_ir.specs.declared.backend.Capabilities.{Capabilities}
use Rattle.naga_oil_ir.specs.declared.language.ShaderLanguage.{ShaderLanguage}
use Rattle.naga_oil_ir.specs.declared.names.ItemPlace.TheVariants.{TypeItem, ExpressionItem}
use Rattle.naga_oil_ir.specs.declared.parts.Named.TheVariants.{Nothing, ConstantAt}
use Rattle.naga_oil_ir.specs.declared.span.Span.{Span}
use Rattle.naga_oil_conditions.specs.Values.{read_u32}
use Rattle.naga_oil_mini_writer.specs.BodyReader.{end_of}
use Rattle.naga_oil_mini_writer.specs.Order.{has_order}
use Rattle.naga_oil_mini_writer.specs.Writer.{body_line, function_text, entry_text, items_text, module_text, not_in_mini}
use Rattle.naga_oil_mini_front.specs.Front.{mini}
use Rattle.naga_oil_mini_front.specs.Reader as mini_reader
use Rattle.naga_oil_mini_front.specs.Valid.{call_fault, validated}
use Rattle.naga_oil_palette.specs.Front.{palette, not_written, too_many}
use Rattle.naga_oil_palette.specs.Reader as palette_reader

-- `unfolding front_ends` lets `refl` compute the modules of texts and the texts of modules
unfoldable front_ends : Unit {0}
unfolding read_u32 mini_reader.with_line mini_reader.parsed end_of has_order body_line function_text entry_text items_text module_text validated digits trim_start trim_end chars encode ucd_perl
front_ends = tt

abbrev span : ℕ → ℕ → Span
span start end = record { start = start; end = end }

-- ---- Mini

-- the verdict of Mini on the module of a text
abbrev verdict : Result ModuleValue FaultValue → Capabilities → Result (Unit {0}) FaultValue
verdict (Ok m) c = mini.valid m c
verdict (Err f) c = Err f

module _ (language : ShaderLanguage) (c : Capabilities) where
  mini_reads : mini.parse language (codes "const N = 3") ≡ Ok (mini_reader.with_constant (codes "N") 3 (span 0 11) mini_reader.start)
  unfolding front_ends
  mini_reads = refl

  mini_reads_nothing : mini.parse language [] ≡ Ok mini_reader.start
  unfolding front_ends
  mini_reads_nothing = refl

  mini_refuses : mini.parse language (codes "const N = 3" ++ newline ∷ codes "fn f() = M") ≡ Err (record { message = codes "unknown name M"; spans = (span 12 22, []) ∷ []; notes = [] })
  unfolding front_ends
  mini_refuses = refl

  mini_writes : mini.write (mini_reader.with_constant (codes "N") 7 undefined mini_reader.start) language c ≡ Ok (codes "const N = 7" ++ newline ∷ [])
  unfolding front_ends
  mini_writes = refl

  -- a module whose constant has no initialiser has no text
  abbrev without_number : ModuleValue
  without_number = record (mini_reader.with_constant (codes "N") 7 undefined mini_reader.start) { global_expressions = [] }

  mini_writes_no_other : mini.write without_number language c ≡ Err not_in_mini
  unfolding front_ends
  mini_writes_no_other = refl

  mini_finds_valid : verdict (mini.parse language (codes "fn f(x) = x" ++ newline ∷ codes "entry e = f(1)")) c ≡ Ok tt
  unfolding front_ends
  mini_finds_valid = refl

  mini_finds_invalid : verdict (mini.parse language (codes "fn f(x) = x" ++ newline ∷ codes "entry e = f(1, 2)")) c ≡ Err (call_fault (span 12 29) (codes "f"))
  unfolding front_ends
  mini_finds_invalid = refl

-- ---- Palette

-- a constant of Palette, whose initialiser is a global expression
abbrev colour : List ℕ → ℕ → Span → Row × Span
colour name expression at = (row ConstantKind (Some name) [] [] (Some (TypeItem 0) ∷ Some (ExpressionItem expression) ∷ []), at)

-- a new colour, and another name of it
abbrev pub two_names : ModuleValue
two_names = record palette_reader.no_lines {
  global_expressions = (expr 0 (1 ∷ 0 ∷ []) Nothing [], span 0 3) ∷ (expr 2 [] (ConstantAt 0) [], span 4 15) ∷ [];
  constants = colour (codes "red") 0 (span 0 3) ∷ colour (codes "rose") 1 (span 4 15) ∷ [];
}

abbrev two_lines : List ℕ
two_lines = codes "red" ++ newline ∷ codes "rose = red " ++ newline ∷ codes "# end"

-- `blue` has no colour yet
abbrev wrong_lines : List ℕ
wrong_lines = codes "red" ++ newline ∷ codes "rose = blue"

abbrev no_such_colour : FaultValue
no_such_colour = record { message = codes "no such colour"; spans = (span 4 15, []) ∷ []; notes = [] }

palette_module : palette_reader.parsed two_lines ≡ Ok two_names
unfolding front_ends
palette_module = refl

palette_fault : palette_reader.parsed wrong_lines ≡ Err no_such_colour
unfolding front_ends
palette_fault = refl

palette_nothing : palette_reader.parsed [] ≡ Ok palette_reader.no_lines
unfolding front_ends
palette_nothing = refl

-- a module whose constant has an initialiser of another kind
abbrev with_zero : ModuleValue
with_zero = record two_names { global_expressions = (expr 1 [] Nothing [], undefined) ∷ [] }

module _ (language : ShaderLanguage) (c : Capabilities) where
  palette_reads : palette.parse language two_lines ≡ Ok two_names
  unfolding front_ends
  palette_reads = refl

  palette_refuses : palette.parse language wrong_lines ≡ Err no_such_colour
  unfolding front_ends
  palette_refuses = refl

  palette_writes : palette.write two_names language c ≡ Ok (codes "red" ++ newline ∷ codes "rose = red" ++ newline ∷ [])
  unfolding front_ends
  palette_writes = refl

  palette_writes_no_other : palette.write with_zero language c ≡ Err not_written
  unfolding front_ends
  palette_writes_no_other = refl

-- room for two colours, and for any number
palette_finds_valid : palette.valid two_names (record { 0 = 2 }) ≡ Ok tt
palette_finds_valid = refl

palette_finds_any_valid : palette.valid two_names (record { 0 = 0 }) ≡ Ok tt
palette_finds_any_valid = refl

-- room for one: the second has none
palette_finds_invalid : palette.valid two_names (record { 0 = 1 }) ≡ Err (too_many (span 4 15))
palette_finds_invalid = refl
