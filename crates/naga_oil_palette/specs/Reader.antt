-- The module of a text of Palette, line by line.
use denote.Ref.{Bor}
use Rattle.std.specs.Prelude.{◌≡◌, ℕ, ◌+◌, ◌==◌, ◌||◌, min, Bool, false, if◌then◌else◌, nat_lt, List, [], ◌∷◌, ◌++◌, length, map, position, slice_index, Option, Some, None, option_map, Result, Ok, Err, bytes_eq, codes}
use Rattle.std.specs.List.{before_first, after_first, position_or_len, slice_split}
use Rattle.std.specs.Str.{trim}
use Rattle.naga_oil_words.specs.Bytes.{is_equals, hash, newline}
use Rattle.naga_oil_ir.specs.Backend.{FaultValue}
use Rattle.naga_oil_ir.specs.ModuleValue.{ModuleValue, no_items}
use Rattle.naga_oil_ir.specs.Parts.{Parts, expr}
use Rattle.naga_oil_ir.specs.Rows.{Row, row, TypeKind, ConstantKind}
use Rattle.naga_oil_ir.specs.Spans.{undefined, u32_max}
use Rattle.naga_oil_ir.specs.declared.names.ItemPlace.TheVariants.{TypeItem, ExpressionItem}
use Rattle.naga_oil_ir.specs.declared.parts.Named.TheVariants.{Nothing, ConstantAt}
use Rattle.naga_oil_ir.specs.declared.span.Span.{Span}

-- ---- places
-- the place n bytes after another, capped at the largest u32
abbrev pub after : ℕ → ℕ → ℕ
after at n = min (at + n) u32_max

-- the span of a line that begins at a place
abbrev pub span_at : ℕ → List ℕ → Span
span_at at line = record { start = at; end = after at (length line) }

-- ---- constants
-- the module of no lines, which has the one type
abbrev pub no_lines : ModuleValue
no_lines = record no_items { types = (row (TypeKind 0) None (Some 1 ∷ []) [] [], undefined) ∷ [] }

-- whether a constant has a name
abbrev pub has_name : List ℕ → Option (List ℕ) → Bool
has_name name None = false
has_name name (Some text) = bytes_eq text name

abbrev pub is_named : List ℕ → Row → Bool
is_named name r = has_name name r.label.name

abbrev pub constant_at : ℕ → Parts
constant_at k = expr 2 [] (ConstantAt k) []

-- the first constant with a name
abbrev pub known : ModuleValue → List ℕ → Option Parts
known m name = option_map constant_at (position (λ e. is_named name e.0) m.constants)

-- a new colour
abbrev pub literal : Parts
literal = expr 0 (1 ∷ 0 ∷ []) Nothing []

-- a module with a constant appended
abbrev pub with_constant : Span → ModuleValue → List ℕ × Parts → ModuleValue
with_constant at m d = record m {
  global_expressions = m.global_expressions ++ (d.1, at) ∷ [];
  constants = m.constants ++ (row ConstantKind (Some d.0) [] [] (Some (TypeItem 0) ∷ Some (ExpressionItem (length m.global_expressions)) ∷ []), at) ∷ [];
}

-- ---- lines
-- the name before the first `=`, and the colour that is named after it; without a `=`, a new colour
abbrev pub definition : ModuleValue → List ℕ → Option (List ℕ × Parts)
definition m text =
    if nat_lt (position_or_len is_equals text) (length text) then option_map (λ other. (trim (before_first is_equals text), other)) (known m (trim (after_first is_equals text)))
    else Some (text, literal)

-- the empty text, or a `#` first
abbrev pub is_skipped : List ℕ → Bool
is_skipped text = (length text == 0) || (slice_index text 0 == hash)

abbrev pub with_line : List ℕ → Span → ModuleValue → Option ModuleValue
with_line line at m = if is_skipped (trim line) then Some m else option_map (with_constant at m) (definition m (trim line))

-- ---- texts
abbrev pub not_understood : Span → FaultValue
not_understood at = record { message = codes "no such colour"; spans = (at, []) ∷ []; notes = [] }

-- a module with the constants of lines added, the first of which begins at a place
abbrev pub with_lines : ℕ → List (List ℕ) → ModuleValue → Result ModuleValue FaultValue
with_lines at [] m = Ok m
with_lines at (l ∷ ls) m = elim (with_line l (span_at at l) m) [ None ↦ Err (not_understood (span_at at l)) | Some n ↦ with_lines (after (after at (length l)) 1) ls n ]

-- the lines of a text
abbrev pub lines : List ℕ → List (List ℕ)
lines text = slice_split (λ b. b == newline) text

abbrev pub parsed : List ℕ → Result ModuleValue FaultValue
parsed text = with_lines 0 (lines text) no_lines

-- ---- as the code has them
abbrev pub texts : List (Bor (List ℕ)) → List (List ℕ)
texts ts = map (λ t. t.now) ts

-- the line was read, and the module has become the value; or there is no value
abbrev pub Reads : Bool → ModuleValue → Option ModuleValue → Type 0
Reads said m value = value ≡ (if said then Some m else None)
