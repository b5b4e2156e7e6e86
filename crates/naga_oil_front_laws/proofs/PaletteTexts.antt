-- What Palette reads of a text has the shape of a module.
use Rattle.std.proofs.Common.{◌≡◌, ℕ, nat_lt, List, [], ◌∷◌, length, position, Option, Some, None, option_map, Result, Err, IfSome}
use Rattle.std.specs.List.{position_or_len, after_first, before_first}
use Rattle.std.specs.Result.{IfOk}
use Rattle.std.specs.Str.{trim}
use Rattle.std.proofs.lemmas.Result.{IfOk-at_ok}
use Rattle.naga_oil_ir.specs.Backend.{FaultValue}
use Rattle.naga_oil_ir.specs.ModuleValue.{ModuleValue}
use Rattle.naga_oil_ir.specs.Parts.{Parts}
use Rattle.naga_oil_words.specs.Bytes.{is_equals}
use Rattle.naga_oil_ir.specs.Spans.{undefined}
use Rattle.naga_oil_ir.specs.declared.parts.Named.TheVariants.{Nothing, ConstantAt, GlobalAt}
use Rattle.naga_oil_ir.specs.declared.span.Span.{Span}
use Rattle.naga_oil_palette.specs.Reader.{after, span_at, is_named, constant_at, known, literal, with_constant, definition, is_skipped, with_line, not_understood, with_lines, lines, no_lines}
use Rattle.naga_oil_form_laws.specs.Shape.{NamesGlobalAsGlobal}
use Rattle.naga_oil_front_laws.specs.PaletteShape.{PaletteLaw, PaletteFrontLaw}
use Rattle.naga_oil_front_laws.proofs.Makings.{in_either}
use Rattle.naga_oil_front_laws.proofs.Modules.{IsInShape, shape_of, start_shape, constant_shape}

-- ---- what may not be there

map_keeps : {A B : Type 0} (o : Option A) (f : A → B) (P : A → Type 0) (Q : B → Type 0) → IfSome o P → ((x : A) → P x → Q (f x)) → IfSome (option_map f o) Q
map_keeps None f P Q h g = tt
map_keeps (Some x) f P Q h g = g x h

-- ---- lines

literal_at : NamesGlobalAsGlobal literal
literal_at g e = let no : Nothing ≡ GlobalAt g = e in cc

constant_named : (k : ℕ) → NamesGlobalAsGlobal (constant_at k)
constant_named k g e = let no : ConstantAt k ≡ GlobalAt g = e in cc

known_fits : (o : Option ℕ) → IfSome (option_map constant_at o) NamesGlobalAsGlobal
known_fits None = tt
known_fits (Some k) = constant_named k

definition_fits : (m : ModuleValue) (text : List ℕ) → IfSome (definition m text) (λ d. NamesGlobalAsGlobal d.1)
definition_fits m text =
    let name = trim (after_first is_equals text) in
    in_either (nat_lt (position_or_len is_equals text) (length text)) _ _ (λ (o : Option (List ℕ × Parts)). IfSome o (λ d. NamesGlobalAsGlobal d.1))
    (map_keeps (known m name) (λ other. (trim (before_first is_equals text), other)) NamesGlobalAsGlobal (λ d. NamesGlobalAsGlobal d.1) (known_fits (position (λ e. is_named name e.0) m.constants)) (λ p h. h))
    literal_at

line_kept : (at : Span) (m : ModuleValue) (line : List ℕ) → IsInShape m → IfSome (with_line line at m) IsInShape
line_kept at m line s = in_either (is_skipped (trim line)) _ _ (λ (o : Option ModuleValue). IfSome o IsInShape) s
    (map_keeps (definition m (trim line)) (with_constant at m) (λ d. NamesGlobalAsGlobal d.1) IsInShape (definition_fits m (trim line))
    (λ d h. constant_shape m d.1 (Some d.0) 0 (length m.global_expressions) at at h s))

-- ---- texts

-- what lines make of a line's value
onward : (following : ℕ) (ls : List (List ℕ)) (at : Span) (o : Option ModuleValue) → ((n : ModuleValue) → IsInShape n → IfOk (with_lines following ls n) IsInShape) → IfSome o IsInShape → IfOk (elim o as (λ _. Result ModuleValue FaultValue) [ None ↦ Err (not_understood at) | Some n ↦ with_lines following ls n ]) IsInShape
onward following ls at None keep h = tt
onward following ls at (Some n) keep h = keep n h

lines_kept : (at : ℕ) (ls : List (List ℕ)) (m : ModuleValue) → IsInShape m → IfOk (with_lines at ls m) IsInShape
lines_kept at [] m s = s
lines_kept at (l ∷ ls) m s = onward (after (after at (length l)) 1) ls (span_at at l) (with_line l (span_at at l) m) (lines_kept (after (after at (length l)) 1) ls) (line_kept (span_at at l) m l s)

pub palette_shape : PaletteLaw
palette_shape text m e = shape_of m (IfOk-at_ok IsInShape e (lines_kept 0 (lines text) no_lines (start_shape undefined)))

pub palette_front_shape : PaletteFrontLaw
palette_front_shape language text m e = palette_shape text m e
