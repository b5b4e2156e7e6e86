-- Attributes, and the codes of bindings.
use Rattle.std.specs.Prelude.{ℕ, ◌/◌, ◌%◌, ◌==◌, if◌then◌else◌, List, [], ◌∷◌, ◌++◌, nat_eq, Option, Some, None, Ok, Err, codes}
use Rattle.std.specs.Map.{lookup}
use Rattle.yettuvam_wgsl_pieces.specs.Pieces.{Piece, Word, Number, Sign}
use Rattle.yettuvam_wgsl_pieces.specs.declared.sign.Sign.TheVariants as sign
use Rattle.naga_oil_ir.specs.declared.span.Span.{Span}
use Rattle.yettuvam_wgsl_names.specs.Table.{Name}
use Rattle.yettuvam_wgsl_written.specs.Codes.{built_in_value_name, interpolation_name, sampling_name}
use Rattle.yettuvam_wgsl_written.specs.Outcomes.{Outcome, ◌>>=◌, after, word}
use Rattle.yettuvam_wgsl_written.specs.declared.attributes.TheConstants.{ALIGNMENTS}

-- `@NAME`
abbrev pub attribute : Name → List Piece
attribute name = Sign sign.At ∷ Word name ∷ []

-- `@NAME(NUMBER)`
unfoldable pub number_attribute : Name → ℕ → List Piece
number_attribute name n = Sign sign.At ∷ Word name ∷ Sign sign.LeftParen ∷ Number n ∷ Sign sign.RightParen ∷ []

-- `@NAME(`
unfoldable pub opened : Name → List Piece
opened name = Sign sign.At ∷ Word name ∷ Sign sign.LeftParen ∷ []

-- a word and `)`
unfoldable pub closed_word : Option Name → Span → Outcome
closed_word name span = word name span >>= (λ w. Ok (w ++ Sign sign.RightParen ∷ []))

unfoldable pub built_in_value : ℕ → Span → Outcome
built_in_value code span = after (opened (codes "builtin")) (closed_word (built_in_value_name code) span)

unfoldable pub sampling : ℕ → Span → Outcome
sampling code span = if code == 0 then Ok [] else (word (sampling_name code) span >>= (λ w. Ok (Sign sign.Comma ∷ w)))

-- a type of interpolation, its sampling and `)`
unfoldable pub interpolation_words : ℕ → ℕ → Span → Outcome
interpolation_words code s span =
    word (interpolation_name code) span >>= (λ w. sampling s span >>= (λ m. Ok (w ++ (m ++ Sign sign.RightParen ∷ []))))

unfoldable pub interpolation : ℕ → ℕ → Span → Outcome
interpolation code s span =
    if code == 0 then Ok [] else after (opened (codes "interpolate")) (interpolation_words code s span)

-- the value of the first row with a code
abbrev pub value_of : List (ℕ × ℕ) → ℕ → Option ℕ
value_of rows code = lookup (nat_eq code) rows

-- the size of an `@align` by its code: 2^(k - 1) of k
abbrev pub alignment_size : ℕ → Option ℕ
alignment_size code = value_of ALIGNMENTS code

abbrev pub alignment_by : Option ℕ → Span → Outcome
alignment_by (Some size) span = Ok (number_attribute (codes "align") size)
alignment_by None span = Err span

unfoldable pub alignment : ℕ → Span → Outcome
alignment code span = if code == 0 then Ok [] else alignment_by (alignment_size code) span

-- what gives a value: nothing, a built-in value or a location
unfoldable pub class : ℕ → Span → Outcome
class code span =
    if code % 256 == 0 then Ok []
    else (if code % 256 == 1 then built_in_value ((code / 256) % 256) span
    else (if code % 256 == 2 then Ok (number_attribute (codes "location") (code / 4294967296)) else Err span))

abbrev pub blend_source : ℕ → List Piece
blend_source code =
    if code == 1 then number_attribute (codes "blend_src") 0
    else (if code == 2 then number_attribute (codes "blend_src") 1 else [])

abbrev pub invariant : ℕ → List Piece
invariant code = if code == 0 then [] else attribute (codes "invariant")

-- the attributes of a binding's code
unfoldable pub binding_code : ℕ → Span → Outcome
binding_code code span =
    alignment ((code / 16777216) % 256) span >>= (λ a. class code span
    >>= (λ c. interpolation ((code / 65536) % 4) ((code / 262144) % 8) span
    >>= (λ i. Ok (a ++ (c ++ (blend_source ((code / 4194304) % 4) ++ (i ++ invariant ((code / 2097152) % 2))))))))

abbrev pub binding : Option ℕ → Span → Outcome
binding None span = Ok []
binding (Some code) span = binding_code code span
