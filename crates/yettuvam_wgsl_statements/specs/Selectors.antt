-- The selectors of a switch.
use Rattle.std.specs.Prelude.{ℕ, ◌-◌, ◌/◌, ◌%◌, not, ◌==◌, ◌&&◌, nat_lt, if◌then◌else◌, List, [], ◌∷◌, ◌++◌, Ok, Err, codes}
use Rattle.naga_oil_ir.specs.declared.span.Span.{Span}
use Rattle.yettuvam_wgsl_names.specs.declared.form_codes.TheConstants.{DEFAULT_SELECTOR, I32_LITERAL, I32_SELECTOR, INTEGER_LITERAL, INTEGER_SELECTOR, NEGATIVE_SELECTOR, SELECTOR_CLASS_UNIT, U32_LITERAL, U32_SELECTOR}
use Rattle.yettuvam_wgsl_pieces.specs.Pieces.{Piece, Word, Literal, Sign}
use Rattle.yettuvam_wgsl_pieces.specs.declared.sign.Sign.TheVariants as sign
use Rattle.yettuvam_wgsl_statements.specs.declared.selectors.TheConstants.{LEAST_I32}
use Rattle.yettuvam_wgsl_written.specs.Outcomes.{Outcome}

abbrev pub literal : ℕ → ℕ → List Piece
literal kind bits = Literal kind bits ∷ []

-- a negative number, by its 32 bits in two's complement
unfoldable pub negative : ℕ → ℕ → List Piece
negative kind bits = Sign sign.Negate ∷ literal kind (SELECTOR_CLASS_UNIT - bits)

-- `i32(-2147483648)`
unfoldable pub least_i32 : List Piece
least_i32 = Word (codes "i32") ∷ Sign sign.LeftParen ∷ (negative INTEGER_LITERAL LEAST_I32 ++ Sign sign.RightParen ∷ [])

-- an `i32`, by its 32 bits
unfoldable pub signed : ℕ → List Piece
signed bits =
    if nat_lt bits LEAST_I32 then literal I32_LITERAL bits
    else (if bits == LEAST_I32 then least_i32 else negative I32_LITERAL bits)

-- the selector of a class with 32 bits
unfoldable pub selector_of : ℕ → ℕ → Span → Outcome
selector_of class bits span =
    if class == DEFAULT_SELECTOR then Ok (Sign sign.DefaultWord ∷ [])
    else (if class == INTEGER_SELECTOR then Ok (literal INTEGER_LITERAL bits)
    else (if (class == NEGATIVE_SELECTOR) && not (bits == 0) then Ok (negative INTEGER_LITERAL bits)
    else (if class == I32_SELECTOR then Ok (signed bits)
    else (if class == U32_SELECTOR then Ok (literal U32_LITERAL bits) else Err span))))

-- the selector of a code
abbrev pub selector : ℕ → Span → Outcome
selector value span = selector_of (value / SELECTOR_CLASS_UNIT) (value % SELECTOR_CLASS_UNIT) span
