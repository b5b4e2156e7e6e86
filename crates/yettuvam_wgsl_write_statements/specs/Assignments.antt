-- Stores to places.
use Rattle.std.specs.Prelude.{ℕ, ◌==◌, ◌&&◌, if◌then◌else◌, Bool, true, false, List, [], ◌∷◌, ◌++◌, Option, Some, None, Ok, Err}
use Rattle.naga_oil_ir.specs.Parts.{Parts}
use Rattle.naga_oil_ir.specs.Rows.{Row, Kind, TypeKind}
use Rattle.naga_oil_ir.specs.declared.parts.Named.{Named}
use Rattle.naga_oil_ir.specs.declared.parts.Named.TheVariants.{TypeOf}
use Rattle.naga_oil_ir.specs.declared.span.Span.{Span}
use Rattle.yettuvam_wgsl_pieces.specs.Pieces.{Sign}
use Rattle.yettuvam_wgsl_pieces.specs.declared.sign.Sign.{Sign as SignOfText}
use Rattle.yettuvam_wgsl_pieces.specs.declared.sign.Sign.TheVariants as sign
use Rattle.yettuvam_wgsl_written.specs.Operators.{binary_operator}
use Rattle.yettuvam_wgsl_written.specs.Outcomes.{Outcome, ◌>>=◌}
use Rattle.yettuvam_wgsl_written.specs.Written.{Written, place_pieces, value_pieces}
use Rattle.yettuvam_wgsl_written.specs.declared.operators.Operator.{Operator}
use Rattle.yettuvam_wgsl_write_types.specs.Types.{scalar_kind}
use Rattle.yettuvam_wgsl_write_expressions.specs.Context.{Context, type_at}
use Rattle.yettuvam_wgsl_write_expressions.specs.Kinds.{zero_value_kind}
use Rattle.yettuvam_wgsl_write_expressions.specs.Operands.{operand}
use Rattle.yettuvam_wgsl_write_items.specs.Items.{initial_value}

-- an operand as a value
abbrev pub value : List Written → ℕ → Span → Outcome
value known h span = operand known h span >>= (λ w. Ok (value_pieces w true))

-- an operand as a place
abbrev pub place : List Written → ℕ → Span → Outcome
place known h span = operand known h span >>= (λ w. Ok (place_pieces w true))

abbrev pub assignment_of : Option Operator → Option SignOfText
assignment_of (Some o) = o.assignment
assignment_of None = None

-- the sign of an assignment by an operator, if there is one
abbrev pub assignment_sign : ℕ → Option SignOfText
assignment_sign op = assignment_of (binary_operator op)

abbrev pub found_sign : Option SignOfText → Span → Outcome
found_sign (Some s) span = Ok (Sign s ∷ [])
found_sign None span = Err span

-- `PLACE += VALUE`
unfoldable pub compound : List Written → (pointer op right : ℕ) → Span → Outcome
compound known pointer op right span =
    place known pointer span >>= (λ p. found_sign (assignment_sign op) span
    >>= (λ s. value known right span >>= (λ v. Ok (p ++ (s ++ v)))))

-- a place, or `_`
abbrev pub target : List Written → ℕ → Bool → Span → Outcome
target known pointer is_nowhere span = if is_nowhere then Ok (Sign sign.Underscore ∷ []) else place known pointer span

-- `PLACE = VALUE`
unfoldable pub assignment : List Written → (pointer value : ℕ) → Bool → Span → Outcome
assignment known pointer h is_nowhere span =
    target known pointer is_nowhere span >>= (λ t. initial_value known h span >>= (λ v. Ok (t ++ v)))

-- ---- `_`

-- the pseudo-type of what has no written type
abbrev pub untold_code : ℕ
untold_code = 0

abbrev pub untold_by : Kind → List (Option ℕ) → Bool
untold_by (TypeKind kind) (Some code ∷ []) = (kind == scalar_kind) && (code == untold_code)
untold_by _ _ = false

abbrev pub is_untold : Row → Bool
is_untold r = untold_by r.label.kind r.label.plain

abbrev pub untold_row : Option Row → Bool
untold_row (Some r) = is_untold r
untold_row None = false

abbrev pub is_untold_at : Context → ℕ → Bool
is_untold_at c ty = untold_row (type_at c ty)

abbrev pub nowhere_by : Context → Named → Bool
nowhere_by c (TypeOf ty) = is_untold_at c ty
nowhere_by c _ = false

-- what an assignment to `_` names as its place: the zero of that type
abbrev pub is_nowhere : Context → Parts → Bool
is_nowhere c p = if p.kind == zero_value_kind then nowhere_by c p.named else false
