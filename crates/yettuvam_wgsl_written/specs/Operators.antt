-- Operators and how strongly they bind.
use Rattle.std.specs.Prelude.{ℕ, ◌==◌, ◌||◌, if◌then◌else◌, Bool, true, false, Option, Some, None}
use Rattle.yettuvam_wgsl_pieces.specs.declared.sign.Sign.{Sign}
use Rattle.yettuvam_wgsl_pieces.specs.declared.sign.Sign.TheVariants as sign
use Rattle.yettuvam_wgsl_written.specs.declared.operators.Level.{Level}
use Rattle.yettuvam_wgsl_written.specs.declared.operators.Level.TheVariants as level
use Rattle.yettuvam_wgsl_written.specs.declared.operators.Operator.{Operator}

-- an operator that an assignment may have
abbrev pub assigning : Sign → Sign → Level → Option Operator
assigning s a l = Some record { sign = s; assignment = Some a; level = l }

-- an operator that no assignment has
abbrev pub comparing : Sign → Level → Option Operator
comparing s l = Some record { sign = s; assignment = None; level = l }

-- the operators by their codes
abbrev pub binary_operator : ℕ → Option Operator
binary_operator code =
    if code == 1 then assigning sign.Plus sign.PlusEqual level.Sum
    else (if code == 2 then assigning sign.Minus sign.MinusEqual level.Sum
    else (if code == 3 then assigning sign.Star sign.StarEqual level.Product
    else (if code == 4 then assigning sign.Slash sign.SlashEqual level.Product
    else (if code == 5 then assigning sign.Percent sign.PercentEqual level.Product
    else (if code == 6 then assigning sign.And sign.AndEqual level.BitAnd
    else (if code == 7 then assigning sign.Or sign.OrEqual level.BitOr
    else (if code == 8 then assigning sign.Xor sign.XorEqual level.BitXor
    else (if code == 9 then assigning sign.ShiftLeft sign.ShiftLeftEqual level.Shift
    else (if code == 10 then assigning sign.ShiftRight sign.ShiftRightEqual level.Shift
    else (if code == 11 then comparing sign.EqualEqual level.Relation
    else (if code == 12 then comparing sign.NotEqual level.Relation
    else (if code == 13 then comparing sign.Less level.Relation
    else (if code == 14 then comparing sign.LessEqual level.Relation
    else (if code == 15 then comparing sign.Greater level.Relation
    else (if code == 16 then comparing sign.GreaterEqual level.Relation
    else (if code == 17 then comparing sign.AndAnd level.And
    else (if code == 18 then comparing sign.OrOr level.Or
    else None)))))))))))))))))

-- the operators of one operand by their codes
abbrev pub unary_operator : ℕ → Option Sign
unary_operator code =
    if code == 1 then Some sign.Negate
    else (if code == 2 then Some sign.Not
    else (if code == 3 then Some sign.Complement else None))

-- ---- what the grammar's rules for operands take: `singular_expression`, `unary_expression`, `multiplicative_expression`,
-- ---- `additive_expression` and `relational_expression`; a shift in a comparison has parentheses, since a template list may be
-- ---- read up to its `>>`

abbrev pub is_singular : Level → Bool
is_singular level.Singular = true
is_singular _ = false

abbrev pub is_unary : Level → Bool
is_unary level.Singular = true
is_unary level.Unary = true
is_unary _ = false

abbrev pub is_product : Level → Bool
is_product level.Singular = true
is_product level.Unary = true
is_product level.Product = true
is_product _ = false

abbrev pub is_sum : Level → Bool
is_sum level.Singular = true
is_sum level.Unary = true
is_sum level.Product = true
is_sum level.Sum = true
is_sum _ = false

abbrev pub is_relation : Level → Bool
is_relation level.Relation = true
is_relation l = is_sum l

-- an operand right of an operator needs no parentheses
abbrev pub fits_right : Level → Level → Bool
fits_right level.Sum operand = is_product operand
fits_right level.Relation operand = is_sum operand
fits_right level.And operand = is_relation operand
fits_right level.Or operand = is_relation operand
fits_right level.Singular operand = is_singular operand
fits_right _ operand = is_unary operand

-- operators that are repeated without parentheses
abbrev pub repeats : Level → Level → Bool
repeats level.Product level.Product = true
repeats level.Sum level.Sum = true
repeats level.And level.And = true
repeats level.Or level.Or = true
repeats level.BitAnd level.BitAnd = true
repeats level.BitOr level.BitOr = true
repeats level.BitXor level.BitXor = true
repeats _ _ = false

-- an operand left of an operator needs no parentheses
abbrev pub fits_left : Level → Level → Bool
fits_left operator operand = repeats operator operand || fits_right operator operand

-- an expression may hold a `<` outside of parentheses that begins a template list where a `>` follows
abbrev pub may_open : Level → Bool
may_open level.Relation = true
may_open level.And = true
may_open level.Or = true
may_open _ = false
