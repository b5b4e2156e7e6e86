-- Names for kinds of expressions and statements: their places in the enums `Expression` and `Statement`, from 0.
use Rattle.std.specs.Prelude.{ℕ}

-- ---- expressions: first the external kinds, then the results of statements, then the operations, which have operands

abbrev pub literal_kind : ℕ
literal_kind = 0

abbrev pub global_variable_kind : ℕ
global_variable_kind = 4

-- an argument of a function
abbrev pub last_external_kind : ℕ
last_external_kind = 6

-- the result of a call
abbrev pub first_result_kind : ℕ
first_result_kind = 7

-- the result of an operation of a subgroup
abbrev pub last_result_kind : ℕ
last_result_kind = 12

-- a value composed of others
abbrev pub first_operation_kind : ℕ
first_operation_kind = 13

abbrev pub load_kind : ℕ
load_kind = 18

abbrev pub binary_kind : ℕ
binary_kind = 23

-- ---- statements, in the order of `statement_step`

abbrev pub emit_head : ℕ
emit_head = 0

abbrev pub return_head : ℕ
return_head = 10

abbrev pub call_head : ℕ
call_head = 16
