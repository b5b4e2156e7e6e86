-- The kinds of fields, as in `include/yettuvam.h`.
use Rattle.std.specs.Prelude.{ℕ}

abbrev pub text_kind : ℕ
text_kind = 1

abbrev pub import_kind : ℕ
import_kind = 2

abbrev pub item_kind : ℕ
item_kind = 3

abbrev pub path_kind : ℕ
path_kind = 4

abbrev pub bool_kind : ℕ
bool_kind = 5

abbrev pub int_kind : ℕ
int_kind = 6

abbrev pub uint_kind : ℕ
uint_kind = 7

abbrev pub recorded_kind : ℕ
recorded_kind = 8

abbrev pub directives_kind : ℕ
directives_kind = 9

-- an error whose place is a byte
abbrev pub byte_fault_kind : ℕ
byte_fault_kind = 10

-- an error whose place is the index of a line
abbrev pub line_fault_kind : ℕ
line_fault_kind = 11

-- an error without a place
abbrev pub whole_fault_kind : ℕ
whole_fault_kind = 12
