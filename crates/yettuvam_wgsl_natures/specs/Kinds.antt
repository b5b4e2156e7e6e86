-- Names for kinds of expressions: their places in `Expression`, from 0.
use Rattle.std.specs.Prelude.{ℕ}

abbrev pub zero_value_kind : ℕ
zero_value_kind = 1

-- the results of a ray query and of a ballot
abbrev pub proceed_kind : ℕ
proceed_kind = 10

abbrev pub ballot_kind : ℕ
ballot_kind = 11

abbrev pub compose_kind : ℕ
compose_kind = 13

abbrev pub access_kind : ℕ
access_kind = 14

abbrev pub member_kind : ℕ
member_kind = 15

abbrev pub load_kind : ℕ
load_kind = 18

abbrev pub sample_kind : ℕ
sample_kind = 19

abbrev pub texel_kind : ℕ
texel_kind = 20

abbrev pub query_kind : ℕ
query_kind = 21

abbrev pub select_kind : ℕ
select_kind = 24

abbrev pub derivative_kind : ℕ
derivative_kind = 25

abbrev pub relational_kind : ℕ
relational_kind = 26

abbrev pub math_kind : ℕ
math_kind = 27

abbrev pub conversion_kind : ℕ
conversion_kind = 28

abbrev pub array_length_kind : ℕ
array_length_kind = 29
