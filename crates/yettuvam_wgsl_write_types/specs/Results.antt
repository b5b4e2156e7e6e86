-- Results of built-in functions that have members.
use Rattle.std.specs.Prelude.{ℕ, ◌==◌, ◌&&◌, if◌then◌else◌, Option, Some, None, codes}
use Rattle.yettuvam_wgsl_names.specs.Table.{Name}

abbrev pub modf_result : ℕ
modf_result = 64

abbrev pub frexp_result : ℕ
frexp_result = 65

abbrev pub exchange_result : ℕ
exchange_result = 66

-- the first of these pseudo-types
abbrev pub first_result : ℕ
first_result = modf_result

-- the first member's name, and the second's
abbrev pub of_two : Name → Name → ℕ → Option Name
of_two first second index = if index == 0 then Some first else (if index == 1 then Some second else None)

abbrev pub result_member_name : (code index : ℕ) → Option Name
result_member_name code index =
    if code == modf_result then of_two (codes "fract") (codes "whole") index
    else (if code == frexp_result then of_two (codes "fract") (codes "exp") index
    else (if code == exchange_result then of_two (codes "old_value") (codes "exchanged") index else None))
