-- Tables of codes: each row has a code and its name.
use Rattle.std.specs.Prelude.{ℕ, List, map, Option, nat_eq}
use Rattle.std.specs.Cmp.Lexicographic.{pointwise}
use Rattle.std.specs.Map.{lookup}
use Rattle.yettuvam_wgsl_names.specs.Table.{Name}

-- the name of the first row with a code
abbrev pub name_of : List (ℕ × Name) → ℕ → Option Name
name_of es c = lookup (nat_eq c) es

-- the code of the first row with a name
abbrev pub code_of : List (ℕ × Name) → Name → Option ℕ
code_of es n = lookup (pointwise nat_eq n) (map (λ e. (e.1, e.0)) es)
