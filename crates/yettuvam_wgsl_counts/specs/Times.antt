-- How many times expressions are used.
use Rattle.std.specs.Prelude.{ℕ, Bool, true, false, List, [], ◌∷◌, slice_get, slice_set, replicate, unwrap_or}
use Rattle.yettuvam_wgsl_lines.specs.Line.{Lines}
use Rattle.yettuvam_wgsl_counts.specs.declared.times.Times.{Times}
use Rattle.yettuvam_wgsl_counts.specs.declared.times.Times.TheVariants.{Never, Once, More}

abbrev pub times_at : List Times → ℕ → Times
times_at ts h = unwrap_or (slice_get ts h) Never

abbrev pub is_never : Times → Bool
is_never Never = true
is_never _ = false

abbrev pub is_once : Times → Bool
is_once Once = true
is_once _ = false

abbrev pub is_more : Times → Bool
is_more More = true
is_more _ = false

abbrev pub one_more : Times → Times
one_more Never = Once
one_more _ = More

-- one more use of an expression
abbrev pub count : List Times → ℕ → List Times
count ts h = slice_set ts h (one_more (times_at ts h))

abbrev pub count_all : List Times → List ℕ → List Times
count_all ts [] = ts
count_all ts (h ∷ hs) = count_all (count ts h) hs

abbrev pub count_lines : List Times → Lines → List Times
count_lines ts [] = ts
count_lines ts (l ∷ ls) = count_lines (count_all ts l.operands) ls

-- how many times lines name each of n expressions
abbrev pub times_of : ℕ → Lines → List Times
times_of n ls = count_lines (replicate n Never) ls
