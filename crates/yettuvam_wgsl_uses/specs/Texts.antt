-- Where the texts of expressions are evaluated.
use Rattle.std.specs.Prelude.{ℕ, max, if◌then◌else◌, Bool, List, [], ◌∷◌, replicate, slice_get, slice_set, Option, Some, None, unwrap_or}
use Rattle.yettuvam_wgsl_lines.specs.Groups.{is_set}
use Rattle.yettuvam_wgsl_lines.specs.Line.{LineValue, Lines, is_emitted}

-- the expression that a line emits
abbrev pub emitted_by : LineValue → Option ℕ
emitted_by l = if is_emitted l then l.made else None

abbrev pub last_at : List ℕ → ℕ → ℕ
last_at last h = unwrap_or (slice_get last h) 0

abbrev pub evaluated_by : Option ℕ → List Bool → ℕ → List ℕ → ℕ
evaluated_by None lets g last = g
evaluated_by (Some h) lets g last = if is_set lets h then g else last_at last h

-- the last group in which the text of a line is evaluated: that of the line, or that of the last use of what is no `let`
abbrev pub evaluated_in : List Bool → List ℕ → LineValue → List ℕ → ℕ
evaluated_in lets groups l last = evaluated_by (emitted_by l) lets (last_at groups l.number) last

abbrev pub raise : ℕ → ℕ → List ℕ → List ℕ
raise h g last = slice_set last h (max (last_at last h) g)

abbrev pub raise_all : List ℕ → ℕ → List ℕ → List ℕ
raise_all [] g last = last
raise_all (h ∷ hs) g last = raise_all hs g (raise h g last)

-- the operands of a line are evaluated with it
abbrev pub raise_line : List Bool → List ℕ → LineValue → List ℕ → List ℕ
raise_line lets groups l last = raise_all l.operands (evaluated_in lets groups l last) last

-- the last line first
abbrev pub raise_lines : List Bool → List ℕ → Lines → List ℕ → List ℕ
raise_lines lets groups [] last = last
raise_lines lets groups (l ∷ ls) last = raise_line lets groups l (raise_lines lets groups ls last)

-- the last group in which each of n expressions is evaluated
abbrev pub last_of : ℕ → List Bool → List ℕ → Lines → List ℕ
last_of n lets groups ls = raise_lines lets groups ls (replicate n 0)
