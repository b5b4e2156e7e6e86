-- Tables of what faults say: each row has a key and its text.
use Rattle.std.specs.Prelude.{ℕ, Bool, List, [], map, unwrap_or}
use Rattle.std.specs.Map.{lookup}
use Rattle.yettuvam_wgsl_faults.specs.declared.tables.TheConstants.{GLSL}
use denote.Ref.{Bor}

-- the bytes of a text
abbrev pub Text : Type 0
Text = List ℕ

-- the rows of a table
abbrev pub rows : {K : Type 0} → List (K × Bor Text) → List (K × Text)
rows es = map (λ e. (e.0, e.1.now)) es

-- the text of the first row with a key, or no text
abbrev pub text_in : {K : Type 0} → (K → K → Bool) → List (K × Text) → K → Text
text_in same es key = unwrap_or (lookup (same key) es) []

-- the rows of a table of words
abbrev pub text_rows : List (Bor Text × Bor Text) → List (Text × Text)
text_rows es = map (λ e. (e.0.now, e.1.now)) es

-- words of GLSL, each with its note
abbrev pub glsl_rows : List (Text × Text)
glsl_rows = map (λ e. (e.0.now, e.1.now)) GLSL
