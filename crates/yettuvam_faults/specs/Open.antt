-- The condition that is open at the end of a text.
use Rattle.std.specs.Prelude.{ℕ, ◌-◌, if◌then◌else◌, List, [], ◌∷◌, ◌++◌, length, take, get_or}
use Rattle.naga_oil_conditions.specs.Kind.{LineKind, condition, endif, kind_of}
use Rattle.naga_oil_conditions.specs.Line.{Line, source_lines}

-- the places of lines whose conditions are open, the innermost last, after a line of this kind
abbrev pub open_after : (places : List ℕ) → (at : ℕ) → LineKind → List ℕ
open_after places at (condition is_else c) = if is_else then places else places ++ at ∷ []
open_after places at endif = take (length places - 1) places
open_after places at _ = places

abbrev pub opened : (places : List ℕ) → List Line → List ℕ
opened places [] = places
opened places (l ∷ more) = opened (open_after places l.at (kind_of l.covered)) more

abbrev pub last_or : (end : ℕ) → List ℕ → ℕ
last_or end places = get_or places (length places - 1) end

-- the place of the line that opens the innermost condition which is open at the end of a text; the end, if there is none
unfoldable pub open_line : (text : List ℕ) (end : ℕ) → ℕ
open_line text end = last_or end (opened [] (source_lines text))
