-- A text without the directives at its start.
use Rattle.std.specs.Prelude.{ℕ, ◌+◌, Bool, true, false, List, [], ◌∷◌, ◌++◌, Result, Ok, Err}
use Rattle.std.specs.List.{join_with_byte}
use Rattle.std.specs.Str.{trim}
use Rattle.std.specs.Str.Lines.{lines}
use Rattle.naga_oil_words.specs.Bytes.{newline}
use Rattle.naga_oil_lines.specs.Directives.{Directives, no_directives}
use Rattle.naga_oil_conditions.specs.Fault.{Fault, invalid_directive}
use Rattle.naga_oil_pre.specs.DirectiveLines.{Directive, enabling, requiring, treating, wrong, passing, ending, directive_of}

-- lines without directives, and the directives that they had
pub record Extracted : Type 0 where
  pub lines : List (List ℕ)
  pub directives : Directives

-- the line that is kept: empty for a directive
abbrev pub kept : (line : List ℕ) → Directive → List ℕ
kept line passing = line
kept line ending = line
kept line _ = []

-- the directive of the line with this number
abbrev pub found : (index : ℕ) → Directive → Directives
found index (enabling names) = record no_directives { enables = record { names = names; line = index } ∷ [] }
found index (requiring names) = record no_directives { requires = record { names = names; line = index } ∷ [] }
found index (treating severity rule) = record no_directives { diagnostics = record { severity = severity; rule = rule; line = index } ∷ [] }
found index _ = no_directives

-- whether more directives may follow the line with this number, or its fault
abbrev pub goes_on : (index : ℕ) (line : List ℕ) → Directive → Result Bool Fault
goes_on index line (wrong reason) = Err (invalid_directive line index reason)
goes_on index line ending = Ok false
goes_on index line _ = Ok true

-- directives, and those of later lines
infixr 20 ◌and◌
abbrev pub ◌and◌ : Directives → Directives → Directives
a and b = record { enables = a.enables ++ b.enables; requires = a.requires ++ b.requires; diagnostics = a.diagnostics ++ b.diagnostics }

-- a line and its directive before the rest
abbrev pub onto : List ℕ → Directives → Result Extracted Fault → Result Extracted Fault
onto line own (Ok rest) = Ok (record { lines = line ∷ rest.lines; directives = own and rest.directives })
onto line own (Err f) = Err f

-- the lines without their directives, the first with this number; or the first fault
unfoldable pub taken_out : (index : ℕ) → List (List ℕ) → Result Extracted Fault
taken_out index [] = Ok (record { lines = []; directives = no_directives })
taken_out index (line ∷ more) =
    let d = directive_of (trim line) in
    elim (goes_on index (trim line) d) [
      | Ok true ↦ onto (kept line d) (found index d) (taken_out (index + 1) more)
      | Ok false ↦ Ok (record { lines = line ∷ more; directives = no_directives })
      | Err f ↦ Err f
    ]

-- the lines joined; the end of the last line is removed
abbrev pub join_lines : Result Extracted Fault → Result (List ℕ × Directives) Fault
join_lines (Ok e) = Ok (join_with_byte newline e.lines, e.directives)
join_lines (Err f) = Err f

-- a text without the directives at its start, and these directives; or the first fault
unfoldable pub extracted : List ℕ → Result (List ℕ × Directives) Fault
extracted text = join_lines (taken_out 0 (lines text))
