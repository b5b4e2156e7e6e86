-- Operands and arguments of expressions.
use Rattle.std.specs.Prelude.{◌≡◌, ℕ, if◌then◌else◌, Bool, true, false, List, [], ◌∷◌, ◌++◌, map, Option, Some, None, slice_get, codes, Result, Ok, Err}
use Rattle.naga_oil_ir.specs.declared.span.Span.{Span}
use Rattle.yettuvam_wgsl_names.specs.Table.{Name}
use Rattle.yettuvam_wgsl_pieces.specs.Pieces.{Piece, Word, Sign}
use Rattle.yettuvam_wgsl_pieces.specs.declared.sign.Sign.TheVariants as sign
use Rattle.yettuvam_wgsl_written.specs.Outcomes.{Outcome, ◌>>=◌, after, Refuses, word}
use Rattle.yettuvam_wgsl_written.specs.Written.{Written, argument_pieces}
use Rattle.yettuvam_wgsl_written.specs.declared.operators.Level.{Level}
use Rattle.yettuvam_wgsl_written.specs.declared.operators.Level.TheVariants as level
use Rattle.yettuvam_wgsl_written.specs.declared.refusal.Refusal.{Refusal}
use Rattle.yettuvam_wgsl_written.specs.declared.written.Role.{Role}
use Rattle.yettuvam_wgsl_written.specs.declared.written.Role.TheVariants as role

-- an expression that is written, or the span of what WGSL can't say
abbrev pub WrittenOutcome : Type 0
WrittenOutcome = Result Written Span

-- an expression after other pieces
abbrev pub after_written : List Piece → WrittenOutcome → WrittenOutcome
after_written old (Ok w) = Ok record { pieces = old ++ w.pieces; level = w.level; role = w.role }
after_written old (Err s) = Err s

-- a call appends the pieces of the expression and returns its level and role, or refuses
abbrev pub Writes : WrittenOutcome → Result (Level × Role) Refusal → (old new : List Piece) → Type 0
Writes o (Ok r) old new = after_written old o ≡ Ok record { pieces = new; level = r.0; role = r.1 }
Writes o (Err e) old new = Refuses e o

-- ---- operands

abbrev pub is_written : List Piece → Bool
is_written [] = false
is_written (p ∷ ps) = true

abbrev pub operand_by : Option Written → Span → WrittenOutcome
operand_by (Some w) span = if is_written w.pieces then Ok w else Err span
operand_by None span = Err span

-- the earlier expression at a place, which is written
abbrev pub operand : List Written → ℕ → Span → WrittenOutcome
operand known h span = operand_by (slice_get known h) span

-- ---- arguments

-- an operand that may be absent
abbrev pub optional : Option ℕ → List ℕ
optional None = []
optional (Some h) = h ∷ []

-- the operands that are there
abbrev pub present : List (Option ℕ) → List ℕ
present [] = []
present (o ∷ os) = optional o ++ present os

abbrev pub is_last : List ℕ → Bool
is_last [] = true
is_last (h ∷ hs) = false

-- an argument, and a comma unless it is the last one
abbrev pub argument : List Written → ℕ → Bool → Span → Outcome
argument known h last span = operand known h span >>= (λ w. Ok (argument_pieces w last))

-- an outcome after another one
abbrev pub followed : Outcome → Outcome → Outcome
followed (Ok ps) o = after ps o
followed (Err span) o = Err span

-- each argument with the comma after it, and `)`
unfoldable pub arguments_end : List Written → List ℕ → Span → Outcome
arguments_end known [] span = Ok (Sign sign.RightParen ∷ [])
arguments_end known (h ∷ hs) span = followed (argument known h (is_last hs) span) (arguments_end known hs span)

-- the same after other pieces
unfoldable pub arguments_from : List Piece → List Written → List ℕ → Span → Outcome
arguments_from s known [] span = Ok (s ++ Sign sign.RightParen ∷ [])
arguments_from s known (h ∷ hs) span = after s (argument known h (is_last hs) span) >>= (λ t. arguments_from t known hs span)

-- arguments in parentheses
unfoldable pub arguments : List Written → List ℕ → Span → Outcome
arguments known hs span = arguments_end known hs span >>= (λ ps. Ok (Sign sign.LeftParen ∷ ps))

-- ---- values

abbrev pub value : List Piece → Written
value ps = record { pieces = ps; level = level.Singular; role = role.Value }

-- pieces that are a value
abbrev pub as_value : Outcome → WrittenOutcome
as_value (Ok ps) = Ok (value ps)
as_value (Err span) = Err span

-- a word of the language and arguments
unfoldable pub named_call : Name → List Written → List ℕ → Span → Outcome
named_call name known hs span = arguments known hs span >>= (λ ps. Ok (Word name ∷ ps))

-- `select(..)`
unfoldable pub select_call : List Written → List ℕ → Span → Outcome
select_call known hs span = named_call (codes "select") known hs span

-- `arrayLength(..)`
unfoldable pub length_call : List Written → List ℕ → Span → Outcome
length_call known hs span = named_call (codes "arrayLength") known hs span

-- `textureStore(..)`
unfoldable pub store_call : List Written → List ℕ → Span → Outcome
store_call known hs span = named_call (codes "textureStore") known hs span

-- a word and arguments
unfoldable pub call : Option Name → List Written → List ℕ → Span → Outcome
call name known hs span = word name span >>= (λ w. arguments known hs span >>= (λ ps. Ok (w ++ ps)))
