-- Notes where a slip is typical.
use Rattle.std.specs.Prelude.{ℕ, Bool, true, false, ◌&&◌, if◌then◌else◌, List, [], ◌∷◌, take, drop, length, nat_le, nat_lt, nat_eq, ◌-◌, Option, Some, None, codes}
use Rattle.std.specs.Cmp.Lexicographic.{pointwise}
use Rattle.std.specs.List.{list_any}
use Rattle.std.specs.Map.{lookup}
use Rattle.yettuvam_wgsl_words.specs.declared.token.Kind.TheVariants as kind
use Rattle.yettuvam_wgsl_words.specs.declared.token.Span.{Span}
use Rattle.yettuvam_wgsl_words.specs.Scan.{Token}
use Rattle.yettuvam_wgsl_machine.specs.declared.refusal.Reason.{Reason}
use Rattle.yettuvam_wgsl_machine.specs.declared.refusal.Reason.TheVariants as reason
use Rattle.yettuvam_wgsl_machine.specs.declared.symbol.Rule.TheVariants as rule
use Rattle.yettuvam_wgsl_faults.specs.Tables.{Text, glsl_rows}

-- the bytes from a place to before another one, or none where the text has no such places
abbrev pub between : Text → (from to : ℕ) → Text
between text from to = if nat_le from to && nat_le to (length text) then take (to - from) (drop from text) else []

-- a token without text at the start
abbrev pub no_token : Token
no_token = record { kind = kind.End; span = record { start = 0; end = 0 }; text = [] }

abbrev pub begins_before : List Token → ℕ → Bool
begins_before [] place = false
begins_before (token ∷ more) place = nat_lt token.span.start place

-- the tokens from the last one that begins before a place; all of them if none does
abbrev pub from_last : List Token → ℕ → List Token
from_last [] place = []
from_last (token ∷ more) place = if begins_before more place then from_last more place else token ∷ more

abbrev pub first : List Token → Token
first [] = no_token
first (token ∷ more) = token

-- the last token that begins before a place, or one without text
abbrev pub token_before : List Token → ℕ → Token
token_before tokens place = if begins_before (from_last tokens place) place then first (from_last tokens place) else no_token

-- the note of a word, in a table of words with their notes
abbrev pub note_in : List (Text × Text) → Text → Option Text
note_in es word = lookup (pointwise nat_eq word) es

abbrev pub has_line_end : Text → Bool
has_line_end gap = list_any (nat_eq 10) gap

abbrev pub is_assignment : Text → Bool
is_assignment found = pointwise nat_eq found (codes "=")

-- an expression ends before what is wanted
abbrev pub follows_expression : Reason → Bool
follows_expression (reason.Wanted kind.Name) = false
follows_expression (reason.Wanted _) = true
follows_expression (reason.Unexpected rule.Block) = true
follows_expression _ = false

abbrev pub wants_semicolon : Reason → Bool
wants_semicolon (reason.Wanted kind.Semicolon) = true
wants_semicolon _ = false

abbrev pub missing_semicolon : Text
missing_semicolon = codes "the line before has no `;` at its end"

abbrev pub assignment : Text
assignment = codes "`=` assigns, `==` compares"

-- the note of a slip in signs, of the token that is found and the bytes between it and the one before
abbrev pub sign_note : Reason → (found gap : Text) → Option Text
sign_note why found gap = if wants_semicolon why && has_line_end gap then Some missing_semicolon
    else if follows_expression why && is_assignment found then Some assignment
    else None

-- the first note of two
abbrev pub or_else : Option Text → Option Text → Option Text
or_else (Some note) other = Some note
or_else None other = other

-- the note for a token that can't follow the one before
abbrev pub token_note : Text → (before : Token) → Reason → Span → Option Text
token_note text before why at = or_else (note_in glsl_rows (between text at.start at.end))
    (or_else (note_in glsl_rows before.text) (sign_note why (between text at.start at.end) (between text before.span.end at.start)))

abbrev pub syntax_note : Text → List Token → Reason → Span → Option Text
syntax_note text tokens why at = token_note text (token_before tokens at.start) why at
