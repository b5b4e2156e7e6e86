-- The directives at the start of a text: the kind of a line, by its text without surrounding white
-- space.
use Rattle.std.specs.Prelude.{ℕ, Bool, false, ◌||◌, ◌&&◌, ◌==◌, not, bytes_eq, if◌then◌else◌, Option, Some, None, is_some, List, [], ◌∷◌, ◌++◌, map, length, codes}
use Rattle.std.specs.List.{filter, list_any, slice_split, position_or_len, before_first, after_first}
use Rattle.std.specs.Char.{is_whitespace}
use Rattle.std.specs.Str.{byte, chars, trim, trim_start}
use Rattle.naga_oil_words.specs.OptionSteps.{◌>>=◌}
use Rattle.naga_oil_lines.specs.Text.{past_word}

pub data Directive : Type 0 where
  -- enabled extensions, and required ones
  enabling : (names : List (List ℕ)) → Directive
  requiring : (names : List (List ℕ)) → Directive
  -- the severity of a diagnostic rule
  treating : (severity rule : List ℕ) → Directive
  -- a directive that can't be accepted
  wrong : (reason : List ℕ) → Directive
  -- no directive; more may follow
  passing : Directive
  -- no directive; none follows
  ending : Directive

-- the text before its first byte c, and the text after it
unfoldable pub cut_at : (c : ℕ) → List ℕ → Option (List ℕ × List ℕ)
cut_at c text = if position_or_len (λ b. b == c) text == length text then None else Some (before_first (λ b. b == c) text, after_first (λ b. b == c) text)

-- a white space character and at least one more
abbrev pub begins_list : List ℕ → Bool
begins_list [] = false
begins_list (c ∷ cs) = is_whitespace c && not (length cs == 0)

-- a word, and the list after it up to the first `;`
unfoldable pub listed : (word : List ℕ) → List ℕ → Option (List ℕ)
listed word line = do
  rest ← past_word word line
  found ← cut_at (byte ";") rest
  if begins_list (chars found.0) then Some found.0 else None

-- the parts between commas, without surrounding white space; empty ones are dropped
abbrev pub extensions : List ℕ → List (List ℕ)
extensions list = filter (λ name. not (length name == 0)) (map trim (slice_split (λ b. b == byte ",") list))

-- `diagnostic`, and in parentheses a severity up to the first `,` and a rule up to the first `)`
-- after it; then `;`
unfoldable pub treated : List ℕ → Option (List ℕ × List ℕ)
treated line = do
  following ← past_word (codes "diagnostic") line
  inside ← past_word (codes "(") (trim_start following)
  severity ← cut_at (byte ",") inside
  rule ← cut_at (byte ")") severity.1
  end ← past_word (codes ";") (trim_start rule.1)
  if length severity.0 == 0 || (length rule.0 == 0) then None else Some (trim severity.0, trim rule.0)

abbrev pub is_severity : List ℕ → Bool
is_severity text = bytes_eq text (codes "off") || (bytes_eq text (codes "info") || (bytes_eq text (codes "warn") || bytes_eq text (codes "error")))

-- a directive must name an extension
abbrev pub named : (List (List ℕ) → Directive) → List (List ℕ) → Directive
named kind [] = wrong (codes "No extensions specified")
named kind (name ∷ names) = kind (name ∷ names)

abbrev pub unknown_severity : List ℕ → List ℕ
unknown_severity severity = codes "Invalid severity '" ++ severity ++ codes "'. Must be one of: off, info, warn, error"

-- a severity must be known
abbrev pub graded : (severity rule : List ℕ) → Directive
graded severity rule = if is_severity severity then treating severity rule else wrong (unknown_severity severity)

-- lines that directives may follow: an empty one, a comment, and a line that only begins as a
-- directive
abbrev pub is_between : List ℕ → Bool
is_between line = length line == 0 || list_any (λ word. is_some (past_word word line)) (codes "//" ∷ codes "enable" ∷ codes "requires" ∷ codes "diagnostic" ∷ [])

-- the kind of a line among directives
unfoldable pub directive_of : List ℕ → Directive
directive_of line = elim (listed (codes "enable") line) [
  | Some list ↦ named enabling (extensions list)
  | None ↦ elim (listed (codes "requires") line) [
    | Some list ↦ named requiring (extensions list)
    | None ↦ elim (treated line) [
      | Some found ↦ graded found.0 found.1
      | None ↦ if is_between line then passing else ending
    ]
  ]
]
