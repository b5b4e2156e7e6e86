-- The directives at the start of a text as a grammar: the pieces of a line, without surrounding
-- white space, one after another.
use Rattle.std.specs.Prelude.{◌≡◌, ◌⊎◌, ℕ, true, false, ◌==◌, not, List, [], ◌∷◌, ◌++◌, codes}
use Rattle.std.specs.Char.{is_whitespace}
use Rattle.std.specs.Str.{byte, chars, trim, trim_start}
use Rattle.naga_oil_conditions.specs.LineGrammar.{IsRun}
use Rattle.naga_oil_pre.specs.DirectiveLines.{Directive, enabling, requiring, treating, wrong, passing, ending, extensions, is_severity, unknown_severity, is_between}

-- the bytes before the first byte c, and those after it
abbrev pub IsUpTo : (c : ℕ) (text before following : List ℕ) → Type 0
IsUpTo c text before following = IsRun (λ b. not (b == c)) text before (c ∷ following)

-- a white space character and at least one more
pub record IsList (text : List ℕ) : Type 0 where
  pub white : ℕ
  pub next : ℕ
  pub more : List ℕ
  pub spelled : chars text ≡ white ∷ (next ∷ more)
  pub gap : is_whitespace white ≡ true

-- a word, and the list after it up to the first `;`
pub record HasList (word line list : List ℕ) : Type 0 where
  pub following : List ℕ
  pub rest : List ℕ
  pub start : line ≡ word ++ following
  pub end : IsUpTo (byte ";") following list rest
  pub is : IsList list

-- a word and the names of at least one extension
pub record IsNaming (word : List ℕ) (names : List (List ℕ)) (line : List ℕ) : Type 0 where
  pub list : List ℕ
  pub has : HasList word line list
  pub parts : names ≡ extensions list
  pub some : names ≡ [] → ⊥

abbrev pub IsEnabling : (names : List (List ℕ)) (line : List ℕ) → Type 0
IsEnabling names line = IsNaming (codes "enable") names line

abbrev pub IsRequiring : (names : List (List ℕ)) (line : List ℕ) → Type 0
IsRequiring names line = IsNaming (codes "requires") names line

-- a list without extensions
abbrev pub IsNameless : (line : List ℕ) → Type 0
IsNameless line = (list : List ℕ) × (HasList (codes "enable") line list ⊎ HasList (codes "requires") line list) × (extensions list ≡ [])

-- `diagnostic`, and in parentheses a severity up to the first `,` and a rule up to the first `)`
-- after it; then `;`
pub record IsDiagnostic (severity rule line : List ℕ) : Type 0 where
  pub following : List ℕ
  pub inside : List ℕ
  pub first : List ℕ
  pub more : List ℕ
  pub second : List ℕ
  pub end : List ℕ
  pub rest : List ℕ
  pub word : line ≡ codes "diagnostic" ++ following
  pub opens : trim_start following ≡ codes "(" ++ inside
  pub comma : IsUpTo (byte ",") inside first more
  pub bracket : IsUpTo (byte ")") more second end
  pub closes : trim_start end ≡ codes ";" ++ rest
  pub some_severity : first ≡ [] → ⊥
  pub some_rule : second ≡ [] → ⊥
  pub severity_is : severity ≡ trim first
  pub rule_is : rule ≡ trim second

-- a diagnostic with a known severity
abbrev pub IsTreating : (severity rule line : List ℕ) → Type 0
IsTreating severity rule line = IsDiagnostic severity rule line × (is_severity severity ≡ true)

-- a diagnostic with an unknown severity
abbrev pub IsUngraded : (severity line : List ℕ) → Type 0
IsUngraded severity line = (rule : List ℕ) × IsDiagnostic severity rule line × (is_severity severity ≡ false)

-- the reason why a directive is wrong
abbrev pub IsWrong : (reason line : List ℕ) → Type 0
IsWrong reason line = (IsNameless line × (reason ≡ codes "No extensions specified")) ⊎ ((severity : List ℕ) × IsUngraded severity line × (reason ≡ unknown_severity severity))

-- a line that is no directive
pub record IsNone (line : List ℕ) : Type 0 where
  pub enables : (list : List ℕ) → HasList (codes "enable") line list → ⊥
  pub requires : (list : List ℕ) → HasList (codes "requires") line list → ⊥
  pub diagnoses : (severity rule : List ℕ) → IsDiagnostic severity rule line → ⊥

-- the kind of a line among directives
abbrev pub IsDirective : Directive → (line : List ℕ) → Type 0
IsDirective (enabling names) line = IsEnabling names line
IsDirective (requiring names) line = IsRequiring names line
IsDirective (treating severity rule) line = IsTreating severity rule line
IsDirective (wrong reason) line = IsWrong reason line
IsDirective passing line = IsNone line × (is_between line ≡ true)
IsDirective ending line = IsNone line × (is_between line ≡ false)
