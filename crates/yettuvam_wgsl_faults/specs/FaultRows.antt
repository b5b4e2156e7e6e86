-- Faults, worked by hand.
use Rattle.std.specs.Prelude.{◌≡◌, refl, ℕ, ◌+◌, [], ◌∷◌, ◌++◌, codes, Some, None}
use Rattle.std.specs.Str.Lossy.{utf8_lossy}
use Rattle.yettuvam_wgsl_words.specs.Scan.{Token}
use Rattle.yettuvam_wgsl_words.specs.declared.token.Kind.TheVariants as kind
use Rattle.yettuvam_wgsl_machine.specs.declared.refusal.Reason.TheVariants as reason
use Rattle.yettuvam_wgsl_machine.specs.declared.symbol.Rule.TheVariants as rule
use Rattle.yettuvam_wgsl_scope.specs.declared.refusal.Reason.TheVariants as meaning
use Rattle.yettuvam_wgsl_faults.specs.Tables.{Text, glsl_rows}
use Rattle.yettuvam_wgsl_faults.specs.Notes.{note_in, sign_note, assignment, missing_semicolon}
use Rattle.yettuvam_wgsl_faults.specs.Fault.{joined, message_of, meaning_fault, syntax_fault}

-- a statement without its end
pub wanted_row : joined (message_of (reason.Wanted kind.Semicolon)) ≡ codes "expected `;`"
wanted_row = refl

pub rule_row : joined (message_of (reason.Unexpected rule.Type)) ≡ codes "expected a type"
rule_row = refl

-- `=` where a condition ends, and a name on the next line
pub assignment_row : sign_note (reason.Unexpected rule.Block) (codes "=") (codes " ") ≡ Some assignment
assignment_row = refl

pub semicolon_row : sign_note (reason.Wanted kind.Semicolon) (codes "let") (10 ∷ []) ≡ Some missing_semicolon
semicolon_row = refl

pub no_note_row : sign_note (reason.Wanted kind.Name) (codes "=") (codes " ") ≡ None
no_note_row = refl

-- an unknown name of GLSL
pub glsl_row : note_in glsl_rows (codes "float") ≡ Some (codes "WGSL calls this type `f32`")
glsl_row = refl

abbrev quoted : Text → Text
quoted found = codes "`" ++ utf8_lossy found ++ codes "`"

-- a name that is declared twice, at its two places
pub twice_row : meaning_fault (codes "a a") (record { reason = meaning.DeclaredTwice; span = record { start = 2; end = 3 }; first = Some (record { start = 0; end = 1 }) })
    ≡ record {
      message = codes "declared twice in one scope";
      spans = (record { start = 2; end = 3 }, quoted (codes "a")) ∷ (record { start = 0; end = 1 }, codes "first declared here") ∷ [];
      notes = [];
    }
unfolding meaning_fault
twice_row = refl

abbrev name : (start : ℕ) → Text → Token
name start text = record { kind = kind.Name; span = record { start = start; end = start + 1 }; text = text }

-- a statement without its end, at the name on the next line
pub next_line_row : syntax_fault (codes "a" ++ 10 ∷ codes "b") (name 0 (codes "a") ∷ name 2 (codes "b") ∷ []) (record { reason = reason.Wanted kind.Semicolon; span = record { start = 2; end = 3 } })
    ≡ record {
      message = codes "expected `;`";
      spans = (record { start = 2; end = 3 }, quoted (codes "b")) ∷ [];
      notes = codes "the line before has no `;` at its end" ∷ [];
    }
unfolding syntax_fault
next_line_row = refl
