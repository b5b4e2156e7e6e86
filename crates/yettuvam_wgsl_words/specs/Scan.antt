-- The tokens of a text, or the first fault.
use Rattle.std.specs.Prelude.{◌≡◌, ℕ, zero, suc, ◌-◌, Bool, if◌then◌else◌, nat_lt, List, [], ◌∷◌, ◌++◌, length, map, Result, Ok, Err}
use denote.Enum.Bare.{sameb}
use Rattle.yettuvam_wgsl_words.specs.contracts.token.Kind.{the_type}
use Rattle.yettuvam_wgsl_words.specs.declared.cut.Piece.{Piece}
use Rattle.yettuvam_wgsl_words.specs.declared.cut.Piece.TheVariants as piece_is
use Rattle.yettuvam_wgsl_words.specs.declared.token.Kind.{Kind}
use Rattle.yettuvam_wgsl_words.specs.declared.token.Kind.TheVariants.{End}
use Rattle.yettuvam_wgsl_words.specs.declared.token.Span.{Span}
use Rattle.yettuvam_wgsl_words.specs.declared.token.Token.{Token as TokenOfCode}
use Rattle.yettuvam_wgsl_words.specs.declared.refusal.Fault.{Fault}
use Rattle.yettuvam_wgsl_words.specs.declared.refusal.Reason.TheVariants as reason
use Rattle.yettuvam_wgsl_words.specs.declared.refusal.Refusal.{Refusal}
use Rattle.yettuvam_wgsl_words.specs.declared.refusal.Refusal.TheVariants as refusal
use Rattle.yettuvam_wgsl_words.specs.Class.{Text, before}
use Rattle.yettuvam_wgsl_words.specs.Cut.{cut}

-- A token with its place and its bytes.
pub record Token : Type 0 where
  pub kind : Kind
  pub span : Span
  pub text : Text

abbrev pub token_view : TokenOfCode → Token
token_view token = record { kind = token.kind; span = token.span; text = token.text.now }

-- tokens of the code, seen as tokens
abbrev pub view : List TokenOfCode → List Token
view tokens = map token_view tokens

-- What a function returned, seen by view, is the value or the fault, unless memory ran out.
abbrev pub Gives : {X Y : Type 0} → (X → Y) → Result X Refusal → Result Y Fault → Type 0
Gives view (Ok x) expected = expected ≡ Ok (view x)
Gives view (Err (refusal.Fault fault)) expected = expected ≡ Err fault
Gives view (Err refusal.Memory) expected = Unit {0}

abbrev pub same_kind : Kind → Kind → Bool
same_kind a b = sameb the_type a b

-- the place of a rest in a text of `total` bytes
abbrev pub place : (total : ℕ) → (rest : Text) → ℕ
place total rest = total - length rest

-- from one rest to another
abbrev pub span : (total : ℕ) → (before after : Text) → Span
span total before after = record { start = place total before; end = place total after }

-- the tokens found, and a piece more
abbrev pub keep : List Token → Piece → Span → Text → Result (List Token) Fault
keep found (piece_is.Token kind) span text = Ok (found ++ (record { kind = kind; span = span; text = text }) ∷ [])
keep found piece_is.Blank span text = Ok found
keep found (piece_is.Bad reason) span text = Err (record { reason = reason; span = span })

abbrev pub and_then : Result (List Token) Fault → (List Token → Result (List Token) Fault) → Result (List Token) Fault
and_then (Ok found) go = go found
and_then (Err fault) go = Err fault

-- the tokens found, those of the rest, and an end; each turn takes a byte, so the number of bytes is enough
unfoldable pub scan_from : (total turns : ℕ) → List Token → (rest : Text) → Result (List Token) Fault
scan_from total zero found rest = keep found (piece_is.Token End) (span total [] []) []
scan_from total (suc turns) found rest =
    let piece = cut rest in
    and_then (keep found piece.0 (span total rest piece.1) (before rest piece.1)) (λ more. scan_from total turns more piece.1)

unfoldable pub scan : Text → Result (List Token) Fault
scan text = scan_from (length text) (length text) [] text

-- texts have fewer bytes
abbrev pub max_length : ℕ
max_length = 4294967295

unfoldable pub tokens : Text → Result (List Token) Fault
tokens text = if nat_lt max_length (length text) then Err (record { reason = reason.TooLong; span = record { start = 0; end = 0 } }) else scan text
