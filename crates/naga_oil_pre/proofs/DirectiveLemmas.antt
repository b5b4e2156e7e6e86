-- The kind of a line among directives, by its bytes.
use Rattle.std.proofs.Common.{◌≡◌, ◌≢◌, ℕ, ◌<◌, ◌==◌, not, Bool, true, false, Option, Some, None, List, [], ◌∷◌, map, length, codes, string_bytes, String, Global, refl, sym, ap, ◌∙◌, arith, eq-eqb}
use borrow.Author.Tests.{ne_eqb}
use denote.Ref.{Bor}
use Rattle.std.specs.Option.{option_map, MatchOption}
use Rattle.std.specs.List.{position_or_len, before_first, after_first}
use Rattle.std.specs.Char.{is_whitespace}
use Rattle.std.specs.Str.{IsUtf8, chars}
use Rattle.std.proofs.lemmas.Str.{chars-nil}
use Rattle.std.proofs.lemmas.List.{nil_from_length}
use Rattle.naga_oil_lines.specs.Text.{BeginsWithChar}
use Rattle.naga_oil_lines.specs.Text.{past_word}
use Rattle.naga_oil_pre.specs.DirectiveLines.{Directive, enabling, requiring, wrong, cut_at, begins_list, listed, extensions, named, directive_of}
use Rattle.naga_oil_conditions.proofs.LineKindLemmas.{chars-none}

-- the first such byte by the result of `split_once`
pub cut_is : (c : ℕ) (text : List ℕ) (r : Option (Bor (List ℕ) × Bor (List ℕ)))
    → MatchOption r (position_or_len (λ b. b == c) text ≡ length text) (λ x. (x.0.now ≡ before_first (λ b. b == c) text) × (x.1.now ≡ after_first (λ b. b == c) text) × (position_or_len (λ b. b == c) text < length text))
    → option_map (λ x. (x.0.now, x.1.now)) r ≡ cut_at c text
unfolding cut_at
cut_is c text None h = rw (eq-eqb (position_or_len (λ b. b == c) text) (length text) h) refl
cut_is c text (Some x) h =
    let more : position_or_len (λ b. b == c) text ≢ length text = λ z. omega (arith, z, h.2) in
    rw (ne_eqb (position_or_len (λ b. b == c) text) (length text) more, h.0, h.1) refl

no_bytes : (bs : List ℕ) → IsUtf8 bs → (length bs == 0) ≡ (length (chars bs) == 0)
no_bytes [] u = rw chars-nil refl
no_bytes (b ∷ more) u =
    let some : length (b ∷ more) ≢ 0 = λ z. omega (arith, z) in
    let seen : length (chars (b ∷ more)) ≢ 0 = λ z. some (chars-none (b ∷ more) u (nil_from_length (chars (b ∷ more)) z)) in
    ne_eqb (length (b ∷ more)) 0 some ∙ sym (ne_eqb (length (chars (b ∷ more))) 0 seen)

pub begins_more : (text more : List ℕ) (c : ℕ) (b : Bool) → BeginsWithChar text c more → is_whitespace c ≡ true → b ≡ (length more == 0) → not b ≡ begins_list (chars text)
begins_more text more c b h white e = rw (h.spelled, white, e) (ap not (no_bytes more h.utf8))

pub begins_none : (text : List ℕ) → length text ≡ 0 → false ≡ begins_list (chars text)
begins_none text e = rw (nil_from_length text e, chars-nil) refl

-- ---- a directive that names extensions
pub named_none : (kind : List (List ℕ) → Directive) (names : List (String Global)) → length names ≡ 0 → wrong (codes "No extensions specified") ≡ named kind (map string_bytes names)
named_none kind [] e = refl
named_none kind (name ∷ names) e = absurd (omega (arith, e))

pub named_some : (kind : List (List ℕ) → Directive) (names : List (String Global)) → length names ≢ 0 → kind (map string_bytes names) ≡ named kind (map string_bytes names)
named_some kind [] e = absurd (e refl)
named_some kind (name ∷ names) e = refl

pub enabling_is : (line list : List ℕ) (names : List (List ℕ)) (d : Directive) → Some list ≡ listed (codes "enable") line → d ≡ named enabling names → names ≡ extensions list → d ≡ directive_of line
unfolding directive_of listed past_word
enabling_is line list names d found is same = is ∙ ap (named enabling) same ∙ rw (sym found) refl

pub requiring_is : (line list : List ℕ) (names : List (List ℕ)) (d : Directive) → None ≡ listed (codes "enable") line → Some list ≡ listed (codes "requires") line → d ≡ named requiring names → names ≡ extensions list
    → d ≡ directive_of line
unfolding directive_of listed past_word
requiring_is line list names d none found is same = is ∙ ap (named requiring) same ∙ rw (sym none, sym found) refl
