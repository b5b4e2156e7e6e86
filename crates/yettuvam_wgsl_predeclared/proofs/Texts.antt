-- Bytes that are text, and bytes that are none.
use Rattle.std.proofs.Common.{◌≡◌, ℕ, Bool, true, false, List, [], refl}
use Rattle.std.specs.Str.{IsUtf8, is_utf8}
use Rattle.std.proofs.lemmas.Str.{is_utf8-from_IsUtf8, IsUtf8-from_is_utf8}
use Rattle.yettuvam_wgsl_predeclared.specs.Words.{word_of}

pub of_text : (bs : List ℕ) → IsUtf8 bs → word_of bs ≡ bs
unfolding word_of
of_text bs h = rw (is_utf8-from_IsUtf8 bs h)

no_text_by : (bs : List ℕ) (b : Bool) → is_utf8 bs ≡ b → (IsUtf8 bs → ⊥) → word_of bs ≡ []
unfolding word_of
no_text_by bs true e h = absurd (h (IsUtf8-from_is_utf8 bs e))
no_text_by bs false e h = rw e

pub of_no_text : (bs : List ℕ) → (IsUtf8 bs → ⊥) → word_of bs ≡ []
of_no_text bs h = no_text_by bs (is_utf8 bs) refl h
