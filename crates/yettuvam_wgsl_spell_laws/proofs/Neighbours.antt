-- Which pieces stand apart.
use Rattle.std.proofs.Common.{◌≡◌, ℕ, Bool, true, false, not, ◌&&◌, ◌||◌, ◌==◌, nat_lt, nat_le, if◌then◌else◌, [], ◌∷◌, codes, refl, sym, ◌∙◌, arith}
use Rattle.std.proofs.lemmas.Bool.{and_parts, or_parts, not-true}
use Rattle.std.proofs.lemmas.Bool.Decides.{nat_tests}
use Rattle.std.specs.Char.{is_ascii_alphabetic, is_ascii_alphanumeric}
use Rattle.yettuvam_wgsl_pieces.specs.Layout.{gap_between, is_tight_after, is_tight_before, is_left_paren}
use Rattle.yettuvam_wgsl_pieces.specs.Numbers.{class_of, bool_text}
use Rattle.yettuvam_wgsl_pieces.specs.Pieces.{Piece, Word, Number, Literal, Letters, Sign, text}
use Rattle.yettuvam_wgsl_pieces.specs.Signs.{sign_text}
use Rattle.yettuvam_wgsl_pieces.specs.declared.sign.Sign.{Sign as SignOfText}
use Rattle.yettuvam_wgsl_pieces.specs.declared.sign.Sign.TheVariants as sign
use Rattle.yettuvam_wgsl_words.specs.declared.class.Class.TheVariants as class
use Rattle.yettuvam_wgsl_words.specs.declared.token.Kind.{Kind}
use Rattle.yettuvam_wgsl_words.specs.declared.token.Kind.TheVariants as k
use Rattle.yettuvam_wgsl_words.specs.Class.{Text, ascii_count, underscore, is_in, starts_name}
use Rattle.yettuvam_wgsl_words.specs.Number.{begins_number}
use Rattle.yettuvam_wgsl_spell_laws.specs.Apart.{begins_some, ends_before, ends_at, is_blank, stand_apart}
use Rattle.yettuvam_wgsl_spell_laws.specs.Laws.{NeighboursLaw}
use Rattle.yettuvam_wgsl_spell_laws.specs.Meant.{meant_kind, literal_kind, is_closing}
use Rattle.yettuvam_wgsl_spell_laws.specs.Written.{IsWritten, is_dot, is_sign, is_number}
use Rattle.yettuvam_wgsl_spell_laws.proofs.Literals.{literal_number, literal_bool, number_is}
use Rattle.yettuvam_wgsl_spell_laws.proofs.Names.{named_letters}
use Rattle.yettuvam_wgsl_spell_laws.proofs.Numerals.{IsNumber, digit_names_nothing, digit_begins}

-- ---- how a piece that is no sign begins

-- a text that begins with a name, or a number
pub data Front : Text → Kind → Type 0 where
  Named : {z : Text} → {kind : Kind} → starts_name z ≡ true → Front z kind
  Numbered : {z : Text} → {kind : Kind} → IsNumber z → is_number kind ≡ true → Front z kind

bool_named : (bits : ℕ) → starts_name (bool_text bits) ≡ true
bool_named bits = elim (bits == 0) as (λ v. starts_name (if v then codes "false" else codes "true") ≡ true) [
  | true ↦ refl
  | false ↦ refl
]

literal_front : (kind bits : ℕ) → IsWritten (Literal kind bits) → Front (text (Literal kind bits)) (literal_kind kind bits)
literal_front kind bits w = by (class_of kind == 0) refl
  where
    by : (v : Bool) → (class_of kind == 0) ≡ v → Front (text (Literal kind bits)) (if v then (if bits == 0 then k.False else k.True) else k.Number)
    by true c = Named (rw (literal_bool kind bits c) (bool_named bits))
    by false c = Numbered (literal_number kind bits w.0 w.1 c) refl

front : (p : Piece) → IsWritten p → is_sign p ≡ false → Front (text p) (meant_kind p)
front (Word z) w s = Named ((and_parts (starts_name z) _ w.0).0)
front (Number n) w s = Numbered (number_is n w) refl
front (Literal kind bits) w s = literal_front kind bits w
front (Letters size pattern) w s = Named (named_letters size pattern w)
front (Sign r) w s = cc

-- ---- a sign, and what it ends before

-- a byte that begins a name or a number
abbrev begins_word : ℕ → Bool
begins_word b = (is_ascii_alphanumeric b || b == underscore) || nat_le ascii_count b

other : (c b : ℕ) → begins_word c ≡ false → begins_word b ≡ true → (c == b) ≡ false
other c b f g = by (c == b) refl
  where
    by : (v : Bool) → (c == b) ≡ v → v ≡ false
    by false e = refl
    by true e = let same : c ≡ b = grind (arith, nat_tests, e) in let no : begins_word c ≡ true = rw same g in sym no ∙ f

sign_ends : (s : SignOfText) (b : ℕ) → begins_word b ≡ true → (is_dot (Sign s) && is_in class.Digit b) ≡ false → is_tight_after (Sign s) ≡ true → ends_before (sign_text s) b ≡ true
unfolding begins_some
sign_ends sign.At b w d t = refl
sign_ends sign.LeftParen b w d t = refl
sign_ends sign.LeftBracket b w d t = refl
sign_ends sign.Complement b w d t = refl
sign_ends sign.Dot b w d t = rw d refl
sign_ends sign.Not b w d t = rw (other 61 b refl w) refl
sign_ends sign.Negate b w d t = rw (other 61 b refl w, other 62 b refl w, other 45 b refl w) refl
sign_ends sign.AddressOf b w d t = rw (other 61 b refl w, other 38 b refl w) refl
sign_ends sign.Indirection b w d t = rw (other 61 b refl w) refl
sign_ends sign.TemplateOpen b w d t = rw (other 61 b refl w, other 60 b refl w) refl
sign_ends _ b w d t = cc

-- ---- a name or a number, and the signs before which it ends

name_ends : (r : SignOfText) (z : Text) → starts_name z ≡ true → (is_tight_before (Sign r) || is_left_paren (Sign r)) ≡ true → ends_at z (sign_text r) ≡ true
name_ends sign.Comma z s t = rw s refl
name_ends sign.MemberComma z s t = rw s refl
name_ends sign.Semicolon z s t = rw s refl
name_ends sign.HeadSemicolon z s t = rw s refl
name_ends sign.Colon z s t = rw s refl
name_ends sign.CaseColon z s t = rw s refl
name_ends sign.RightParen z s t = rw s refl
name_ends sign.LeftBracket z s t = rw s refl
name_ends sign.RightBracket z s t = rw s refl
name_ends sign.Dot z s t = rw s refl
name_ends sign.TemplateOpen z s t = rw s refl
name_ends sign.TemplateClose z s t = rw s refl
name_ends sign.LeftParen z s t = rw s refl
name_ends _ z s t = cc

number_ends : (r : SignOfText) (z : Text) → starts_name z ≡ false → begins_number z ≡ true → is_dot (Sign r) ≡ false → (is_tight_before (Sign r) || is_left_paren (Sign r)) ≡ true → ends_at z (sign_text r) ≡ true
number_ends sign.Comma z s n d t = rw (s, n) refl
number_ends sign.MemberComma z s n d t = rw (s, n) refl
number_ends sign.Semicolon z s n d t = rw (s, n) refl
number_ends sign.HeadSemicolon z s n d t = rw (s, n) refl
number_ends sign.Colon z s n d t = rw (s, n) refl
number_ends sign.CaseColon z s n d t = rw (s, n) refl
number_ends sign.RightParen z s n d t = rw (s, n) refl
number_ends sign.LeftBracket z s n d t = rw (s, n) refl
number_ends sign.RightBracket z s n d t = rw (s, n) refl
number_ends sign.Dot z s n d t = cc
number_ends sign.TemplateOpen z s n d t = rw (s, n) refl
number_ends sign.TemplateClose z s n d t = rw (s, n) refl
number_ends sign.LeftParen z s n d t = rw (s, n) refl
number_ends _ z s n d t = cc

-- ---- what stands between

after_sign : (s : SignOfText) (q : Piece) → is_sign q ≡ false → (is_blank (gap_between (Sign s) q) || is_tight_after (Sign s)) ≡ true
after_sign s (Sign r) e = cc
after_sign sign.And (Word z) e = refl
after_sign _ (Word z) e = refl
after_sign sign.And (Number n) e = refl
after_sign _ (Number n) e = refl
after_sign sign.And (Literal kind bits) e = refl
after_sign _ (Literal kind bits) e = refl
after_sign sign.And (Letters size pattern) e = refl
after_sign _ (Letters size pattern) e = refl

before_sign : (p : Piece) (r : SignOfText) → is_sign p ≡ false → (is_blank (gap_between p (Sign r)) || (is_tight_before (Sign r) || is_left_paren (Sign r))) ≡ true
before_sign (Sign s) r e = cc
before_sign (Word z) sign.And e = refl
before_sign (Word z) _ e = refl
before_sign (Number n) sign.And e = refl
before_sign (Number n) _ e = refl
before_sign (Literal kind bits) sign.And e = refl
before_sign (Literal kind bits) _ e = refl
before_sign (Letters size pattern) sign.And e = refl
before_sign (Letters size pattern) _ e = refl

-- ---- all

choose : (blank pair ends tight : Bool) → (blank || tight) ≡ true → (tight ≡ true → ends ≡ true) → (blank || (pair || ends)) ≡ true
choose true pair ends tight e f = refl
choose false true ends tight e f = refl
choose false false ends tight e f = f e

first_word : (a : ℕ) (z : Text) → starts_name (a ∷ z) ≡ true → (begins_word a ≡ true) × (is_in class.Digit a ≡ false)
first_word a z h = by (nat_lt a ascii_count) refl
  where
    ascii : (is_ascii_alphabetic a || a == underscore) ≡ true → (begins_word a ≡ true) × (is_in class.Digit a ≡ false)
    ascii e = (grind (arith, nat_tests, e), grind (arith, nat_tests, e))

    by : (v : Bool) → nat_lt a ascii_count ≡ v → (begins_word a ≡ true) × (is_in class.Digit a ≡ false)
    by true e = ascii (rw e at h)
    by false e = (grind (arith, nat_tests, e), grind (arith, nat_tests, e))

right_of : (v : Bool) → (v && false) ≡ false
right_of true = refl
right_of false = refl

sign_first : (s : SignOfText) (z : Text) (kind : Kind) → Front z kind → (is_dot (Sign s) && is_number kind) ≡ false → is_tight_after (Sign s) ≡ true → ends_at (sign_text s) z ≡ true
sign_first s z kind (Named n) d t = by z n
  where
    by : (y : Text) → starts_name y ≡ true → ends_at (sign_text s) y ≡ true
    by [] m = refl
    by (a ∷ y) m = let w = first_word a y m in sign_ends s a w.0 (rw w.1 (right_of (is_dot (Sign s)))) t
sign_first s z kind (Numbered n e) d t =
    let digit : begins_word n.first ≡ true = word_digit n.first n.digit in
    rw n.is (sign_ends s n.first digit (rw n.digit (rw e at d)) t)
  where
    word_digit : (a : ℕ) → is_in class.Digit a ≡ true → begins_word a ≡ true
    word_digit a h = rw h refl

sign_second : (z : Text) (kind : Kind) (r : SignOfText) → Front z kind → (is_number kind && is_dot (Sign r)) ≡ false → (is_tight_before (Sign r) || is_left_paren (Sign r)) ≡ true → ends_at z (sign_text r) ≡ true
sign_second z kind r (Named n) d t = name_ends r z n t
sign_second z kind r (Numbered n e) d t =
    let no_name : starts_name z ≡ false = rw n.is (digit_names_nothing n.first n.rest n.digit) in
    let begins : begins_number z ≡ true = rw n.is (digit_begins n.first n.rest n.digit) in
    number_ends r z no_name begins (rw e at d) t

sign_left : (s : SignOfText) (q : Piece) → IsWritten q → is_sign q ≡ false → not ((is_dot (Sign s) && is_number (meant_kind q)) || (is_number (meant_kind (Sign s)) && is_dot q)) ≡ true → stand_apart (Sign s) q ≡ true
sign_left s q w f g =
    let d = or_parts (is_dot (Sign s) && is_number (meant_kind q)) (is_number (meant_kind (Sign s)) && is_dot q) (not-true _ g) in
    choose (is_blank (gap_between (Sign s) q)) (is_closing (meant_kind (Sign s)) && is_closing (meant_kind q)) (ends_at (sign_text s) (text q)) (is_tight_after (Sign s)) (after_sign s q f)
    (sign_first s (text q) (meant_kind q) (front q w f) d.0)

sign_right : (p : Piece) (r : SignOfText) → IsWritten p → is_sign p ≡ false → not ((is_dot p && is_number (meant_kind (Sign r))) || (is_number (meant_kind p) && is_dot (Sign r))) ≡ true → stand_apart p (Sign r) ≡ true
sign_right p r v e g =
    let d = or_parts (is_dot p && is_number (meant_kind (Sign r))) (is_number (meant_kind p) && is_dot (Sign r)) (not-true _ g) in
    choose (is_blank (gap_between p (Sign r))) (is_closing (meant_kind p) && is_closing (meant_kind (Sign r))) (ends_at (text p) (sign_text r)) (is_tight_before (Sign r) || is_left_paren (Sign r)) (before_sign p r e)
    (sign_second (text p) (meant_kind p) r (front p v e) d.1)

pub neighbours_law : NeighboursLaw
neighbours_law (Sign s) (Sign r) v w h = h
neighbours_law (Sign s) (Word z) v w h = sign_left s (Word z) w refl h
neighbours_law (Sign s) (Number n) v w h = sign_left s (Number n) w refl h
neighbours_law (Sign s) (Literal kind bits) v w h = sign_left s (Literal kind bits) w refl h
neighbours_law (Sign s) (Letters size pattern) v w h = sign_left s (Letters size pattern) w refl h
neighbours_law (Word z) (Sign r) v w h = sign_right (Word z) r v refl h
neighbours_law (Number n) (Sign r) v w h = sign_right (Number n) r v refl h
neighbours_law (Literal kind bits) (Sign r) v w h = sign_right (Literal kind bits) r v refl h
neighbours_law (Letters size pattern) (Sign r) v w h = sign_right (Letters size pattern) r v refl h
neighbours_law _ _ v w h = refl
