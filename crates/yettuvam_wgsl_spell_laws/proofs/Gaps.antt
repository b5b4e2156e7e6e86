-- What stands between two pieces.
use Rattle.std.proofs.Common.{◌≡◌, ℕ, zero, suc, ◌-◌, Bool, true, false, not, ◌&&◌, ◌||◌, ◌==◌, if◌then◌else◌, List, [], ◌∷◌, ◌++◌, codes, refl, ap}
use Rattle.std.proofs.lemmas.Bool.{and_parts, not-true}
use Rattle.yettuvam_wgsl_pieces.specs.Layout.{gap_between, gap_text, line_text, indent, is_right_brace}
use Rattle.yettuvam_wgsl_pieces.specs.Pieces.{Piece, text}
use Rattle.yettuvam_wgsl_pieces.specs.declared.layout.Gap.{Gap}
use Rattle.yettuvam_wgsl_pieces.specs.declared.layout.Gap.TheVariants as gap
use Rattle.yettuvam_wgsl_words.specs.declared.class.Class.TheVariants as class
use Rattle.yettuvam_wgsl_words.specs.declared.cut.Piece.{Piece as PieceOfText}
use Rattle.yettuvam_wgsl_words.specs.declared.token.Kind.{Kind}
use Rattle.yettuvam_wgsl_words.specs.Class.{Text, is_in, after, starts_name}
use Rattle.yettuvam_wgsl_words.specs.Cut.{has_prefix, begins_line_comment, opens_comment, cut, number, word}
use Rattle.yettuvam_wgsl_words.specs.Number.{point, begins_number}
use Rattle.yettuvam_wgsl_spell_laws.specs.Apart.{ends_words, ends_numbers, begins_some, begins_sign, begins_no_more, ends_before, ends_at, is_blank, stand_apart}
use Rattle.yettuvam_wgsl_spell_laws.specs.Meant.{IsGood, meant_kind, kind_cut, is_closing}
use Rattle.yettuvam_wgsl_spell_laws.proofs.Cuts.{token_and, same_parts, signs, rest_of, Never, never_blank, never_comment}

-- ---- blanks

-- a blank or a line feed
pub data Space : Type 0 where
  Between : Space
  Line : Space

abbrev pub byte : Space → ℕ
byte Between = 32
byte Line = 10

-- a text of blanks, which isn't empty
pub record IsGap (g : Text) : Type 0 where
  pub first : Space
  pub rest : Text
  pub is : g ≡ byte first ∷ rest
  pub skips : (x : Text) → after class.Blank (g ++ x) ≡ after class.Blank x

skip_indent : (d : ℕ) (x : Text) → after class.Blank (indent d ++ x) ≡ after class.Blank x
skip_indent zero x = refl
skip_indent (suc d) x = skip_indent d x

pub line_gap : IsGap (codes "\n")
line_gap = record { first = Line; rest = []; is = refl; skips = λ x. refl }

indented : (d : ℕ) → IsGap (codes "\n" ++ indent d)
indented d = record { first = Line; rest = indent d; is = refl; skips = skip_indent d }

line_text_gap : (d : ℕ) (q : Piece) → IsGap (line_text d q)
line_text_gap d q = elim (d == 0) as (λ v. IsGap (if v then codes "\n\n" else (if is_right_brace q then codes "\n" ++ indent (d - 1) else codes "\n" ++ indent d))) [
  | true ↦ record { first = Line; rest = 10 ∷ []; is = refl; skips = λ x. refl }
  | false ↦ elim (is_right_brace q) as (λ v. IsGap (if v then codes "\n" ++ indent (d - 1) else codes "\n" ++ indent d)) [
    | true ↦ indented (d - 1)
    | false ↦ indented d
  ]
]

gap_of : (d : ℕ) (g : Gap) (q : Piece) → is_blank g ≡ true → IsGap (gap_text d g q)
gap_of d gap.Nothing q e = cc
gap_of d gap.Blank q e = record { first = Between; rest = []; is = refl; skips = λ x. refl }
gap_of d gap.Line q e = line_text_gap d q
gap_of d gap.Row q e = line_gap

-- ---- tokens before blanks

abbrev lacks : ℕ → Text → Bool
lacks c [] = true
lacks c (a ∷ z) = not (a == c) && lacks c z

lacking : (c : ℕ) (s z : Text) → lacks c s ≡ true → has_prefix (z ++ c ∷ []) s ≡ false
lacking c [] [] h = refl
lacking c [] (a ∷ z) h = refl
lacking c (x ∷ s) [] h = let other : (x == c) ≡ false = not-true (x == c) ((and_parts (not (x == c)) (lacks c s) h).0) in rw other refl
lacking c (x ∷ s) (a ∷ z) h = by (x == a) (lacking c s z ((and_parts (not (x == c)) (lacks c s) h).1))
  where
    by : (v : Bool) → has_prefix (z ++ c ∷ []) s ≡ false → (v && has_prefix (z ++ c ∷ []) s) ≡ false
    by true e = e
    by false e = refl

unfoldable all_lack : ℕ → List (ℕ × Text × Kind) → Bool
all_lack c [] = true
all_lack c (e ∷ es) = lacks c e.1 && all_lack c es

none_begins : (c : ℕ) (es : List (ℕ × Text × Kind)) (z : Text) → all_lack c es ≡ true → begins_some (z ++ c ∷ []) es ≡ false
unfolding all_lack begins_some
none_begins c [] z h = refl
none_begins c (e ∷ es) z h = let parts = and_parts (lacks c e.1) (all_lack c es) h in rw (lacking c e.1 z parts.0) (none_begins c es z parts.1)

signs_lack : (c : Space) → all_lack (byte c) signs ≡ true
unfolding all_lack
signs_lack Between = refl
signs_lack Line = refl

ends_words_at : (c : Space) → ends_words (byte c) ≡ true
ends_words_at Between = refl
ends_words_at Line = refl

ends_numbers_at : (c : Space) → ends_numbers (byte c) ≡ true
ends_numbers_at Between = refl
ends_numbers_at Line = refl

no_number_at : (c : Space) (a : ℕ) (z : Text) → begins_number (a ∷ z) ≡ false → begins_number (a ∷ z ++ byte c ∷ []) ≡ false
no_number_at c a (d ∷ z) h = h
no_number_at c a [] h = by c (a == point) h
  where
    by : (c : Space) (v : Bool) → (if v then false else is_in class.Digit a) ≡ false → (if v then is_in class.Digit (byte c) else is_in class.Digit a) ≡ false
    by Between true e = refl
    by Line true e = refl
    by c false e = e

no_both : (x y z : Bool) → y ≡ false → (x && y) ≡ false
no_both true y z e = e
no_both false y z e = refl

no_line_at : (c : Space) (a : ℕ) (z : Text) → begins_line_comment (a ∷ z) ≡ false → begins_line_comment (a ∷ z ++ byte c ∷ []) ≡ false
no_line_at c a (d ∷ z) h = h
no_line_at Between a [] h = no_both (a == 47) false false refl
no_line_at Line a [] h = no_both (a == 47) false false refl

no_comment_at : (c : Space) (a : ℕ) (z : Text) → opens_comment (a ∷ z) ≡ false → opens_comment (a ∷ z ++ byte c ∷ []) ≡ false
no_comment_at c a (d ∷ z) h = h
no_comment_at Between a [] h = no_both (a == 47) false false refl
no_comment_at Line a [] h = no_both (a == 47) false false refl

-- the first choice wasn't taken
not_first : (v : Bool) (x y : PieceOfText × Text) (k : Kind) → Never x → (if v then x else y) ≡ token_and k [] → (v ≡ false) × (y ≡ token_and k [])
unfolding Never
not_first true x y k never e = absurd (never k ((same_parts x k e).0))
not_first false x y k never e = (refl, e)

-- a token isn't read as a comment
no_comments : (a : ℕ) (z : Text) (k : Kind) → rest_of a (a ∷ z) ≡ token_and k [] → (begins_line_comment (a ∷ z) ≡ false) × (opens_comment (a ∷ z) ≡ false)
no_comments a z k e =
    let one = not_first (begins_line_comment (a ∷ z)) _ _ k (never_blank _) e in
    let two = not_first (opens_comment (a ∷ z)) _ _ k (never_comment _ _) one.1 in
    (one.0, two.0)

-- no blank begins a token
no_blank_first : (a : ℕ) (z : Text) (k : Kind) → cut (a ∷ z) ≡ token_and k [] → (is_in class.Blank a ≡ false) × ((if starts_name (a ∷ z) then word (a ∷ z) else (if begins_number (a ∷ z) then number (a ∷ z) else rest_of a (a ∷ z))) ≡ token_and k [])
unfolding cut
no_blank_first a z k e = not_first (is_in class.Blank a) _ _ k (never_blank _) e

-- a token ends before a blank
pub ends_space : (z : Text) (k : Kind) (c : Space) → cut z ≡ token_and k [] → ends_before z (byte c) ≡ true
unfolding cut
ends_space [] k c e = let first = (same_parts _ k e).0 in cc
ends_space (a ∷ z) k c e = by_name (starts_name (a ∷ z)) refl (no_blank_first a z k e).1
  where
    by_number : (v : Bool) → begins_number (a ∷ z) ≡ v → (if v then number (a ∷ z) else rest_of a (a ∷ z)) ≡ token_and k [] → (if v then ends_numbers (byte c) else begins_no_more (a ∷ z ++ byte c ∷ [])) ≡ true
    by_number true n f = ends_numbers_at c
    by_number false n f =
        let comments = no_comments a z k f in
        let sign : begins_sign (a ∷ z ++ byte c ∷ []) ≡ false = none_begins (byte c) signs (a ∷ z) (signs_lack c) in
        rw (sign, no_number_at c a z n, no_line_at c a z comments.0, no_comment_at c a z comments.1) refl

    by_name : (v : Bool) → starts_name (a ∷ z) ≡ v → (if v then word (a ∷ z) else (if begins_number (a ∷ z) then number (a ∷ z) else rest_of a (a ∷ z))) ≡ token_and k []
        → (if v then ends_words (byte c) else (if begins_number (a ∷ z) then ends_numbers (byte c) else begins_no_more (a ∷ z ++ byte c ∷ []))) ≡ true
    by_name true s f = ends_words_at c
    by_name false s f = by_number (begins_number (a ∷ z)) refl f

-- a token has a first byte
pub record HasFirst (z : Text) : Type 0 where
  pub first : ℕ
  pub rest : Text
  pub is : z ≡ first ∷ rest
  pub solid : is_in class.Blank first ≡ false

pub has_first : (z : Text) (k : Kind) → cut z ≡ token_and k [] → HasFirst z
unfolding cut
has_first [] k e = let first = (same_parts _ k e).0 in cc
has_first (a ∷ z) k e = record { first = a; rest = z; is = refl; solid = (no_blank_first a z k e).0 }

-- ---- what follows a token

-- blanks, or at once a text before which the token ends
pub data Follows : (z g x : Text) → Type 0 where
  Apart : {z g x : Text} → IsGap g → Follows z g x
  AtOnce : {z x : Text} → (b : ℕ) → (r : Text) → x ≡ b ∷ r → ends_before z b ≡ true → Follows z [] x

-- a text that no blank begins
unfoldable pub Solid : Text → Type 0
Solid x = after class.Blank x ≡ x

pub solid_text : (z y : Text) (k : Kind) → cut z ≡ token_and k [] → Solid (z ++ y)
unfolding Solid
solid_text z y k e = let f = has_first z k e in rw f.is (rw f.solid refl)

pub follows : (d : ℕ) (p q : Piece) (y : Text) → IsGood q → stand_apart p q ≡ true → (is_closing (meant_kind p) && is_closing (meant_kind q)) ≡ false
    → Follows (text p) (gap_text d (gap_between p q) q) (text q ++ y)
follows d p q y good apart single = by (gap_between p q) (rw single at apart)
  where
    by : (g : Gap) → (is_blank g || (false || ends_at (text p) (text q))) ≡ true → Follows (text p) (gap_text d g q) (text q ++ y)
    by gap.Nothing e =
        let f = has_first (text q) (kind_cut (meant_kind q)) good in
        AtOnce f.first (f.rest ++ y) (ap (λ x. x ++ y) f.is) (rw f.is at e)
    by gap.Blank e = Apart (gap_of d gap.Blank q refl)
    by gap.Line e = Apart (gap_of d gap.Line q refl)
    by gap.Row e = Apart (gap_of d gap.Row q refl)
