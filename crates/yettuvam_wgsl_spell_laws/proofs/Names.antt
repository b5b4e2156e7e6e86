-- Names, letters of swizzles and signs are cut as one token.
use Rattle.std.proofs.Common.{◌≡◌, ℕ, zero, suc, ◌-◌, ◌/◌, ◌%◌, ◌<◌, Bool, true, false, not, ◌&&◌, ◌||◌, ◌==◌, nat_lt, bytes_eq, if◌then◌else◌, List, [], ◌∷◌, length, map, is_some, Option, Some, None, refl, ap, arith}
use Rattle.std.proofs.lemmas.Bool.{agree_below, and_parts, not-true, not-false, eqb-true, both_ways}
use Rattle.std.proofs.lemmas.Bool.Decides.{nat_tests}
use Rattle.std.proofs.lemmas.List.{take_all, nil_from_length}
use Rattle.std.specs.Cmp.Lexicographic.{bytes_decides}
use Rattle.std.specs.Char.{is_ascii_alphabetic, is_ascii_alphanumeric}
use Rattle.yettuvam_wgsl_pieces.specs.Pieces.{Word, Number, Literal, Letters, Sign, letter, letters, has_colors, at_most_four}
use Rattle.yettuvam_wgsl_pieces.specs.declared.sign.Sign.{Sign as SignOfText}
use Rattle.yettuvam_wgsl_pieces.specs.declared.sign.Sign.TheVariants as signs
use Rattle.yettuvam_wgsl_words.specs.declared.class.Class.TheVariants as class
use Rattle.yettuvam_wgsl_words.specs.declared.keywords.TheConstants.{WORDS}
use Rattle.yettuvam_wgsl_words.specs.declared.token.Kind.{Kind}
use Rattle.yettuvam_wgsl_words.specs.declared.token.Kind.TheVariants as k
use Rattle.yettuvam_wgsl_words.specs.Class.{Text, ascii_count, underscore, is_in, after_name, before, continues_name, starts_name}
use Rattle.yettuvam_wgsl_words.specs.Cut.{cut, word, word_piece, meaning, find, find_group, group, sign}
use Rattle.yettuvam_wgsl_written_names.specs.Spelled.{is_name, is_reserved}
use Rattle.yettuvam_wgsl_spell_laws.specs.Laws.{GoodLaw}
use Rattle.yettuvam_wgsl_spell_laws.specs.Meant.{IsGood}
use Rattle.yettuvam_wgsl_spell_laws.specs.Written.{is_word}
use Rattle.yettuvam_wgsl_spell_laws.proofs.Cuts.{token_and}
use Rattle.yettuvam_wgsl_spell_laws.proofs.Literals.{literal_good, number_good}
use Rattle.yettuvam_wgsl_spell_laws.proofs.Stops.{never_where}

-- ---- names

all_of : (z : Text) → before z [] ≡ z
all_of z = let n : length z - 0 ≡ length z = omega arith in rw n (take_all (length z) z (omega arith))

none_of : (o : Option (Option Kind)) → is_some o ≡ false → o ≡ None
none_of None e = refl
none_of (Some x) e = cc

-- no blank begins a name
letter_first : (a : ℕ) (z : Text) → starts_name (a ∷ z) ≡ true → is_in class.Blank a ≡ false
letter_first a z h = by (nat_lt a ascii_count) refl
  where
    ascii : (is_ascii_alphabetic a || a == underscore) ≡ true → is_in class.Blank a ≡ false
    ascii e = grind (arith, nat_tests, e)

    by : (v : Bool) → nat_lt a ascii_count ≡ v → is_in class.Blank a ≡ false
    by true e = ascii (rw e at h)
    by false e = grind (arith, nat_tests, e)

plain_piece : (a : ℕ) (rest : Text) → is_reserved (a ∷ rest) ≡ false → is_word (a ∷ rest) ≡ false → word_piece (a ∷ rest) ≡ (token_and k.Name []).0
plain_piece a [] r w = rw r (ap meaning (none_of _ w))
plain_piece a (b ∷ rest) r w = rw r (ap meaning (none_of _ w))

word_read : (z : Text) → after_name z ≡ [] → word_piece z ≡ (token_and k.Name []).0 → word z ≡ token_and k.Name []
word_read z e p = rw (e, all_of z, p) refl

name_cut : (z : Text) → is_name z ≡ true → is_word z ≡ false → cut z ≡ token_and k.Name []
unfolding cut
name_cut [] h w = cc
name_cut (a ∷ z) h w =
    let p = and_parts (starts_name (a ∷ z)) _ h in
    let q = and_parts (length (after_name (a ∷ z)) == 0) _ p.1 in
    let none : after_name (a ∷ z) ≡ [] = nil_from_length (after_name (a ∷ z)) (eqb-true _ _ q.0) in
    rw (letter_first a z p.0, p.0) (word_read (a ∷ z) none (plain_piece a z (not-true _ q.1) w))

-- ---- letters

-- x, y, z, w, r, g, b and a
abbrev is_component : ℕ → Bool
is_component byte = (byte == 120 || (byte == 121 || (byte == 122 || byte == 119))) || (byte == 114 || (byte == 103 || (byte == 98 || byte == 97)))

component_never : (f : ℕ → Bool) → agree_below (λ b. is_component b && f b) (λ b. false) 128 ≡ true → (b : ℕ) → is_component b ≡ true → f b ≡ false
component_never f all b h = never_where is_component f (λ c e. grind (arith, nat_tests, e)) all b h

component_always : (f : ℕ → Bool) → agree_below (λ b. is_component b && not (f b)) (λ b. false) 128 ≡ true → (b : ℕ) → is_component b ≡ true → f b ≡ true
component_always f all b h = not-false (f b) (component_never (λ c. not (f c)) all b h)

abbrev all_components : Text → Bool
all_components [] = true
all_components (b ∷ z) = is_component b && all_components z

record IsLetter (z : Text) : Type 0 where
  byte : ℕ
  is : z ≡ byte ∷ []
  component : is_component byte ≡ true

one_of : (v : Bool) (x y : Text) → IsLetter x → IsLetter y → IsLetter (if v then x else y)
one_of true x y f g = f
one_of false x y f g = g

letter_is : (colors : Bool) (place : ℕ) → IsLetter (letter colors place)
letter_is true place = one_of (place == 0) _ _ (record { byte = 114; is = refl; component = refl }) (one_of (place == 1) _ _ (record { byte = 103; is = refl; component = refl })
    (one_of (place == 2) _ _ (record { byte = 98; is = refl; component = refl }) (record { byte = 97; is = refl; component = refl })))
letter_is false place = one_of (place == 0) _ _ (record { byte = 120; is = refl; component = refl }) (one_of (place == 1) _ _ (record { byte = 121; is = refl; component = refl })
    (one_of (place == 2) _ _ (record { byte = 122; is = refl; component = refl }) (record { byte = 119; is = refl; component = refl })))

letters_are : (colors : Bool) (size pattern : ℕ) → all_components (letters colors size pattern) ≡ true
letters_are colors zero pattern = refl
letters_are colors (suc size) pattern = let l = letter_is colors (pattern % 4) in rw l.is (rw l.component (letters_are colors size (pattern / 4)))

-- no word of the language is made of such letters alone
unfoldable all_other : List (Text × Option Kind) → Bool
all_other [] = true
all_other (e ∷ es) = not (all_components e.0) && all_other es

unfoldable all_groups_other : List (ℕ × List (Text × Option Kind)) → Bool
all_groups_other [] = true
all_groups_other (g ∷ gs) = all_other g.1 && all_groups_other gs

words : List (ℕ × List (Text × Option Kind))
words = map (λ g. (g.0, map (λ e. (e.0.now, e.1)) g.1.now)) WORDS

words_other : all_groups_other words ≡ true
unfolding words all_groups_other all_other
words_other = refl

group_other : (gs : List (ℕ × List (Text × Option Kind))) (a : ℕ) → all_groups_other gs ≡ true → all_other (find_group gs a) ≡ true
unfolding all_groups_other all_other
group_other [] a h = refl
group_other (g ∷ gs) a h = let p = and_parts (all_other g.1) (all_groups_other gs) h in by (g.0 == a) p.0 (group_other gs a p.1)
  where
    by : (v : Bool) → all_other g.1 ≡ true → all_other (find_group gs a) ≡ true → all_other (if v then g.1 else find_group gs a) ≡ true
    by true e f = e
    by false e f = f

find_none : (es : List (Text × Option Kind)) (z : Text) → all_other es ≡ true → all_components z ≡ true → find es z ≡ None
unfolding all_other
find_none [] z h c = refl
find_none (e ∷ es) z h c = let p = and_parts (not (all_components e.0)) (all_other es) h in by (bytes_eq e.0 z) refl (not-true _ p.0) (find_none es z p.1 c)
  where
    by : (v : Bool) → bytes_eq e.0 z ≡ v → all_components e.0 ≡ false → find es z ≡ None → (if v then Some e.1 else find es z) ≡ None
    by false f other rest = rest
    by true f other rest = let same : e.0 ≡ z = (bytes_decides e.0 z).0 f in let no : all_components e.0 ≡ true = rw same c in absurd (both_ways (all_components e.0) other no)

no_word : (a : ℕ) (z : Text) → all_components (a ∷ z) ≡ true → is_word (a ∷ z) ≡ false
unfolding group words
no_word a z c = rw (find_none (find_group words a) (a ∷ z) (group_other words a words_other) c) refl

continues : (a : ℕ) (z : Text) → is_component a ≡ true → continues_name (a ∷ z) ≡ true
continues a z c =
    let small : nat_lt a ascii_count ≡ true = component_always (λ b. nat_lt b ascii_count) refl a c in
    rw small (component_always (λ b. is_ascii_alphanumeric b || b == underscore) refl a c)

starts : (a : ℕ) (z : Text) → is_component a ≡ true → starts_name (a ∷ z) ≡ true
starts a z c =
    let small : nat_lt a ascii_count ≡ true = component_always (λ b. nat_lt b ascii_count) refl a c in
    rw small (component_always (λ b. is_ascii_alphabetic b || b == underscore) refl a c)

ends : (z : Text) → all_components z ≡ true → after_name z ≡ []
ends [] c = refl
ends (a ∷ z) c = let p = and_parts (is_component a) (all_components z) c in rw (continues a z p.0) (ends z p.1)

unreserved : (a : ℕ) (z : Text) → is_component a ≡ true → is_reserved (a ∷ z) ≡ false
unreserved a [] c = component_never (λ b. b == underscore) refl a c
unreserved a (b ∷ z) c = rw (component_never (λ b. b == underscore) refl a c) refl

some_size : (size : ℕ) → 0 < size → (m : ℕ) × (at_most_four size ≡ suc m)
some_size size h = let no : (size == 0) ≡ false = grind (arith, nat_tests, h) in rw no (by (size == 1) (size == 2) (size == 3))
  where
    by : (u v w : Bool) → (m : ℕ) × ((if u then 1 else (if v then 2 else (if w then 3 else 4))) ≡ suc m)
    by true v w = (0, refl)
    by false true w = (1, refl)
    by false false true = (2, refl)
    by false false false = (3, refl)

pub named_letters : (size pattern : ℕ) → 0 < size → starts_name (letters (has_colors pattern) (at_most_four size) pattern) ≡ true
named_letters size pattern h =
    let s = some_size size h in
    let l = letter_is (has_colors pattern) (pattern % 4) in
    rw s.1 (rw l.is (starts l.byte (letters (has_colors pattern) s.0 (pattern / 4)) l.component))

components_cut : (z : Text) → all_components z ≡ true → 0 < length z → cut z ≡ token_and k.Name []
components_cut [] c l = absurd (omega (arith, l))
components_cut (a ∷ z) c l =
    let p = and_parts (is_component a) (all_components z) c in
    let name : is_name (a ∷ z) ≡ true = rw (starts a z p.0, ap length (ends (a ∷ z) c), unreserved a z p.0) refl in
    name_cut (a ∷ z) name (no_word a z c)

letters_long : (colors : Bool) (size pattern : ℕ) → 0 < length (letters colors (suc size) pattern)
letters_long colors size pattern = let l = letter_is colors (pattern % 4) in rw l.is (omega arith)

pub letters_good : (size pattern : ℕ) → 0 < size → IsGood (Letters size pattern)
letters_good size pattern h =
    let s = some_size size h in
    let long : 0 < length (letters (has_colors pattern) (at_most_four size) pattern) = rw s.1 (letters_long (has_colors pattern) s.0 pattern) in
    components_cut (letters (has_colors pattern) (at_most_four size) pattern) (letters_are (has_colors pattern) (at_most_four size) pattern) long

-- ---- signs

pub sign_good : (s : SignOfText) → IsGood (Sign s)
unfolding cut group sign
sign_good signs.And = refl
sign_good _ = refl

-- ---- pieces

pub good_law : GoodLaw
good_law (Word z) w = name_cut z w.0 w.1
good_law (Number n) w = number_good n w
good_law (Literal kind bits) w = literal_good kind bits w.0 w.1
good_law (Letters size pattern) w = letters_good size pattern w
good_law (Sign s) w = sign_good s
