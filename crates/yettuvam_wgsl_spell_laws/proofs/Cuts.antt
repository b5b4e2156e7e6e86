-- A token at the front of a text is cut alike by itself and before what it ends before.
use Rattle.std.proofs.Common.{◌≡◌, ℕ, ◌-◌, Bool, true, false, ◌&&◌, ◌==◌, nat_lt, if◌then◌else◌, List, [], ◌∷◌, ◌++◌, length, take, drop, map, Option, Some, None, refl, sym, ap, ◌∙◌, arith}
use Rattle.std.proofs.lemmas.Bool.{and_parts, or_parts, not-true}
use Rattle.std.proofs.lemmas.Bool.Decides.{nat_tests}
use Rattle.std.proofs.lemmas.List.{length-append, take_at}
use Rattle.yettuvam_wgsl_words.specs.declared.class.Class.TheVariants as class
use Rattle.yettuvam_wgsl_words.specs.declared.cut.Piece.{Piece}
use Rattle.yettuvam_wgsl_words.specs.declared.cut.Piece.TheVariants.{Token, Blank, Bad}
use Rattle.yettuvam_wgsl_words.specs.declared.refusal.Reason.TheVariants as reason
use Rattle.yettuvam_wgsl_words.specs.declared.token.Kind.{Kind}
use Rattle.yettuvam_wgsl_words.specs.declared.token.Kind.TheVariants as k
use Rattle.yettuvam_wgsl_words.specs.declared.token.TheConstants.{SIGNS}
use Rattle.yettuvam_wgsl_words.specs.Class.{Text, ascii_count, is_in, after_character, after_line, after_name, before, begins_with_wide_blank, continues_name, starts_name}
use Rattle.yettuvam_wgsl_words.specs.Cut.{begins_line_comment, opens_comment, comment_by, block_comment, number, number_by, word, word_piece, has_prefix, find_sign, sign, begin, cut}
use Rattle.yettuvam_wgsl_words.specs.Number.{point, after_number, begins_number}
use Rattle.yettuvam_wgsl_spell_laws.specs.Apart.{ends_words, ends_numbers, begins_some, begins_sign, begins_no_more, ends_before}
use Rattle.yettuvam_wgsl_spell_laws.proofs.Stops.{t, more, ends_word_too, starts_more, not_continued, name_ends, number_ends}

abbrev pub token_and : Kind → Text → Piece × Text
token_and k rest = (Token k, rest)

-- what is no token
unfoldable pub Never : Piece × Text → Type 0
Never x = (k : Kind) → x.0 ≡ Token k → ⊥

never_if : (v : Bool) (x y : Piece × Text) → (v ≡ true → Never x) → (v ≡ false → Never y) → Never (if v then x else y)
never_if true x y f g = f refl
never_if false x y f g = g refl

pub never_blank : (z : Text) → Never (Blank, z)
unfolding Never
never_blank z k e = cc

pub never_comment : (o : Option Text) (z : Text) → Never (comment_by o z)
unfolding Never
never_comment (Some x) z k e = cc
never_comment None z k e = cc

-- ---- signs

abbrev pub signs : List (ℕ × Text × Kind)
signs = map (λ e. (e.0, e.1.now, e.2)) SIGNS

-- a sign is a prefix of a text alike before a byte with which no sign begins
prefix_ends : (b : ℕ) (r s z : Text) → has_prefix (z ++ b ∷ []) s ≡ false → has_prefix s (z ++ b ∷ r) ≡ has_prefix s z
prefix_ends b r [] z h = refl
prefix_ends b r (a ∷ s) [] h =
    let other : (b == a) ≡ false = by (b == a) (a == b) refl refl h in
    rw other refl
  where
    by : (v w : Bool) → (b == a) ≡ v → (a == b) ≡ w → (w && true) ≡ false → v ≡ false
    by false w e f g = refl
    by true true e f g = cc
    by true false e f g = let same : b ≡ a = grind (arith, nat_tests, e) in absurd (grind (arith, nat_tests, f, same))
prefix_ends b r (a ∷ s) (c ∷ z) h = by (prefix_ends b r s z) (c == a) refl
  where
    symmetric : (c == a) ≡ true → (a == c) ≡ true
    symmetric e = grind (arith, nat_tests, e)

    by : (has_prefix (z ++ b ∷ []) s ≡ false → has_prefix s (z ++ b ∷ r) ≡ has_prefix s z) → (v : Bool) → (c == a) ≡ v → (v && has_prefix s (z ++ b ∷ r)) ≡ (v && has_prefix s z)
    by rest true e = rest (rw (symmetric e) at h)
    by rest false e = refl

prefix_dropped : (t s z : Text) → has_prefix s z ≡ true → drop (length s) (z ++ t) ≡ drop (length s) z ++ t
prefix_dropped t [] z h = refl
prefix_dropped t (a ∷ s) [] h = cc
prefix_dropped t (a ∷ s) (c ∷ z) h = prefix_dropped t s z ((and_parts (c == a) (has_prefix s z) h).1)

pub same_parts : (x : Piece × Text) (k : Kind) → x ≡ token_and k [] → (x.0 ≡ Token k) × (x.1 ≡ [])
same_parts x k e = (ap (λ (y : Piece × Text). y.0) e, ap (λ (y : Piece × Text). y.1) e)

find_ends : (es : List (ℕ × Text × Kind)) (a b : ℕ) (r z : Text) (k : Kind) → begins_some (z ++ b ∷ []) es ≡ false → find_sign es a z ≡ token_and k [] → find_sign es a (z ++ b ∷ r) ≡ token_and k (b ∷ r)
unfolding begins_some
find_ends [] a b r z k h e = let first = (same_parts _ k e).0 in cc
find_ends (entry ∷ es) a b r z k h e =
    let parts = or_parts (has_prefix (z ++ b ∷ []) entry.1) (begins_some (z ++ b ∷ []) es) h in
    rw (prefix_ends b r entry.1 z parts.0) (by (find_ends es a b r z k parts.1) (entry.0 == a && has_prefix entry.1 z) refl e)
  where
    by : (find_sign es a z ≡ token_and k [] → find_sign es a (z ++ b ∷ r) ≡ token_and k (b ∷ r)) → (v : Bool) → (entry.0 == a && has_prefix entry.1 z) ≡ v
        → (if v then (Token entry.2, drop (length entry.1) z) else find_sign es a z) ≡ token_and k []
        → (if v then (Token entry.2, drop (length entry.1) (z ++ b ∷ r)) else find_sign es a (z ++ b ∷ r)) ≡ token_and k (b ∷ r)
    by rest true f g =
        let is = same_parts _ k g in
        rw (prefix_dropped (b ∷ r) entry.1 z ((and_parts (entry.0 == a) (has_prefix entry.1 z) f).1), is.0, is.1) refl
    by rest false f g = rest g

-- no sign begins with a byte that isn't ASCII
unfoldable all_ascii : List (ℕ × Text × Kind) → Bool
all_ascii [] = true
all_ascii (e ∷ es) = nat_lt e.0 ascii_count && all_ascii es

never_sign : (es : List (ℕ × Text × Kind)) (a : ℕ) (z : Text) → all_ascii es ≡ true → nat_lt a ascii_count ≡ false → Never (find_sign es a z)
unfolding all_ascii Never
never_sign [] a z h wide k e = cc
never_sign (entry ∷ es) a z h wide k e =
    let parts = and_parts (nat_lt entry.0 ascii_count) (all_ascii es) h in
    let other : (entry.0 == a) ≡ false = grind (arith, nat_tests, parts.0, wide) in
    never_sign es a z parts.1 wide k (rw other at e)

-- ---- a first byte that isn't ASCII

module _ (a : ℕ) (wide : nat_lt a ascii_count ≡ false) where
  not_this : (c : ℕ) → nat_lt c ascii_count ≡ true → (a == c) ≡ false
  not_this c small = grind (arith, nat_tests, small, wide)

  no_digit : is_in class.Digit a ≡ false
  no_digit = grind (arith, nat_tests, wide)

  no_number : (z : Text) → begins_number (a ∷ z) ≡ false
  no_number z = rw (not_this point refl, no_digit) refl

  -- a text that begins so and isn't a name is no token
  never_wide : (z : Text) → Never (if begins_number (a ∷ z) then number (a ∷ z) else (if begins_line_comment (a ∷ z) then (Blank, after_line (a ∷ z)) else (if opens_comment (a ∷ z) then block_comment (a ∷ z) else (if begins_with_wide_blank (a ∷ z) then (Blank, after_character (a ∷ z)) else sign a (a ∷ z)))))
  unfolding sign all_ascii
  never_wide z = rw (no_number z)
      (never_if (begins_line_comment (a ∷ z)) _ _ (λ _. never_blank _)
      (λ _. never_if (opens_comment (a ∷ z)) _ _ (λ _. never_comment _ _)
      (λ _. never_if (begins_with_wide_blank (a ∷ z)) _ _ (λ _. never_blank _)
      (λ _. never_sign signs a (a ∷ z) refl wide))))

-- ---- tokens

abbrev bad : Text → Piece × Text
bad rest = (Bad reason.BadNumber, rest)

abbrev number_and : Text → Piece × Text
number_and rest = (Token k.Number, rest)

-- what is read of a text that begins with no name and no number
abbrev pub rest_of : ℕ → Text → Piece × Text
rest_of a z =
    if begins_line_comment z then (Blank, after_line z)
    else (if opens_comment z then block_comment z
    else (if begins_with_wide_blank z then (Blank, after_character z)
    else sign a z))

-- by itself a token, and the same one before t
Alike : Text → Piece × Text → Piece × Text → Type 0
Alike t x y = (k : Kind) → x ≡ token_and k [] → y ≡ token_and k t

alike_never : (t : Text) (x y : Piece × Text) → Never x → Alike t x y
unfolding Alike Never
alike_never t x y never k e = absurd (never k ((same_parts x k e).0))

-- a choice that falls alike, or that falls to no token by itself
alike_if : (t : Text) (v w : Bool) (x y x' y' : Piece × Text) → w ≡ v → (v ≡ true → Alike t x x') → (v ≡ false → Alike t y y') → Alike t (if v then x else y) (if w then x' else y')
alike_if t true w x y x' y' e f g = rw e (f refl)
alike_if t false w x y x' y' e f g = rw e (g refl)

alike_unless : (t : Text) (v w : Bool) (x y x' y' : Piece × Text) → w ≡ false → Never x → Alike t y y' → Alike t (if v then x else y) (if w then x' else y')
alike_unless t true w x y x' y' e f g = alike_never t x _ f
alike_unless t false w x y x' y' e f g = rw e g

module _ (b : ℕ) (r : Text) where
  word_alike : (z : Text) → ends_words b ≡ true → Alike (t b r) (word z) (word (z ++ t b r))
  unfolding Alike
  word_alike z h k e =
      let is = same_parts _ k e in
      let all : before z (after_name z) ≡ z = rw is.1 (take_all_of z) in
      let piece : word_piece z ≡ Token k = rw all at (is.0) in
      rw (name_ends b r h z is.1, take_front z, piece) refl
    where
      take_all_of : (z : Text) → before z [] ≡ z
      take_all_of z = let n : length z - 0 ≡ length z = omega arith in rw n (ap (λ x. take (length z) x) (sym (append_none z)) ∙ take_at z [] (length z) refl)
        where
          append_none : (x : Text) → x ++ [] ≡ x
          append_none [] = refl
          append_none (a ∷ x) = ap (λ y. a ∷ y) (append_none x)

      take_front : (z : Text) → before (z ++ t b r) (t b r) ≡ z
      take_front z = let n : length (z ++ t b r) - length (t b r) ≡ length z = omega (arith, length-append z (t b r)) in rw n (take_at z (t b r) (length z) refl)

  number_alike : (a : ℕ) (z : Text) → ends_numbers b ≡ true → Alike (t b r) (number (a ∷ z)) (number (a ∷ z ++ t b r))
  unfolding Alike
  number_alike a z h k e = rw (number_ends b r h a z) (by (after_number (a ∷ z)) e)
    where
      by : (o : Option Text) → number_by o (a ∷ z) ≡ token_and k [] → number_by (more b r o) (a ∷ z ++ t b r) ≡ token_and k (t b r)
      by None f = let first = (same_parts _ k f).0 in cc
      by (Some []) f = rw (not_continued b r (ends_word_too b h)) (ap (λ (y : Piece × Text). (y.0, t b r)) f)
      by (Some (c ∷ x)) f = absurd (elim (continues_name (c ∷ x)) as (λ v. (if v then bad (after_name (c ∷ x)) else number_and (c ∷ x)) ≡ token_and k [] → ⊥) [
        | true ↦ λ g. let first = (same_parts _ k g).0 in cc
        | false ↦ λ g. let rest = (same_parts _ k g).1 in cc
      ] f)

  starts_ends : (a : ℕ) (z : Text) → nat_lt a ascii_count ≡ true → starts_name (a ∷ z) ≡ false → starts_name (a ∷ z ++ t b r) ≡ false
  starts_ends a z e s = rw e (rw e at s)

  -- what the first two bytes say
  number_begins : (a : ℕ) (z : Text) → begins_number (a ∷ z) ≡ true → begins_number (a ∷ z ++ t b r) ≡ true
  number_begins a (c ∷ z) e = e
  number_begins a [] e = by (a == point) e
    where
      by : (v : Bool) → (if v then false else is_in class.Digit a) ≡ true → (if v then is_in class.Digit b else is_in class.Digit a) ≡ true
      by true e = cc
      by false e = e

  number_seen : (a : ℕ) (z : Text) → begins_number (a ∷ z ++ t b r) ≡ begins_number (a ∷ z ++ b ∷ [])
  number_seen a [] = refl
  number_seen a (c ∷ z) = refl

  line_seen : (a : ℕ) (z : Text) → begins_line_comment (a ∷ z ++ t b r) ≡ begins_line_comment (a ∷ z ++ b ∷ [])
  line_seen a [] = refl
  line_seen a (c ∷ z) = refl

  comment_seen : (a : ℕ) (z : Text) → opens_comment (a ∷ z ++ t b r) ≡ opens_comment (a ∷ z ++ b ∷ [])
  comment_seen a [] = refl
  comment_seen a (c ∷ z) = refl

  -- a text that begins with ASCII begins with no other blank
  not_wide : (a : ℕ) (z : Text) → nat_lt a ascii_count ≡ true → begins_with_wide_blank (a ∷ z) ≡ false
  not_wide a z e =
      let two : (a == 0xC2) ≡ false = grind (arith, nat_tests, e) in
      let three : (a == 0xE2) ≡ false = grind (arith, nat_tests, e) in
      by z two three
    where
      by : (z : Text) → (a == 0xC2) ≡ false → (a == 0xE2) ≡ false → begins_with_wide_blank (a ∷ z) ≡ false
      by [] f g = refl
      by (c ∷ []) f g = rw f refl
      by (c ∷ d ∷ z) f g = rw (f, g) refl

  sign_alike : (a : ℕ) (z : Text) → nat_lt a ascii_count ≡ true → begins_no_more (a ∷ z ++ b ∷ []) ≡ true → Alike (t b r) (rest_of a (a ∷ z)) (rest_of a (a ∷ z ++ t b r))
  unfolding sign Alike
  sign_alike a z e h =
      let free = or_parts (begins_sign (a ∷ z ++ b ∷ [])) _ (not-true _ h) in
      let tests = or_parts (begins_number (a ∷ z ++ b ∷ [])) _ free.1 in
      let comments = or_parts (begins_line_comment (a ∷ z ++ b ∷ [])) (opens_comment (a ∷ z ++ b ∷ [])) tests.1 in
      alike_unless (t b r) (begins_line_comment (a ∷ z)) (begins_line_comment (a ∷ z ++ t b r)) _ _ _ _ (line_seen a z ∙ comments.0) (never_blank _)
      (alike_unless (t b r) (opens_comment (a ∷ z)) (opens_comment (a ∷ z ++ t b r)) _ _ _ _ (comment_seen a z ∙ comments.1) (never_comment _ _)
      (alike_unless (t b r) (begins_with_wide_blank (a ∷ z)) (begins_with_wide_blank (a ∷ z ++ t b r)) _ _ _ _ (not_wide a (z ++ t b r) e) (never_blank _)
      (λ k f. find_ends signs a b r (a ∷ z) k free.0 f)))

  begin_alike : (a : ℕ) (z : Text) → ends_before (a ∷ z) b ≡ true → Alike (t b r) (begin a (a ∷ z)) (begin a (a ∷ z ++ t b r))
  begin_alike a z h =
      alike_if (t b r) (is_in class.Blank a) (is_in class.Blank a) _ _ _ _ refl (λ _. alike_never (t b r) _ _ (never_blank _)) (λ _. by_name (starts_name (a ∷ z)) refl)
    where
      by_number : nat_lt a ascii_count ≡ true → starts_name (a ∷ z) ≡ false → (v : Bool) → begins_number (a ∷ z) ≡ v
          → Alike (t b r) (if v then number (a ∷ z) else rest_of a (a ∷ z)) (if begins_number (a ∷ z ++ t b r) then number (a ∷ z ++ t b r) else rest_of a (a ∷ z ++ t b r))
      by_number e s true n = let ends : ends_numbers b ≡ true = rw (s, n) at h in rw (number_begins a z n) (number_alike a z ends)
      by_number e s false n =
          let more : begins_no_more (a ∷ z ++ b ∷ []) ≡ true = rw (s, n) at h in
          let free = or_parts (begins_sign (a ∷ z ++ b ∷ [])) _ (not-true _ more) in
          let tests = or_parts (begins_number (a ∷ z ++ b ∷ [])) _ free.1 in
          rw (number_seen a z ∙ tests.0) (sign_alike a z e more)

      by_ascii : starts_name (a ∷ z) ≡ false → (v : Bool) → nat_lt a ascii_count ≡ v
          → Alike (t b r) (if begins_number (a ∷ z) then number (a ∷ z) else rest_of a (a ∷ z)) (if starts_name (a ∷ z ++ t b r) then word (a ∷ z ++ t b r) else (if begins_number (a ∷ z ++ t b r) then number (a ∷ z ++ t b r) else rest_of a (a ∷ z ++ t b r)))
      by_ascii s true e = rw (starts_ends a z e s) (by_number e s (begins_number (a ∷ z)) refl)
      by_ascii s false e = alike_never (t b r) _ _ (never_wide a e z)

      by_name : (v : Bool) → starts_name (a ∷ z) ≡ v
          → Alike (t b r) (if v then word (a ∷ z) else (if begins_number (a ∷ z) then number (a ∷ z) else rest_of a (a ∷ z))) (if starts_name (a ∷ z ++ t b r) then word (a ∷ z ++ t b r) else (if begins_number (a ∷ z ++ t b r) then number (a ∷ z ++ t b r) else rest_of a (a ∷ z ++ t b r)))
      by_name true s = rw (starts_more a z (t b r) s) (word_alike (a ∷ z) (rw s at h))
      by_name false s = by_ascii s (nat_lt a ascii_count) refl

  -- a token before a byte that it ends before
  pub cut_before : (z : Text) (k : Kind) → ends_before z b ≡ true → cut z ≡ token_and k [] → cut (z ++ t b r) ≡ token_and k (t b r)
  unfolding cut Alike
  cut_before [] k h e = let first = (same_parts _ k e).0 in cc
  cut_before (a ∷ z) k h e = begin_alike a z h k e
