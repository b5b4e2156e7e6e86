-- Parts of a line by their characters.
use Rattle.std.proofs.Common.{◌≡◌, ◌≢◌, ℕ, suc, ◌+◌, ◌-◌, ◌&&◌, ◌==◌, not, option_and_then, Bool, true, false, cond, Option, Some, None, List, [], ◌∷◌, ◌++◌, length, take, drop, refl, sym, ap, ◌∙◌, subst, append-nil, length-append, arith, eq-eqb}
use Rattle.std.proofs.Math.Seq.{take-append_seam, drop-append_seam}
use Rattle.std.specs.Prelude.{nat_lt}
use Rattle.std.proofs.lemmas.Bool.Decides.{nat_tests}
use borrow.Author.Tests.{ne_eqb}
use Rattle.std.specs.Option.{option_map}
use Rattle.std.specs.List.{prefix_len, list_all}
use Rattle.std.specs.Char.{encode_utf8}
use Rattle.std.specs.Str.{IsUtf8, IsCharBoundary, chars, encode_utf8_all}
use Rattle.std.proofs.lemmas.Str.{IsUtf8-drop, IsCharBoundary-from_take, chars_past_char, chars-nil, chars-append, encodes-chars}
use Rattle.std.proofs.lemmas.List.{nil_from_length}
use Rattle.std.proofs.lemmas.List.Folds.{length-prefix_len}
use Rattle.naga_oil_conditions.specs.LineKinds.{run, past_run, text_at, after_white, is_operator_char, is_value_char, is_name_char, is_name, operation_at, cut}

-- ---- a run
pub chars-none : (bs : List ℕ) → IsUtf8 bs → chars bs ≡ [] → length bs ≡ 0
chars-none bs u e = ap length (sym (encodes-chars bs u) ∙ ap encode_utf8_all e)

-- the text of the characters of a run
pub text_of : (bs cs : List ℕ) → IsUtf8 bs → chars bs ≡ cs → bs ≡ encode_utf8_all cs
text_of bs cs u e = sym (encodes-chars bs u) ∙ ap encode_utf8_all e

module _ (p : ℕ → Bool) (cs found : List ℕ) (utf8 : IsUtf8 found) (is : chars found ≡ run p cs) where
  pub text_at-none : length found ≡ 0 → None ≡ text_at p cs
  unfolding text_at
  text_at-none e =
      let none : prefix_len p cs ≡ 0 = sym (length-prefix_len p cs) ∙ ap length (sym is ∙ ap chars (nil_from_length found e) ∙ chars-nil) in
      rw (eq-eqb (prefix_len p cs) 0 none)

  pub text_at-some : length found ≢ 0 → Some found ≡ text_at p cs
  unfolding text_at
  text_at-some e =
      let some : prefix_len p cs ≢ 0 = λ z. e (chars-none found utf8 (is ∙ ap (λ k. take k cs) z)) in
      rw (ne_eqb (prefix_len p cs) 0 some) (ap Some (text_of found (run p cs) utf8 is))

-- ---- a comparison
map_is_then : {A B : Type 0} (f : A → B) (o : Option A) → option_map f o ≡ option_and_then (λ x. Some (f x)) o
map_is_then f None = refl
map_is_then f (Some x) = refl

pub compared_by : (cs start mid following operator : List ℕ) (value : Option (List ℕ)) → start ≡ after_white cs → mid ≡ past_run is_operator_char start → following ≡ after_white mid
    → operator ≡ encode_utf8_all (run is_operator_char start) → value ≡ text_at is_value_char following → option_map (λ v. (operator, v)) value ≡ operation_at cs
unfolding operation_at
compared_by cs start mid following operator value e1 e2 e3 e4 e5 = rw (e5, e4, e3, e2, e1) (map_is_then _ _)

-- ---- a whole name
is_nil : List ℕ → Bool
is_nil [] = true
is_nil (c ∷ cs) = false

all_is : (p : ℕ → Bool) (cs : List ℕ) → list_all p cs ≡ is_nil (past_run p cs)
unfolding is_nil
all_is p [] = refl
all_is p (c ∷ cs) =
    elim (p c) as (λ b. (b && list_all p cs) ≡ is_nil (drop (cond b (1 + prefix_len p cs) 0) (c ∷ cs))) [
      | true ↦ let one : 1 + prefix_len p cs ≡ suc (prefix_len p cs) = omega arith in rw one (all_is p cs)
      | false ↦ refl
    ]

no_chars : (bs : List ℕ) → IsUtf8 bs → (length bs == 0) ≡ is_nil (chars bs)
unfolding is_nil
no_chars bs u =
    elim bs as (λ l. bs ≡ l → (length l == 0) ≡ is_nil (chars l)) [
      | [] ↦ λ e. rw chars-nil refl
      | b ∷ more ↦ λ e.
          let some : length (b ∷ more) ≢ 0 = λ z. omega (arith, z) in
          rw (ne_eqb (length (b ∷ more)) 0 some) (some_chars (chars (b ∷ more)) (λ n. some (chars-none (b ∷ more) (subst IsUtf8 e u) n)))
    ] refl
  where
    some_chars : (cs : List ℕ) → (cs ≡ [] → ⊥) → false ≡ is_nil cs
    some_chars [] h = absurd (h refl)
    some_chars (c ∷ cs) h = refl

pub names_whole : (text rest : List ℕ) → IsUtf8 rest → chars rest ≡ past_run is_name_char (chars text) → not (length text == 0) ≡ true → (length rest == 0) ≡ is_name text
unfolding is_name
names_whole text rest u e some = rw some (no_chars rest u ∙ ap is_nil e ∙ sym (all_is is_name_char (chars text)))

pub names_none : (text : List ℕ) → not (length text == 0) ≡ false → false ≡ is_name text
unfolding is_name
names_none text none = rw none refl

-- ---- the last character
pub cut_empty : (name : List ℕ) → length name ≡ 0 → None ≡ cut (chars name)
unfolding cut
cut_empty name e = rw (nil_from_length name e, chars-nil) refl

pub cut_boundary : (name front last : List ℕ) → IsUtf8 name → IsUtf8 front → name ≡ front ++ last → IsCharBoundary name (length front)
cut_boundary name front last u v e =
    IsCharBoundary-from_take name (length front) u (omega (arith, ap length e, length-append front last)) (subst IsUtf8 (sym (ap (take (length front)) e ∙ take-append_seam front last)) v)

module _ (name front : List ℕ) (c : ℕ) (u : IsUtf8 name) (v : IsUtf8 front) (e : name ≡ front ++ encode_utf8 c) where
  front_is : take (length front) name ≡ front
  front_is = ap (take (length front)) e ∙ take-append_seam front (encode_utf8 c)

  last_is : drop (length front) name ≡ encode_utf8 c
  last_is = ap (drop (length front)) e ∙ drop-append_seam front (encode_utf8 c)

  last_utf8 : IsUtf8 (encode_utf8 c)
  last_utf8 = subst IsUtf8 last_is (IsUtf8-drop name (length front) u (cut_boundary name front (encode_utf8 c) u v e))

  last_char : chars (encode_utf8 c) ≡ c ∷ []
  last_char = chars_past_char (encode_utf8 c) [] c last_utf8 (sym (append-nil (encode_utf8 c))) ∙ ap (λ l. c ∷ l) chars-nil

  spelled : chars name ≡ chars front ++ (c ∷ [])
  spelled = ap chars e ∙ chars-append front (encode_utf8 c) v ∙ ap (λ l. chars front ++ l) last_char

  count : length (chars name) ≡ length (chars front) + 1
  count = ap length spelled ∙ length-append (chars front) (c ∷ [])

  pub cut_one : length front ≡ 0 → None ≡ cut (chars name)
  unfolding cut
  cut_one z =
      let one : length (chars name) ≡ 1 = count ∙ ap (λ l. length (chars l) + 1) (nil_from_length front z) ∙ ap (λ l. length l + 1) chars-nil in
      rw one refl

  pub cut_more : length front ≢ 0 → Some (take (length front) name, drop (length front) name) ≡ cut (chars name)
  unfolding cut
  cut_more z =
      let some : length (chars front) ≢ 0 = λ n. z (chars-none front v (nil_from_length (chars front) n)) in
      let more : nat_lt 1 (length (chars name)) ≡ true = grind (arith, nat_tests, some, count) in
      let at : length (chars name) - 1 ≡ length (chars front) = omega (arith, count) in
      let front_text : encode_utf8_all (take (length (chars front)) (chars name)) ≡ take (length front) name =
      ap (λ l. encode_utf8_all (take (length (chars front)) l)) spelled ∙ ap encode_utf8_all (take-append_seam (chars front) (c ∷ [])) ∙ encodes-chars front v ∙ sym front_is in
      let last_text : encode_utf8_all (drop (length (chars front)) (chars name)) ≡ drop (length front) name =
      ap (λ l. encode_utf8_all (drop (length (chars front)) l)) spelled ∙ ap encode_utf8_all (drop-append_seam (chars front) (c ∷ [])) ∙ append-nil (encode_utf8 c) ∙ sym last_is in
      rw (more, at, front_text, last_text) refl
