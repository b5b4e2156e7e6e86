-- The characters of a text, from its front.
use Rattle.std.specs.Prelude.{option_copied}
use Rattle.std.proofs.Common.{◌≡◌, ℕ, suc, ◌+◌, ◌-◌, Bool, true, false, cond, eqb, eq-eqb, Option, Some, None, MatchOption, List, [], ◌∷◌, ◌++◌, length, take, drop, refl, sym, ap, subst, ◌∙◌, arith, length-append, ◌≤◌, get_or, replicate, append_assoc}
use borrow.Author.Tests.{eqb-true}
use denote.Ref.{Bor}
use Rattle.std.specs.Char.{is_whitespace, encode_utf8}
use Rattle.std.specs.List.{prefix_len}
use Rattle.std.specs.Option.{option_map}
use Rattle.std.specs.Str.Pattern.{FindsTextPrefix, StripsPrefix}
use Rattle.std.specs.Str.{IsUtf8, IsCharBoundary, chars, encode_utf8_all, skip_leading_whitespace, trim_start}
use Rattle.std.proofs.lemmas.Str.{IsUtf8-past_char, chars_from_encodes, chars_past_char, chars-append, encodes-chars, encodes-append, length-encode, len_utf8_bounds, IsCharBoundary-at_seam}
use Rattle.std.proofs.lemmas.List.{append_cancel_right, take-append-drop, get_or-replicate, length-replicate, replicate-append-replicate, take-replicate}
use Rattle.naga_oil_lines.specs.Text.{BeginsWithChar, past_word}

pub first_char : (bs rest : List ℕ) (c : ℕ) → IsUtf8 bs → bs ≡ encode_utf8 c ++ rest → BeginsWithChar bs c rest
first_char bs rest c u e = record {
  bytes = e;
  spelled = chars_past_char bs rest c u e;
  utf8 = IsUtf8-past_char bs rest c u e;
  shorter = omega (arith, ap length e, length-append (encode_utf8 c) rest, length-encode c, len_utf8_bounds c);
}

skip_is_drop : (cs : List ℕ) → skip_leading_whitespace cs ≡ drop (prefix_len is_whitespace cs) cs
skip_is_drop [] = refl
skip_is_drop (c ∷ cs) =
    elim (is_whitespace c) as (λ b. cond b (skip_leading_whitespace cs) (c ∷ cs) ≡ drop (cond b (1 + prefix_len is_whitespace cs) 0) (c ∷ cs)) [
      | true ↦ let one : 1 + prefix_len is_whitespace cs ≡ suc (prefix_len is_whitespace cs) = omega arith in rw one (skip_is_drop cs)
      | false ↦ refl
    ]

-- the text after the white space at its start
pub chars_trimmed : (bs r : List ℕ) → IsUtf8 r → r ≡ trim_start bs → chars r ≡ drop (prefix_len is_whitespace (chars bs)) (chars bs)
unfolding trim_start
chars_trimmed bs r u e = sym (chars_from_encodes (skip_leading_whitespace (chars bs)) r u (sym e)) ∙ skip_is_drop (chars bs)

pub cut_before_rest : (bs front rest : List ℕ) → bs ≡ front ++ rest → IsUtf8 rest → IsCharBoundary bs (length bs - length rest)
cut_before_rest bs front rest e u =
    let at : length front ≡ length bs - length rest = omega (arith, ap length e, length-append front rest) in
    subst (IsCharBoundary bs) at (IsCharBoundary-at_seam bs front rest e u)

-- ---- a word at the front
pub past_word-append : (w rest : List ℕ) → past_word w (w ++ rest) ≡ Some rest
unfolding past_word
past_word-append [] rest = refl
past_word-append (c ∷ w) rest = rw (eq-eqb c c refl) (past_word-append w rest)

pub past_word-some : (w cs rest : List ℕ) → past_word w cs ≡ Some rest → cs ≡ w ++ rest
unfolding past_word
past_word-some [] cs rest e = cc
past_word-some (c ∷ w) [] rest e = cc
past_word-some (c ∷ w) (d ∷ cs) rest e =
    elim (eqb d c) as (λ b. eqb d c ≡ b → cond b (past_word w cs) None ≡ Some rest → d ∷ cs ≡ c ∷ (w ++ rest)) [
      | true ↦ λ q r. (λ i. eqb-true d c q i ∷ past_word-some w cs rest r i)
      | false ↦ λ q r. cc
    ] refl e

pub none_unless : (o : Option (List ℕ)) → ((rest : List ℕ) → o ≡ Some rest → ⊥) → None ≡ o
none_unless None h = refl
none_unless (Some rest) h = absurd (h rest refl)

-- the characters by the result of `strip_prefix`
pub past_word_text : (word text : List ℕ) (r : Option (Bor (List ℕ))) → IsUtf8 word → IsUtf8 text → MatchOption r (FindsTextPrefix word text None) (λ x. StripsPrefix (FindsTextPrefix word) text x.now)
    → option_map (λ x. chars x.now) r ≡ past_word (chars word) (chars text)
past_word_text word text None u v h =
    none_unless (past_word (chars word) (chars text)) (λ rest e.
    h (encode_utf8_all rest) (sym (encodes-chars text v) ∙ ap encode_utf8_all (past_word-some (chars word) (chars text) rest e) ∙ encodes-append (chars word) rest ∙ ap (λ l. l ++ encode_utf8_all rest) (encodes-chars word u)))
past_word_text word text (Some x) u v h =
    let e : text ≡ word ++ x.now = h.1.1 ∙ ap (λ l. word ++ l) (sym h.2) in
    rw (e, chars-append word x.now u) (sym (past_word-append (chars word) (chars x.now)))

-- the bytes by the result of `strip_prefix`
pub past_word_bytes : (word text : List ℕ) (r : Option (Bor (List ℕ))) → MatchOption r (FindsTextPrefix word text None) (λ x. StripsPrefix (FindsTextPrefix word) text x.now)
    → option_copied r ≡ past_word word text
past_word_bytes word text None h = none_unless (past_word word text) (λ rest e. h rest (past_word-some word text rest e))
past_word_bytes word text (Some x) h =
    let e : text ≡ word ++ x.now = h.1.1 ∙ ap (λ l. word ++ l) (sym h.2) in
    rw e (sym (past_word-append word x.now))

-- ---- a run of characters of a class
abbrev pub after_run : (ℕ → Bool) → List ℕ → List ℕ
after_run p cs = drop (prefix_len p cs) cs

pub after_run_pass : (p : ℕ → Bool) (c : ℕ) (cs : List ℕ) → p c ≡ true → after_run p (c ∷ cs) ≡ after_run p cs
after_run_pass p c cs e =
    let one : 1 + prefix_len p cs ≡ suc (prefix_len p cs) = omega arith in
    rw (e, one)

pub after_run_stop : (p : ℕ → Bool) (c : ℕ) (cs : List ℕ) → p c ≡ false → after_run p (c ∷ cs) ≡ c ∷ cs
after_run_stop p c cs e = rw e

-- the characters of a text before a rest
pub chars_before : (bs front rest : List ℕ) (k : ℕ) → bs ≡ front ++ rest → IsUtf8 front → chars rest ≡ drop k (chars bs) → chars front ≡ take k (chars bs)
chars_before bs front rest k e u d =
    append_cancel_right (chars front) (take k (chars bs)) (chars rest)
    (sym (chars-append front rest u) ∙ sym (ap chars e) ∙ sym (take-append-drop k (chars bs)) ∙ ap (λ l. take k (chars bs) ++ l) (sym d))

-- ---- spaces
pub cut_spaces : (bs : List ℕ) (n k : ℕ) → bs ≡ replicate n 32 → k ≤ length bs → IsCharBoundary bs k
cut_spaces bs n k e le =
    (le, λ l high. let here : get_or bs k 0 ≡ 32 = ap (λ xs. get_or xs k 0) e ∙ get_or-replicate n k 32 0 (omega (arith, ap length e, length-replicate {A = ℕ} n 32)) in absurd (omega arith))

pub spaces_more : (before old new spaces : List ℕ) (count left n : ℕ) → spaces ≡ replicate n 32 → left ≤ count → n ≤ left → old ≡ before ++ replicate (count - left) 32 → new ≡ old ++ spaces
    → new ≡ before ++ replicate (count - (left - n)) 32
spaces_more before old new spaces count left n s le some e p =
    let more : count - left + n ≡ count - (left - n) = omega arith in
    let both : old ++ spaces ≡ (before ++ replicate (count - left) 32) ++ replicate n 32 = λ i. e i ++ s i in
    let joined : replicate {A = ℕ} (count - left) 32 ++ replicate n 32 ≡ replicate (count - (left - n)) 32 = replicate-append-replicate (count - left) n 32 ∙ ap (λ k. replicate k 32) more in
    p ∙ both ∙ append_assoc before (replicate (count - left) 32) (replicate n 32) ∙ ap (λ l. before ++ l) joined

pub spaces_last : (before old new spaces : List ℕ) (count left n : ℕ) → spaces ≡ replicate n 32 → left ≤ count → left ≤ n → old ≡ before ++ replicate (count - left) 32 → new ≡ old ++ take left spaces
    → new ≡ before ++ replicate count 32
spaces_last before old new spaces count left n s le few e p =
    let all : count - left + left ≡ count = omega arith in
    let last : take left spaces ≡ replicate left 32 = ap (take left) s ∙ take-replicate left n 32 few in
    let both : old ++ take left spaces ≡ (before ++ replicate (count - left) 32) ++ replicate left 32 = λ i. e i ++ last i in
    p ∙ both ∙ append_assoc before (replicate (count - left) 32) (replicate left 32)
    ∙ ap (λ l. before ++ l) (replicate-append-replicate (count - left) left 32 ∙ ap (λ k. replicate k 32) all)
