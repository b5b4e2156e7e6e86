-- Runs of bytes of ASCII.
use Rattle.std.proofs.Common.{◌≡◌, ◌≢◌, ℕ, zero, suc, ◌+◌, ◌<◌, Bool, true, false, cond, List, [], ◌∷◌, ◌++◌, take, drop, get_or, refl, sym, ap, subst, ◌∙◌, arith, inl, inr, eqb, append_assoc, append-nil}
use Rattle.std.specs.Char.{encode_utf8}
use Rattle.std.specs.List.{prefix_len, list_any}
use borrow.Author.Tests.{ne_eqb}
use Rattle.std.specs.Str.{IsUtf8, IsAscii, IsCharBoundary, chars}
use Rattle.std.proofs.lemmas.Bool.Decides.{nat_tests}
use Rattle.std.proofs.lemmas.Str.{chars-nil, chars_past_char, encode_ascii, inside_one, IsCharBoundary-start, IsCharBoundary-after_ascii, chars-append, chars-IsAscii, IsUtf8-from_ascii}
use Rattle.std.proofs.lemmas.List.{take-append-drop, get_or-take, get_or_past, append_cancel_right}
use Rattle.std.proofs.lemmas.List.Elements.{All-from_get_or}
use Rattle.std.proofs.lemmas.List.Folds.{length-prefix_len, list_any_none, list_any-append}
use Rattle.std.proofs.lemmas.Bool.{cases_lt}
use Rattle.std.proofs.lemmas.List.Sums.{prefix_len_passes, prefix_len-le-length}
use Rattle.unicode_ident.proofs.Computing.{unicode_ident}
use Rattle.naga_oil_lines.specs.Text.{BeginsWithChar}
use Rattle.naga_oil_lines.specs.Tokens.{starts_identifier}
use Rattle.unicode_ident.proofs.IdentLemmas.{is_xid_continue-ascii}
use Rattle.naga_oil_lines.specs.Words.{is_word_byte, is_gap_byte, ends_identifier}
use Rattle.naga_oil_lines.proofs.TokenLemmas.{after, after-nil, after_continue, after_stop}

-- a run of bytes that are ASCII
module _ (p : ℕ → Bool) (ascii : (b : ℕ) → p b ≡ true → b < 128) (bs : List ℕ) where
  byte_before : (n : ℕ) → suc n ≡ prefix_len p bs → get_or bs n 0 < 128
  byte_before n e = ascii (get_or bs n 0) (prefix_len_passes p bs n 0 (omega (arith, e)))

  pub run_ends : IsUtf8 bs → IsCharBoundary bs (prefix_len p bs)
  run_ends u = by (prefix_len p bs) refl
    where
      by : (n : ℕ) → n ≡ prefix_len p bs → IsCharBoundary bs n
      by zero e = IsCharBoundary-start bs u
      by (suc n) e =
          let one : n + 1 ≡ suc n = omega arith in
          subst (IsCharBoundary bs) one (IsCharBoundary-after_ascii bs n u (omega (arith, e, prefix_len-le-length p bs)) (byte_before n e))

  run_IsAscii : IsAscii (take (prefix_len p bs) bs)
  run_IsAscii i =
      elim (cases_lt i (prefix_len p bs)) [
        | inl h ↦ rw (get_or-take (prefix_len p bs) bs i 0 h) (ascii _ (prefix_len_passes p bs i 0 h))
        | inr h ↦ rw (get_or_past (take (prefix_len p bs) bs) i 0 (omega (arith, h, length-prefix_len p bs))) (omega arith)
      ]

  pub chars_run : chars bs ≡ take (prefix_len p bs) bs ++ chars (drop (prefix_len p bs) bs)
  chars_run =
      ap chars (sym (take-append-drop (prefix_len p bs) bs)) ∙ chars-append (take (prefix_len p bs) bs) (drop (prefix_len p bs) bs) (IsUtf8-from_ascii (take (prefix_len p bs) bs) run_IsAscii)
      ∙ ap (λ l. l ++ chars (drop (prefix_len p bs) bs)) (chars-IsAscii (take (prefix_len p bs) bs) run_IsAscii)

pub word_ascii : (b : ℕ) → is_word_byte b ≡ true → b < 128
word_ascii b e = grind (arith, nat_tests, e)

pub gap_ascii : (b : ℕ) → is_gap_byte b ≡ true → b < 128
gap_ascii b e = grind (arith, nat_tests, e)

not_quote : (b : ℕ) → is_word_byte b ≡ true → b ≢ 34
not_quote b e q = let w : false ≡ true = subst (λ k. is_word_byte k ≡ true) q e in cc

-- a word continues an identifier
after_run : (bs : List ℕ) (cs : List ℕ) → after false (take (prefix_len is_word_byte bs) bs ++ cs) ≡ after false cs
after_run [] cs = refl
after_run (b ∷ bs) cs =
    let n = prefix_len is_word_byte bs in
    let one : 1 + n ≡ suc n = omega arith in
    elim (is_word_byte b) as (λ w. is_word_byte b ≡ w → after false (take (cond w (1 + n) 0) (b ∷ bs) ++ cs) ≡ after false cs) [
      | true ↦ λ e. rw one (after_continue b (take n bs ++ cs) (not_quote b e) (is_xid_continue-ascii b (word_ascii b e) ∙ e) ∙ after_run bs cs)
      | false ↦ λ e. refl
    ] refl

pub after_word : (bs : List ℕ) → after false (chars (drop (prefix_len is_word_byte bs) bs)) ≡ after false (chars bs)
after_word bs = sym (ap (after false) (chars_run is_word_byte word_ascii bs) ∙ after_run bs (chars (drop (prefix_len is_word_byte bs) bs)))

-- an identifier ends before such a byte
pub ends_after : (bs : List ℕ) → IsUtf8 bs → ends_identifier bs ≡ true → after false (chars bs) ≡ chars bs
ends_after [] u e = rw chars-nil (after-nil false)
ends_after (b ∷ bs) u e =
    let ascii : b < 128 = grind (arith, nat_tests, e) in
    let stop : is_word_byte b ≡ false = grind (arith, nat_tests, e) in
    let quote : b ≢ 34 = grind (arith, nat_tests, e) in
    let colon : b ≢ 58 = grind (arith, nat_tests, e) in
    rw (chars_past_char (b ∷ bs) bs b u (ap (λ l. l ++ bs) (sym (encode_ascii b ascii)))) (after_stop b (chars bs) quote (is_xid_continue-ascii b ascii ∙ stop) colon)

no_start_colon : starts_identifier 58 ≡ true → ⊥
unfolding unicode_ident
no_start_colon e = cc

-- a word has no `:`
pub word_lacks_colon : (bs : List ℕ) → list_any (λ b. eqb b 58) (take (prefix_len is_word_byte bs) bs) ≡ false
word_lacks_colon [] = refl
word_lacks_colon (b ∷ bs) =
    let n = prefix_len is_word_byte bs in
    let one : 1 + n ≡ suc n = omega arith in
    elim (is_word_byte b) as (λ w. is_word_byte b ≡ w → list_any (λ b. eqb b 58) (take (cond w (1 + n) 0) (b ∷ bs)) ≡ false) [
      | true ↦ λ e. let other : b ≢ 58 = (λ q. let w : false ≡ true = subst (λ k. is_word_byte k ≡ true) q e in cc) in rw (one, ne_eqb b 58 other) (word_lacks_colon bs)
      | false ↦ λ e. refl
    ] refl

-- a character that begins an identifier is no `:`
start_lacks_colon : (c : ℕ) → starts_identifier c ≡ true → list_any (λ b. eqb b 58) (encode_utf8 c) ≡ false
start_lacks_colon c starts =
    list_any_none (λ b. eqb b 58) (encode_utf8 c) (All-from_get_or (λ b. eqb b 58 ≡ false) (encode_utf8 c) 0 (λ i l.
    ne_eqb (get_or (encode_utf8 c) i 0) 58 (λ e.
    let is : c ≡ get_or (encode_utf8 c) i 0 = inside_one c [] (encode_utf8 c) i (sym (append-nil (encode_utf8 c))) l (omega (arith, e)) in
    let colon : starts_identifier 58 ≡ true = subst (λ k. starts_identifier k ≡ true) (is ∙ e) starts in
    no_start_colon colon)))

pub identifier_lacks_colon : (bs : List ℕ) (c : ℕ) (more front name following : List ℕ) → BeginsWithChar bs c more → more ≡ front ++ following → bs ≡ name ++ following → starts_identifier c ≡ true
    → list_any (λ b. eqb b 58) front ≡ false → list_any (λ b. eqb b 58) name ≡ false
identifier_lacks_colon bs c more front name following first cut whole starts none =
    let is : name ≡ encode_utf8 c ++ front =
    append_cancel_right name (encode_utf8 c ++ front) following (sym whole ∙ first.bytes ∙ ap (λ l. encode_utf8 c ++ l) cut ∙ sym (append_assoc (encode_utf8 c) front following)) in
    rw (is, list_any-append, start_lacks_colon c starts) none
