-- Tokens of a text.
use Rattle.std.proofs.Common.{◌≡◌, ◌≢◌, ℕ, zero, suc, ◌+◌, Bool, true, false, cond, not, eqb, ◌&&◌, List, [], ◌∷◌, ◌++◌, length, take, drop, refl, sym, ap, subst, ◌∙◌, arith, append_assoc, length-append, add-zero}
use borrow.Author.Tests.{ne_eqb}
use Rattle.std.specs.Char.{is_whitespace, len_utf8, encode_utf8}
use Rattle.std.specs.List.{prefix_len}
use Rattle.std.specs.Str.{IsUtf8, chars, encode_utf8_all}
use Rattle.std.proofs.lemmas.Str.{chars-nil, length-encode, encodes-chars, encodes-append}
use Rattle.std.proofs.lemmas.List.{append_cancel_right, take-append-drop, nil_from_length}
use Rattle.unicode_ident.specs.Ident.{is_xid_continue}
use Rattle.naga_oil_lines.specs.Text.{BeginsWithChar}
use Rattle.naga_oil_lines.specs.declared.tokenizer.Tokenizer.{Tokenizer}
use Rattle.naga_oil_lines.specs.Tokenizer.{tokens_left}
use Rattle.naga_oil_lines.specs.Tokens.{Lexeme, identifier, other, whitespace, starts_identifier, tail_len, more_in_token, lexeme_at, lexemes, is_whitespace_lexeme, emit}

-- ---- an identifier
abbrev pub after : Bool → List ℕ → List ℕ
after quoted cs = drop (tail_len quoted cs) cs

pub after-nil : (quoted : Bool) → after quoted [] ≡ []
unfolding tail_len
after-nil true = refl
after-nil false = refl

pub after_in_quote : (c : ℕ) (cs : List ℕ) → after true (c ∷ cs) ≡ after (not (eqb c 34)) cs
unfolding tail_len
after_in_quote c cs = refl

pub after_quote : (c : ℕ) (cs : List ℕ) → c ≡ 34 → after false (c ∷ cs) ≡ after true cs
unfolding tail_len
after_quote c [] e = rw e
after_quote c (d ∷ cs) e = rw e

pub after_continue : (c : ℕ) (cs : List ℕ) → c ≢ 34 → is_xid_continue c ≡ true → after false (c ∷ cs) ≡ after false cs
unfolding tail_len
after_continue c [] n e = rw (ne_eqb c 34 n, e)
after_continue c (d ∷ cs) n e = rw (ne_eqb c 34 n, e)

pub after_colons : (c d : ℕ) (cs : List ℕ) → is_xid_continue c ≡ false → c ≡ 58 → d ≡ 58 → after false (c ∷ d ∷ cs) ≡ after false cs
unfolding tail_len
after_colons c d cs n e f = let n58 : is_xid_continue 58 ≡ false = subst (λ k. is_xid_continue k ≡ false) e n in rw (e, f, n58)

pub after_stop : (c : ℕ) (cs : List ℕ) → c ≢ 34 → is_xid_continue c ≡ false → c ≢ 58 → after false (c ∷ cs) ≡ c ∷ cs
unfolding tail_len
after_stop c [] n e m = rw (ne_eqb c 34 n, e)
after_stop c (d ∷ cs) n e m = rw (ne_eqb c 34 n, e, ne_eqb c 58 m)

pub after_one_colon : (c d : ℕ) (cs : List ℕ) → c ≢ 34 → is_xid_continue c ≡ false → d ≢ 58 → after false (c ∷ d ∷ cs) ≡ c ∷ d ∷ cs
unfolding tail_len
after_one_colon c d cs n e m =
    rw (ne_eqb c 34 n, e, ne_eqb d 58 m) (elim (eqb c 58) as (λ b. drop (cond (b && false) (suc (suc (tail_len false cs))) 0) (c ∷ d ∷ cs) ≡ c ∷ d ∷ cs) [ true ↦ refl | false ↦ refl ])

pub after_last : (c : ℕ) → c ≢ 34 → is_xid_continue c ≡ false → after false (c ∷ []) ≡ c ∷ []
unfolding tail_len
after_last c n e = rw (ne_eqb c 34 n, e)

pub suffix_more : (bs front rest enc more : List ℕ) → bs ≡ front ++ rest → rest ≡ enc ++ more → (f : List ℕ) × (bs ≡ f ++ more)
suffix_more bs front rest enc more e h = (front ++ enc, e ∙ ap (λ l. front ++ l) h ∙ sym (append_assoc front enc more))

-- ---- the tokens
-- the rest of a token already read is skipped
lexemes_told : (told at : ℕ) (cs : List ℕ) → lexemes told at cs ≡ lexemes 0 (at + length (encode_utf8_all (take told cs))) (drop told cs)
unfolding lexemes
lexemes_told zero at [] = refl
lexemes_told (suc told) at [] = refl
lexemes_told zero at (c ∷ cs) = ap (λ n. lexemes 0 n (c ∷ cs)) (sym (add-zero at))
lexemes_told (suc told) at (c ∷ cs) =
    let more = encode_utf8_all (take told cs) in
    let place : at + len_utf8 c + length more ≡ at + length (encode_utf8 c ++ more) = omega (arith, length-append (encode_utf8 c) more, length-encode c) in
    lexemes_told told (at + len_utf8 c) cs ∙ ap (λ n. lexemes 0 n (drop told cs)) place

lexemes-cons : (at c : ℕ) (cs : List ℕ) → lexemes 0 at (c ∷ cs) ≡ lexeme_at at c (encode_utf8_all (c ∷ take (more_in_token c cs) cs)) ∷ lexemes (more_in_token c cs) (at + len_utf8 c) cs
unfolding lexemes
lexemes-cons at c cs = refl

-- the first token of characters, and the other tokens
pub lexemes_step : (at c : ℕ) (cs : List ℕ) → (let text = encode_utf8_all (c ∷ take (more_in_token c cs) cs) in
    lexemes 0 at (c ∷ cs) ≡ lexeme_at at c text ∷ lexemes 0 (at + length text) (drop (more_in_token c cs) cs))
lexemes_step at c cs =
    let n = more_in_token c cs in
    let more = encode_utf8_all (take n cs) in
    let place : at + len_utf8 c + length more ≡ at + length (encode_utf8 c ++ more) = omega (arith, length-append (encode_utf8 c) more, length-encode c) in
    lexemes-cons at c cs ∙ ap (λ l. lexeme_at at c (encode_utf8 c ++ more) ∷ l) (lexemes_told n (at + len_utf8 c) cs ∙ ap (λ k. lexemes 0 k (drop n cs)) place)

pub lexemes-nil : (at : ℕ) → lexemes 0 at [] ≡ []
unfolding lexemes
lexemes-nil at = refl

-- the first token of a text, and the rest
pub lexemes_first : (at c : ℕ) (bs more text left : List ℕ) → BeginsWithChar bs c more → bs ≡ text ++ left → IsUtf8 left
    → chars left ≡ drop (more_in_token c (chars more)) (chars more) → lexemes 0 at (chars bs) ≡ lexeme_at at c text ∷ lexemes 0 (at + length text) (chars left)
lexemes_first at c bs more text left first cut v rest =
    let n = more_in_token c (chars more) in
    let front = encode_utf8_all (take n (chars more)) in
    let more_is : more ≡ front ++ left =
    sym (encodes-chars more first.utf8) ∙ ap encode_utf8_all (sym (take-append-drop n (chars more)))
    ∙ encodes-append (take n (chars more)) (drop n (chars more)) ∙ ap (λ l. front ++ l) (ap encode_utf8_all (sym rest) ∙ encodes-chars left v) in
    let text_is : text ≡ encode_utf8 c ++ front =
    append_cancel_right text (encode_utf8 c ++ front) left (sym cut ∙ first.bytes ∙ ap (λ l. encode_utf8 c ++ l) more_is ∙ sym (append_assoc (encode_utf8 c) front left)) in
    let place : at + len_utf8 c + length front ≡ at + length text = omega (arith, ap length text_is, length-append (encode_utf8 c) front, length-encode c) in
    ap (lexemes 0 at) first.spelled ∙ lexemes-cons at c (chars more)
    ∙ (λ i. lexeme_at at c (sym text_is i) ∷ (lexemes_told n (at + len_utf8 c) (chars more) ∙ (λ j. lexemes 0 (place j) (sym rest j))) i)

pub suffix_after_char : (bs : List ℕ) (c : ℕ) (more front left : List ℕ) → BeginsWithChar bs c more → more ≡ front ++ left → (f : List ℕ) × (bs ≡ f ++ left)
suffix_after_char bs c more front left first e = (encode_utf8 c ++ front, first.bytes ∙ ap (λ l. encode_utf8 c ++ l) e ∙ sym (append_assoc (encode_utf8 c) front left))

pub more_in_identifier : (c : ℕ) (cs : List ℕ) → starts_identifier c ≡ true → more_in_token c cs ≡ tail_len (eqb c 34) cs
unfolding more_in_token
more_in_identifier c cs e = rw e

pub more_in_whitespace : (c : ℕ) (cs : List ℕ) → starts_identifier c ≡ false → is_whitespace c ≡ true → more_in_token c cs ≡ prefix_len is_whitespace cs
unfolding more_in_token
more_in_whitespace c cs e f = rw (e, f)

pub more_in_other : (c : ℕ) (cs : List ℕ) → starts_identifier c ≡ false → is_whitespace c ≡ false → more_in_token c cs ≡ 0
unfolding more_in_token
more_in_other c cs e f = rw (e, f)

-- ---- the tokens returned
shown_kept : (asked : Bool) (us : List Lexeme) (l : Lexeme) → is_whitespace_lexeme l ≡ false → emit asked (l ∷ us) ≡ l ∷ emit asked us
shown_kept true us l e = refl
shown_kept false us l e = rw e

pub lexeme_identifier : (at c : ℕ) (text : List ℕ) → starts_identifier c ≡ true → lexeme_at at c text ≡ identifier text at
lexeme_identifier at c text e = rw e

pub lexeme_whitespace : (at c : ℕ) (text : List ℕ) → starts_identifier c ≡ false → is_whitespace c ≡ true → lexeme_at at c text ≡ whitespace text at
lexeme_whitespace at c text e f = rw (e, f)

pub lexeme_other : (at c : ℕ) (text : List ℕ) → starts_identifier c ≡ false → is_whitespace c ≡ false → lexeme_at at c text ≡ other c at
lexeme_other at c text e f = rw (e, f)

-- ---- a call of `next`: from s to t it takes the text, which begins with the character c
module _ (s t : Tokenizer) (c : ℕ) (more text left : List ℕ) (first : BeginsWithChar s.rest.now c more) (cut : s.rest.now ≡ text ++ left) (utf8 : IsUtf8 left)
    (rest : t.rest.now ≡ left) (place : t.at ≡ s.at + length text) (same : t.emit_whitespace ≡ s.emit_whitespace) where
  first_lexeme : (l : Lexeme) → chars left ≡ drop (more_in_token c (chars more)) (chars more) → lexeme_at s.at c text ≡ l → tokens_left s ≡ emit s.emit_whitespace (l ∷ lexemes 0 t.at (chars t.rest.now))
  first_lexeme l e is =
      ap (emit s.emit_whitespace) (lexemes_first s.at c s.rest.now more text left first cut utf8 e)
      ∙ (λ i. emit s.emit_whitespace (is i ∷ lexemes 0 (sym place i) (chars (sym rest i))))

  abbrev others : List Lexeme
  others = lexemes 0 t.at (chars t.rest.now)

  pub gives_identifier : starts_identifier c ≡ true → chars left ≡ after (eqb c 34) (chars more) → tokens_left s ≡ identifier text s.at ∷ tokens_left t
  gives_identifier starts e =
      first_lexeme (identifier text s.at) (rw (more_in_identifier c (chars more) starts) e) (lexeme_identifier s.at c text starts)
      ∙ shown_kept s.emit_whitespace others (identifier text s.at) refl ∙ ap (λ b. identifier text s.at ∷ emit b others) (sym same)

  pub gives_other : starts_identifier c ≡ false → is_whitespace c ≡ false → left ≡ more → tokens_left s ≡ other c s.at ∷ tokens_left t
  gives_other starts white e =
      first_lexeme (other c s.at) (rw (more_in_other c (chars more) starts white) (ap chars e)) (lexeme_other s.at c text starts white)
      ∙ shown_kept s.emit_whitespace others (other c s.at) refl ∙ ap (λ b. other c s.at ∷ emit b others) (sym same)

  module _ (starts : starts_identifier c ≡ false) (white : is_whitespace c ≡ true) (e : chars left ≡ drop (prefix_len is_whitespace (chars more)) (chars more)) where
    all_whitespace : tokens_left s ≡ emit s.emit_whitespace (whitespace text s.at ∷ others)
    all_whitespace = first_lexeme (whitespace text s.at) (rw (more_in_whitespace c (chars more) starts white) e) (lexeme_whitespace s.at c text starts white)

    pub gives_whitespace : t.emit_whitespace ≡ true → tokens_left s ≡ whitespace text s.at ∷ tokens_left t
    gives_whitespace emits = all_whitespace ∙ rw (← same, emits)

    pub skips_whitespace : t.emit_whitespace ≡ false → tokens_left s ≡ tokens_left t
    skips_whitespace emits = all_whitespace ∙ rw (← same, emits)

pub none_left : (s : Tokenizer) → length s.rest.now ≡ 0 → tokens_left s ≡ []
none_left s e =
    let none : chars s.rest.now ≡ [] = ap chars (nil_from_length s.rest.now e) ∙ chars-nil in
    rw (none, lexemes-nil) (elim s.emit_whitespace as (λ b. emit b [] ≡ []) [ true ↦ refl | false ↦ refl ])
