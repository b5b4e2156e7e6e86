-- The text before an identifier that is substituted.
use Rattle.std.proofs.Common.{◌≡◌, ℕ, suc, ◌+◌, Bool, true, false, cond, eqb, ◌||◌, List, [], ◌∷◌, ◌++◌, length, take, drop, refl, sym, ap, ◌∙◌, arith, append_assoc, length-append, add-zero}
use borrow.Author.Tests.{ne_eqb}
use Rattle.std.specs.Char.{is_whitespace, encode_utf8}
use Rattle.std.specs.List.{prefix_len}
use Rattle.std.specs.Str.{IsUtf8, chars, encode_utf8_all}
use Rattle.naga_oil_imports.specs.Declarations.{Declared}
use Rattle.naga_oil_imports.specs.Sites.{Passes}
use Rattle.naga_oil_imports.specs.Substituted.{keeps_next, token_text, site_at, sites_from, substituted_from}
use Rattle.naga_oil_lines.specs.Text.{BeginsWithChar}
use Rattle.naga_oil_lines.specs.Tokens.{Lexeme, identifier, other, whitespace, starts_identifier, more_in_token, lexeme_at, lexemes}
use Rattle.naga_oil_lines.proofs.TokenLemmas.{after, lexemes_first, lexemes_step, more_in_identifier, more_in_whitespace, more_in_other, lexeme_identifier, lexeme_whitespace, lexeme_other}
use Rattle.naga_oil_lines.proofs.OneTokenList.{no_start}

-- ---- one piece after another
pub passes_none : (kept : Bool) (text : List ℕ) → IsUtf8 text → Passes kept text kept text
passes_none kept text u = record {
  front = [];
  whole = refl;
  utf8 = u;
  written = λ declared at i. substituted_from declared kept (lexemes 0 (sym (add-zero at) i) (chars text));
  sites = λ offset at i. sites_from offset kept (lexemes 0 (sym (add-zero at) i) (chars text));
}

pub passes_more : (kept mid next : Bool) (text middle rest : List ℕ) → Passes kept text mid middle → Passes mid middle next rest → Passes kept text next rest
passes_more kept mid next text middle rest p q =
    let place : (at : ℕ) → at + length p.front + length q.front ≡ at + length (p.front ++ q.front) = λ at. omega (arith, length-append p.front q.front) in
    record {
      front = p.front ++ q.front;
      whole = p.whole ∙ ap (λ l. p.front ++ l) q.whole ∙ sym (append_assoc p.front q.front rest);
      utf8 = q.utf8;
      written = λ declared at.
          p.written declared at ∙ ap (λ l. p.front ++ l) (q.written declared (at + length p.front))
          ∙ sym (append_assoc p.front q.front (substituted_from declared next (lexemes 0 (at + length p.front + length q.front) (chars rest))))
          ∙ ap (λ n. (p.front ++ q.front) ++ substituted_from declared next (lexemes 0 n (chars rest))) (place at);
      sites = λ offset at.
          p.sites offset at ∙ q.sites offset (at + length p.front) ∙ ap (λ n. sites_from offset next (lexemes 0 n (chars rest))) (place at);
    }

-- a token that is not substituted
token_passes : (kept next : Bool) (text front rest : List ℕ) (t : ℕ → Lexeme) → text ≡ front ++ rest → IsUtf8 rest
    → ((at : ℕ) → lexemes 0 at (chars text) ≡ t at ∷ lexemes 0 (at + length front) (chars rest)) → ((at : ℕ) → keeps_next (t at) ≡ next)
    → ((declared : Declared) (at : ℕ) → token_text declared kept (t at) ≡ front) → ((offset at : ℕ) → site_at offset kept (t at) ≡ []) → Passes kept text next rest
token_passes kept next text front rest t whole u cut keeps writes none = record {
  front = front;
  whole = whole;
  utf8 = u;
  written = λ declared at.
      ap (substituted_from declared kept) (cut at) ∙ (λ i. writes declared at i ++ substituted_from declared (keeps at i) (lexemes 0 (at + length front) (chars rest)));
  sites = λ offset at.
      ap (sites_from offset kept) (cut at) ∙ (λ i. none offset at i ++ sites_from offset (keeps at i) (lexemes 0 (at + length front) (chars rest)));
}

-- ---- an identifier
module _ (bs : List ℕ) (c : ℕ) (more name following : List ℕ) (first : BeginsWithChar bs c more) (starts : starts_identifier c ≡ true) (cut : bs ≡ name ++ following) (u : IsUtf8 following)
    (rest : chars following ≡ after (eqb c 34) (chars more)) where
  pub identifier_first : (at : ℕ) → lexemes 0 at (chars bs) ≡ identifier name at ∷ lexemes 0 (at + length name) (chars following)
  identifier_first at =
      lexemes_first at c bs more name following first cut u (rw (more_in_identifier c (chars more) starts) rest)
      ∙ ap (λ l. l ∷ lexemes 0 (at + length name) (chars following)) (lexeme_identifier at c name starts)

  pub kept_passes : Passes true bs false following
  kept_passes = token_passes true false bs name following (identifier name) cut u identifier_first (λ at. refl) (λ declared at. refl) (λ offset at. refl)

-- ---- any other character
-- white space is one token with the white space after it
abbrev white : List ℕ → List ℕ
white cs = encode_utf8_all (take (prefix_len is_whitespace cs) cs)

abbrev past_white : List ℕ → List ℕ
past_white cs = drop (prefix_len is_whitespace cs) cs

white_first : (at c : ℕ) (cs : List ℕ) → is_whitespace c ≡ true → (let text = encode_utf8_all (c ∷ take (prefix_len is_whitespace cs) cs) in
    lexemes 0 at (c ∷ cs) ≡ whitespace text at ∷ lexemes 0 (at + length text) (past_white cs))
white_first at c cs w =
    let starts : starts_identifier c ≡ false = no_start c w in
    let text : ℕ → List ℕ = λ n. encode_utf8_all (c ∷ take n cs) in
    let count : more_in_token c cs ≡ prefix_len is_whitespace cs = more_in_whitespace c cs starts w in
    lexemes_step at c cs ∙ (λ i. lexeme_at at c (text (count i)) ∷ lexemes 0 (at + length (text (count i))) (drop (count i) cs))
    ∙ ap (λ l. l ∷ lexemes 0 (at + length (text (prefix_len is_whitespace cs))) (past_white cs)) (lexeme_whitespace at c (text (prefix_len is_whitespace cs)) starts w)

white_written : (declared : Declared) (at : ℕ) (cs : List ℕ) → substituted_from declared false (lexemes 0 at cs) ≡ white cs ++ substituted_from declared false (lexemes 0 (at + length (white cs)) (past_white cs))
white_written declared at [] = λ i. substituted_from declared false (lexemes 0 (sym (add-zero at) i) [])
white_written declared at (c ∷ cs) =
    let one : 1 + prefix_len is_whitespace cs ≡ suc (prefix_len is_whitespace cs) = omega arith in
    elim (is_whitespace c) as (λ b. is_whitespace c ≡ b → (let n = cond b (1 + prefix_len is_whitespace cs) 0 in
    substituted_from declared false (lexemes 0 at (c ∷ cs))
    ≡ encode_utf8_all (take n (c ∷ cs)) ++ substituted_from declared false (lexemes 0 (at + length (encode_utf8_all (take n (c ∷ cs)))) (drop n (c ∷ cs))))) [
      | true ↦ λ w. rw one (ap (substituted_from declared false) (white_first at c cs w))
      | false ↦ λ w i. substituted_from declared false (lexemes 0 (sym (add-zero at) i) (c ∷ cs))
    ] refl

white_sites : (offset at : ℕ) (cs : List ℕ) → sites_from offset false (lexemes 0 at cs) ≡ sites_from offset false (lexemes 0 (at + length (white cs)) (past_white cs))
white_sites offset at [] = λ i. sites_from offset false (lexemes 0 (sym (add-zero at) i) [])
white_sites offset at (c ∷ cs) =
    let one : 1 + prefix_len is_whitespace cs ≡ suc (prefix_len is_whitespace cs) = omega arith in
    elim (is_whitespace c) as (λ b. is_whitespace c ≡ b → (let n = cond b (1 + prefix_len is_whitespace cs) 0 in
    sites_from offset false (lexemes 0 at (c ∷ cs)) ≡ sites_from offset false (lexemes 0 (at + length (encode_utf8_all (take n (c ∷ cs)))) (drop n (c ∷ cs))))) [
      | true ↦ λ w. rw one (ap (sites_from offset false) (white_first at c cs w))
      | false ↦ λ w i. sites_from offset false (lexemes 0 (sym (add-zero at) i) (c ∷ cs))
    ] refl

-- white space keeps no identifier
white_keeps_none : (c k : ℕ) → is_whitespace k ≡ false → is_whitespace c ≡ true → eqb c k ≡ false
white_keeps_none c k n w = ne_eqb c k (λ e. let both : false ≡ true = sym n ∙ ap is_whitespace (sym e) ∙ w in cc)

module _ (kept : Bool) (bs : List ℕ) (c : ℕ) (more : List ℕ) (first : BeginsWithChar bs c more) (starts : starts_identifier c ≡ false) where
  cut_other : (at : ℕ) → is_whitespace c ≡ false → lexemes 0 at (chars bs) ≡ other c at ∷ lexemes 0 (at + length (encode_utf8 c)) (chars more)
  cut_other at w =
      lexemes_first at c bs more (encode_utf8 c) more first first.bytes first.utf8 (rw (more_in_other c (chars more) starts w) refl)
      ∙ ap (λ l. l ∷ lexemes 0 (at + length (encode_utf8 c)) (chars more)) (lexeme_other at c (encode_utf8 c) starts w)

  abbrev run : List ℕ
  run = encode_utf8 c ++ white (chars more)

  -- a run of white space, from its first character and from after it
  place : (at : ℕ) → at + length (encode_utf8 c) + length (white (chars more)) ≡ at + length run
  place at = omega (arith, length-append (encode_utf8 c) (white (chars more)))

  white_passes : is_whitespace c ≡ true → Passes kept bs false more
  white_passes w = record {
    front = encode_utf8 c;
    whole = first.bytes;
    utf8 = first.utf8;
    written = λ declared at.
        ap (λ cs. substituted_from declared kept (lexemes 0 at cs)) first.spelled ∙ ap (substituted_from declared kept) (white_first at c (chars more) w)
        ∙ append_assoc (encode_utf8 c) (white (chars more)) (substituted_from declared false (lexemes 0 (at + length run) (past_white (chars more))))
        ∙ ap (λ l. encode_utf8 c ++ l)
        (ap (λ n. white (chars more) ++ substituted_from declared false (lexemes 0 n (past_white (chars more)))) (sym (place at))
        ∙ sym (white_written declared (at + length (encode_utf8 c)) (chars more)));
    sites = λ offset at.
        ap (λ cs. sites_from offset kept (lexemes 0 at cs)) first.spelled ∙ ap (sites_from offset kept) (white_first at c (chars more) w)
        ∙ ap (λ n. sites_from offset false (lexemes 0 n (past_white (chars more)))) (sym (place at))
        ∙ sym (white_sites offset (at + length (encode_utf8 c)) (chars more));
  }

  pub other_passes : Passes kept bs (eqb c 46 || eqb c 64) more
  other_passes =
      elim (is_whitespace c) as (λ b. is_whitespace c ≡ b → Passes kept bs (eqb c 46 || eqb c 64) more) [
        | true ↦ λ w. rw (white_keeps_none c 46 refl w, white_keeps_none c 64 refl w) (white_passes w)
        | false ↦ λ w. token_passes kept (eqb c 46 || eqb c 64) bs (encode_utf8 c) more (other c) first.bytes first.utf8 (λ at. cut_other at w) (λ at. refl) (λ declared at. refl) (λ offset at. refl)
      ] refl
