-- A text has exactly one list of tokens.
use Rattle.std.proofs.Common.{◌≡◌, ◌≢◌, ◌⊎◌, ℕ, ◌+◌, true, false, ◌||◌, List, [], ◌∷◌, ◌++◌, length, take, drop, refl, sym, ap, subst, ◌∙◌, inl, inr, arith, append-nil, take-append-drop}
use borrow.Author.Tests.{ne_eqb, eq-eqb}
use Rattle.std.specs.Char.{is_whitespace, len_utf8}
use Rattle.std.specs.Str.{encode_utf8_all}
use Rattle.std.proofs.lemmas.List.Elements.{All-head}
use Rattle.std.proofs.lemmas.Str.{length-encode}
use Rattle.unicode_ident.specs.Ident.{is_xid_start}
use Rattle.unicode_ident.proofs.IdentLemmas.{is_xid_start-is_xid_continue}
use Rattle.naga_oil_lines.specs.Tokens.{Lexeme, identifier, other, whitespace, starts_identifier, more_in_token, lexeme_at, lexemes}
use Rattle.naga_oil_lines.specs.TokenGrammar.{IsIdentifier, IsWhitespaceRun, IsLongest, AreTokens, end, an_identifier, white_space, a_character}
use Rattle.naga_oil_lines.proofs.TokenLemmas.{lexemes_step, lexemes-nil, more_in_identifier, more_in_whitespace, more_in_other, lexeme_identifier, lexeme_whitespace, lexeme_other}
use Rattle.naga_oil_lines.proofs.GrammarLemmas.{longest_identifier, longest_whitespace}
use Rattle.naga_oil_lines.proofs.XidLemmas.{whitespace_continues_none}

-- ---- a text has one longest piece at its front
-- the first cut of a list is at or before the second
abbrev IsBefore : List ℕ → List ℕ → List ℕ → List ℕ → Type 0
IsBefore front rest f r = (more : List ℕ) × (f ≡ front ++ more) × (rest ≡ more ++ r)

two_cuts : (front rest f r : List ℕ) → front ++ rest ≡ f ++ r → IsBefore front rest f r ⊎ IsBefore f r front rest
two_cuts [] rest f r e = inl (f, refl, e)
two_cuts (c ∷ front) rest [] r e = inr (c ∷ front, refl, sym e)
two_cuts (c ∷ front) rest (d ∷ f) r e =
    let first : c ≡ d = cc in
    let more : front ++ rest ≡ f ++ r = cc in
    elim (two_cuts front rest f r more) [
      | inl b ↦ inl (b.0, (λ i. sym first i ∷ b.1 i), b.2)
      | inr b ↦ inr (b.0, (λ i. first i ∷ b.1 i), b.2)
    ]

before_longest : (P : List ℕ → List ℕ → Type 0) (front rest f r : List ℕ) → IsLongest P front rest → P f r → IsBefore front rest f r → (f ≡ front) × (r ≡ rest)
before_longest P front rest f r long piece ([], is, after) = (is ∙ append-nil front, sym after)
before_longest P front rest f r long piece (c ∷ more, is, after) =
    absurd (long.longest (c ∷ more) r after (omega arith) (subst (λ l. P l r) is piece))

one_longest : (P : List ℕ → List ℕ → Type 0) (front rest f r : List ℕ) → IsLongest P front rest → IsLongest P f r → front ++ rest ≡ f ++ r → (f ≡ front) × (r ≡ rest)
one_longest P front rest f r long l e =
    elim (two_cuts front rest f r e) [
      | inl b ↦ before_longest P front rest f r long l.piece b
      | inr b ↦ let q = before_longest P f r front rest l long.piece b in (sym q.0, sym q.1)
    ]

-- ---- the first token
-- the tokens where the first one has the text front
told : (at c k : ℕ) (front rest cs : List ℕ) (l : Lexeme) (more : List Lexeme) → more_in_token c cs ≡ k → (c ∷ take k cs ≡ front) × (drop k cs ≡ rest)
    → lexeme_at at c (encode_utf8_all front) ≡ l → more ≡ lexemes 0 (at + length (encode_utf8_all front)) rest → l ∷ more ≡ lexemes 0 at (c ∷ cs)
told at c k front rest cs l more count cut is e =
    let text = encode_utf8_all (c ∷ take (more_in_token c cs) cs) in
    let text_is : text ≡ encode_utf8_all front = ap (λ n. encode_utf8_all (c ∷ take n cs)) count ∙ ap encode_utf8_all cut.0 in
    let rest_is : drop (more_in_token c cs) cs ≡ rest = ap (λ n. drop n cs) count ∙ cut.1 in
    sym (lexemes_step at c cs ∙ (λ i. lexeme_at at c (text_is i) ∷ lexemes 0 (at + length (text_is i)) (rest_is i)) ∙ (λ i. is i ∷ sym e i))

identifier_starts : (c : ℕ) (front rest : List ℕ) → IsIdentifier (c ∷ front) rest → starts_identifier c ≡ true
identifier_starts c front rest (inl p) = rw p.0
identifier_starts c front rest (inr p) = rw (eq-eqb c 34 p.0) (elim (is_xid_start c) as (λ b. (b || true) ≡ true) [ true ↦ refl | false ↦ refl ])

identifier_told : (at : ℕ) (front rest : List ℕ) (more : List Lexeme) → IsLongest IsIdentifier front rest
    → more ≡ lexemes 0 (at + length (encode_utf8_all front)) rest → identifier (encode_utf8_all front) at ∷ more ≡ lexemes 0 at (front ++ rest)
identifier_told at [] rest more long e = absurd long.piece
identifier_told at (c ∷ front) rest more long e =
    let starts = identifier_starts c front rest long.piece in
    let cut = one_longest IsIdentifier (c ∷ front) rest _ _ long (longest_identifier c (front ++ rest) starts) (ap (λ l. c ∷ l) (sym (take-append-drop _ (front ++ rest)))) in
    told at c _ (c ∷ front) rest (front ++ rest) (identifier (encode_utf8_all (c ∷ front)) at) more (more_in_identifier c (front ++ rest) starts) cut (lexeme_identifier at c _ starts) e

pub no_start : (c : ℕ) → is_whitespace c ≡ true → starts_identifier c ≡ false
no_start c white =
    let quote : c ≢ 34 = λ e. let w : false ≡ true = subst (λ k. is_whitespace k ≡ true) e white in cc in
    let start : is_xid_start c ≡ false =
    elim (is_xid_start c) as (λ b. is_xid_start c ≡ b → b ≡ false) [
      | true ↦ λ e. let goes_on = is_xid_start-is_xid_continue c e in let stops = whitespace_continues_none c white in cc
      | false ↦ λ e. refl
    ] refl in
    rw (start, ne_eqb c 34 quote)

whitespace_told : (at : ℕ) (front rest : List ℕ) (more : List Lexeme) → IsLongest IsWhitespaceRun front rest
    → more ≡ lexemes 0 (at + length (encode_utf8_all front)) rest → whitespace (encode_utf8_all front) at ∷ more ≡ lexemes 0 at (front ++ rest)
whitespace_told at [] rest more long e = absurd (omega (arith, long.piece.0))
whitespace_told at (c ∷ front) rest more long e =
    let white : is_whitespace c ≡ true = All-head (λ c. is_whitespace c ≡ true) c front long.piece.1 in
    let cut = one_longest IsWhitespaceRun (c ∷ front) rest _ _ long (longest_whitespace c (front ++ rest) white) (ap (λ l. c ∷ l) (sym (take-append-drop _ (front ++ rest)))) in
    told at c _ (c ∷ front) rest (front ++ rest) (whitespace (encode_utf8_all (c ∷ front)) at) more (more_in_whitespace c (front ++ rest) (no_start c white) white) cut
    (lexeme_whitespace at c _ (no_start c white) white) e

other_told : (at c : ℕ) (rest : List ℕ) (more : List Lexeme) → is_xid_start c ≡ false → c ≢ 34 → is_whitespace c ≡ false
    → more ≡ lexemes 0 (at + len_utf8 c) rest → other c at ∷ more ≡ lexemes 0 at (c ∷ rest)
other_told at c rest more start quote white e =
    let starts : starts_identifier c ≡ false = rw (start, ne_eqb c 34 quote) in
    let place : len_utf8 c ≡ length (encode_utf8_all (c ∷ [])) = sym (rw append-nil (length-encode c)) in
    told at c 0 (c ∷ []) rest rest (other c at) more (more_in_other c rest starts white) (refl, refl) (lexeme_other at c _ starts white)
    (e ∙ ap (λ n. lexemes 0 (at + n) rest) place)

pub only_tokens : (at : ℕ) (cs : List ℕ) (ts : List Lexeme) → AreTokens at cs ts → ts ≡ lexemes 0 at cs
only_tokens a cs ts (end at) = sym (lexemes-nil at)
only_tokens a cs ts (an_identifier at front rest more long h) = identifier_told at front rest more long (only_tokens _ rest more h)
only_tokens a cs ts (white_space at front rest more long h) = whitespace_told at front rest more long (only_tokens _ rest more h)
only_tokens a cs ts (a_character at c rest more start quote white h) = other_told at c rest more start quote white (only_tokens _ rest more h)
