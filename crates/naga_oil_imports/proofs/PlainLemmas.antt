-- A text without `::` is unchanged where nothing is declared.
use Rattle.std.proofs.Common.{◌≡◌, ℕ, zero, suc, ◌+◌, Bool, true, false, List, [], ◌∷◌, ◌++◌, take, drop, None, refl, sym, ap, ◌∙◌, ◌||◌, ◌==◌, append_assoc, append-nil, subst, length, ◌≤◌}
use Rattle.std.specs.Char.{is_whitespace, len_utf8, encode_utf8}
use Rattle.std.specs.List.{flat_map, list_any}
use Rattle.std.specs.Str.{IsUtf8, chars, encode_utf8_all}
use Rattle.std.specs.Str.Pattern.{LacksTextAt}
use Rattle.std.proofs.lemmas.Grind.{flat_map-append}
use Rattle.std.proofs.lemmas.List.{take-append-drop, map-append}
use Rattle.std.proofs.lemmas.Str.{encodes-append, encodes-chars}
use Rattle.naga_oil_imports.specs.Substituted.{cut_at_first, mentions_of, mentions_in, mentions_at, path_text, Site, first_ambiguous, keeps_next, site_at, sites_from, usize_place, usize_site, usize_sites, token_text, substituted_from}
use Rattle.naga_oil_lines.specs.Tokens.{Lexeme, identifier, starts_identifier, more_in_token, lexeme_at, lexemes}
use Rattle.naga_oil_imports.proofs.SettledLemmas.{none_after, settled_one, one_path, mentions_one}
use Rattle.naga_oil_imports.proofs.SubstituteLemmas.{first_none}
use Rattle.naga_oil_lines.proofs.TokenLemmas.{more_in_other, lexeme_identifier, lexeme_whitespace, lexeme_other}
use Rattle.naga_oil_imports.proofs.WritingLemmas.{not_cut, own_without_cut}

-- ---- parts of a text without `::`
front_uncut : (xs ys : List ℕ) → cut_at_first (xs ++ ys) ≡ None → cut_at_first xs ≡ None
front_uncut [] ys e = refl
front_uncut (a ∷ []) ys e = refl
front_uncut (a ∷ b ∷ xs) ys e = let n = not_cut a b (xs ++ ys) e in rw (n.0, front_uncut (b ∷ xs) ys n.1) refl

tail_uncut : (a : ℕ) (more : List ℕ) → cut_at_first (a ∷ more) ≡ None → cut_at_first more ≡ None
tail_uncut a [] e = refl
tail_uncut a (b ∷ more) e = (not_cut a b more e).1

back_uncut : (xs ys : List ℕ) → cut_at_first (xs ++ ys) ≡ None → cut_at_first ys ≡ None
back_uncut [] ys e = e
back_uncut (a ∷ xs) ys e = back_uncut xs ys (tail_uncut a (xs ++ ys) e)

-- ---- tokens that are unchanged
pub record Plain (kept : Bool) (ts : List Lexeme) (text : List ℕ) : Type 0 where
  pub written : substituted_from [] kept ts ≡ text
  pub unused : (offset : ℕ) → mentions_in [] (usize_sites (sites_from offset kept ts)) ≡ []
  pub allowed : (allow : Bool) (offset : ℕ) → first_ambiguous [] allow (usize_sites (sites_from offset kept ts)) ≡ None

record PlainToken (kept : Bool) (t : Lexeme) (text : List ℕ) : Type 0 where
  written : token_text [] kept t ≡ text
  unused : (offset : ℕ) → mentions_in [] (usize_sites (site_at offset kept t)) ≡ []
  allowed : (allow : Bool) (offset : ℕ) → first_ambiguous [] allow (usize_sites (site_at offset kept t)) ≡ None

plain_none : (kept : Bool) → Plain kept [] []
plain_none kept = record { written = refl; unused = λ offset. refl; allowed = λ allow offset. refl }

plain_more : (kept : Bool) (t : Lexeme) (ts : List Lexeme) (front text : List ℕ) → PlainToken kept t front → Plain (keeps_next t) ts text → Plain kept (t ∷ ts) (front ++ text)
plain_more kept t ts front text one more = record {
  written = λ i. one.written i ++ more.written i;
  unused = λ offset.
      ap (mentions_in []) (map-append usize_site (site_at offset kept t) (sites_from offset (keeps_next t) ts))
      ∙ flat_map-append (mentions_of []) (usize_sites (site_at offset kept t)) (usize_sites (sites_from offset (keeps_next t) ts)) ∙ (λ i. one.unused offset i ++ more.unused offset i);
  allowed = λ allow offset.
      ap (first_ambiguous [] allow) (map-append usize_site (site_at offset kept t) (sites_from offset (keeps_next t) ts))
      ∙ (none_after [] allow (usize_sites (site_at offset kept t)) (usize_sites (sites_from offset (keeps_next t) ts)) (one.allowed allow offset)).0 ∙ more.allowed allow offset;
}

plain_identifier : (kept : Bool) (at : ℕ) (text : List ℕ) → cut_at_first text ≡ None → PlainToken kept (identifier text at) text
plain_identifier true at text e = record { written = refl; unused = λ offset. refl; allowed = λ allow offset. refl }
plain_identifier false at text e =
    let own = own_without_cut [] text e refl in
    let site : ℕ → Site = λ offset. record { name = text; place = usize_place (offset + at) } in
    record {
      written = ap (flat_map (path_text text)) own.paths ∙ append-nil (path_text text text) ∙ own.text;
      unused = λ offset. mentions_one [] (site offset) (text ∷ []) own.paths ∙ append-nil (mentions_at (usize_place (offset + at)) text) ∙ own.unused (usize_place (offset + at));
      allowed = λ allow offset. settled_one [] allow (site offset) (one_path [] allow (site offset) text own.paths);
    }

plain_token : (kept : Bool) (at c : ℕ) (cs : List ℕ) → (let text = encode_utf8_all (c ∷ take (more_in_token c cs) cs) in cut_at_first text ≡ None → PlainToken kept (lexeme_at at c text) text)
plain_token kept at c cs e =
    let text = encode_utf8_all (c ∷ take (more_in_token c cs) cs) in
    elim (starts_identifier c) as (λ s. starts_identifier c ≡ s → PlainToken kept (lexeme_at at c text) text) [
      | true ↦ λ s. rw (lexeme_identifier at c text s) (plain_identifier kept at text e)
      | false ↦ λ s.
          elim (is_whitespace c) as (λ w. is_whitespace c ≡ w → PlainToken kept (lexeme_at at c text) text) [
            | true ↦ λ w. rw (lexeme_whitespace at c text s w) (record { written = refl; unused = λ offset. refl; allowed = λ allow offset. refl })
            | false ↦ λ w.
                let alone : encode_utf8 c ≡ text = sym (ap (λ n. encode_utf8_all (c ∷ take n cs)) (more_in_other c cs s w) ∙ append-nil (encode_utf8 c)) in
                rw (lexeme_other at c text s w) (record { written = alone; unused = λ offset. refl; allowed = λ allow offset. refl })
          ] refl
    ] refl

plain_lexemes : (kept : Bool) (told at : ℕ) (cs : List ℕ) → cut_at_first (encode_utf8_all cs) ≡ None → Plain kept (lexemes told at cs) (encode_utf8_all (drop told cs))
unfolding lexemes
plain_lexemes kept zero at [] e = plain_none kept
plain_lexemes kept (suc told) at [] e = plain_none kept
plain_lexemes kept (suc told) at (c ∷ cs) e = plain_lexemes kept told (at + len_utf8 c) cs (back_uncut (encode_utf8 c) (encode_utf8_all cs) e)
plain_lexemes kept zero at (c ∷ cs) e =
    let n = more_in_token c cs in
    let text = encode_utf8_all (c ∷ take n cs) in
    let whole : text ++ encode_utf8_all (drop n cs) ≡ encode_utf8_all (c ∷ cs) =
    append_assoc (encode_utf8 c) (encode_utf8_all (take n cs)) (encode_utf8_all (drop n cs))
    ∙ ap (λ l. encode_utf8 c ++ l) (sym (encodes-append (take n cs) (drop n cs)) ∙ ap encode_utf8_all (take-append-drop n cs)) in
    let one = plain_token kept at c cs (front_uncut text (encode_utf8_all (drop n cs)) (ap cut_at_first whole ∙ e)) in
    let more = plain_lexemes (keeps_next (lexeme_at at c text)) n (at + len_utf8 c) cs (back_uncut (encode_utf8 c) (encode_utf8_all cs) e) in
    rw (← whole) (plain_more kept (lexeme_at at c text) (lexemes n (at + len_utf8 c) cs) text (encode_utf8_all (drop n cs)) one more)

-- ---- a text
any_drop : (p : ℕ → Bool) (bs : List ℕ) (i : ℕ) → list_any p bs ≡ false → list_any p (drop i bs) ≡ false
any_drop p bs zero e = e
any_drop p [] (suc i) e = refl
any_drop p (b ∷ bs) (suc i) e = any_drop p bs i (rest (p b) e)
  where
    rest : (x : Bool) → (x || list_any p bs) ≡ false → list_any p bs ≡ false
    rest true h = cc
    rest false h = h

-- a text without `:` has no `::`
pub lacks_colons : (bs : List ℕ) → list_any (λ b. b == 58) bs ≡ false → (i : ℕ) → i ≤ length bs → LacksTextAt (58 ∷ 58 ∷ []) bs i
lacks_colons bs none i within rest e =
    let lost = any_drop (λ b. b == 58) bs i none in
    let found : list_any (λ b. b == 58) (drop i bs) ≡ true = ap (list_any (λ b. b == 58)) e in
    cc

pub plain_text : (bs : List ℕ) → IsUtf8 bs → ((i : ℕ) → i ≤ length bs → LacksTextAt (58 ∷ 58 ∷ []) bs i) → Plain false (lexemes 0 0 (chars bs)) bs
plain_text bs u lacks =
    let same : encode_utf8_all (chars bs) ≡ bs = encodes-chars bs u in
    subst (λ l. Plain false (lexemes 0 0 (chars bs)) l) same (plain_lexemes false 0 0 (chars bs) (ap cut_at_first same ∙ first_none bs lacks))
