-- The parts of an import line, read from the front of its tokens.
use Rattle.std.proofs.Common.{◌≡◌, ℕ, zero, suc, ◌+◌, ◌<◌, ◌≤◌, Bool, true, false, List, [], ◌∷◌, ◌++◌, length, take, drop, map, get_or, Some, None, unwrap_or, string_bytes, String, refl, sym, ap, ◌∙◌, append-nil, take-append-drop, arith, nat_eq}
use Rattle.std.specs.Prelude.{codes}
use Rattle.std.specs.declared.alloc.Global.{Global}
use Rattle.std.specs.List.{concat, starts_with}
use Rattle.std.specs.Str.Pattern.{RFindsText, LacksTextAt}
use Rattle.std.proofs.lemmas.List.{map-append, take_more, nil_from_length}
use Rattle.std.proofs.lemmas.List.Folds.{concat-append}
use Rattle.std.proofs.lemmas.Slice.Eq.{bytes_eq-Decides}
use Rattle.naga_oil_lines.specs.declared.tokenizer.Token.{Token}
use Rattle.naga_oil_lines.specs.Tokens.{Lexeme, identifier, other, whitespace}
use Rattle.naga_oil_lines.specs.Tokenizer.{lexeme_of}
use Rattle.naga_oil_imports.specs.Leaves.{ImportPart, nothing, alias_after, alias_len, unit_len, unit_part, mark_part, parts, after_last_colons}

-- the parts continue after the tokens already read
parts-told : (told : ℕ) (ts : List Lexeme) → parts told ts ≡ parts 0 (drop told ts)
unfolding parts
parts-told zero ts = refl
parts-told (suc told) [] = refl
parts-told (suc told) (t ∷ ts) = parts-told told ts

pub no_parts : (tokens : List Token) → length tokens ≡ 0 → parts 0 (map lexeme_of tokens) ≡ []
unfolding parts
no_parts tokens e = ap (λ ts. parts 0 (map lexeme_of ts)) (nil_from_length tokens e)

-- the tokens begin with a unit, any other character, or white space
pub unit_first : (all ts rest : List Lexeme) (name : List ℕ) (at : ℕ) (p : ImportPart) → all ≡ identifier name at ∷ ts → p ≡ unit_part name (alias_after ts) (drop (alias_len (alias_after ts)) ts) → rest ≡ drop (unit_len ts) ts
    → parts 0 all ≡ p ∷ parts 0 rest
unfolding parts
unit_first all ts rest name at p e is_part is_rest = ap (parts 0) e ∙ (λ j. sym is_part j ∷ (parts-told (unit_len ts) ts ∙ ap (parts 0) (sym is_rest)) j)

pub mark_first : (all ts : List Lexeme) (c at : ℕ) (p : ImportPart) → all ≡ other c at ∷ ts → p ≡ mark_part c at ts → parts 0 all ≡ p ∷ parts 0 ts
unfolding parts
mark_first all ts c at p e is_part = ap (parts 0) e ∙ ap (λ q. q ∷ parts 0 ts) (sym is_part)

pub white_first : (all ts : List Lexeme) (text : List ℕ) (at : ℕ) → all ≡ whitespace text at ∷ ts → parts 0 all ≡ nothing ∷ parts 0 ts
unfolding parts
white_first all ts text at e = ap (parts 0) e

-- the first token, as a lexeme
pub seen_first : (tokens following : List Token) (first t : Token) → tokens ≡ first ∷ following → first ≡ t → map lexeme_of tokens ≡ lexeme_of t ∷ map lexeme_of following
seen_first tokens following first t e is = ap (map lexeme_of) e ∙ ap (λ x. lexeme_of x ∷ map lexeme_of following) is

-- one more text
pub concat_more : (xs : List (String Global)) (i : ℕ) (x : String Global) → i < length xs → x ≡ get_or xs i x → concat (map string_bytes (take (i + 1) xs)) ≡ concat (map string_bytes (take i xs)) ++ string_bytes x
concat_more xs i x h e =
    ap (λ ys. concat (map string_bytes ys)) (take_more xs i x h ∙ ap (λ y. take i xs ++ y ∷ []) (sym e))
    ∙ ap concat (map-append string_bytes (take i xs) (x ∷ []))
    ∙ concat-append (map string_bytes (take i xs)) (string_bytes x ∷ [])
    ∙ ap (λ bs. concat (map string_bytes (take i xs)) ++ bs) (append-nil (string_bytes x))

-- a text begins with `::` or does not
begins : (s rest : List ℕ) → s ≡ 58 ∷ 58 ∷ rest → starts_with nat_eq s (codes "::") ≡ true
begins s rest e = rw e refl

not_begins : (s : List ℕ) → LacksTextAt (codes "::") s 0 → starts_with nat_eq s (codes "::") ≡ false
not_begins s lacks = by (starts_with nat_eq s (codes "::")) refl
  where
    by : (b : Bool) → starts_with nat_eq s (codes "::") ≡ b → starts_with nat_eq s (codes "::") ≡ false
    by true e = absurd (lacks (drop 2 s) (sym (take-append-drop 2 s) ∙ ap (λ front. front ++ drop 2 s) (sym ((bytes_eq-Decides (codes "::") (take 2 s)).0 e))))
    by false e = e

-- no `::` is in the text
pub no_last : (s : List ℕ) → ((i : ℕ) → i ≤ length s → LacksTextAt (codes "::") s i) → after_last_colons s ≡ None
no_last [] lacks = refl
no_last (c ∷ cs) lacks =
    let rest : after_last_colons cs ≡ None = no_last cs (λ i h. lacks (suc i) (omega arith)) in
    rw (rest, not_begins (c ∷ cs) (lacks 0 (omega arith))) refl

-- the last `::` of the text is at i, before these bytes
pub last_at : (s back : List ℕ) (i : ℕ) → drop i s ≡ 58 ∷ 58 ∷ back → ((k : ℕ) → i < k → k ≤ length s → LacksTextAt (codes "::") s k) → after_last_colons s ≡ Some back
last_at [] back zero e lacks = cc
last_at [] back (suc i) e lacks = cc
last_at (c ∷ cs) back zero e lacks =
    let rest : after_last_colons cs ≡ None = no_last cs (λ i h. lacks (suc i) (omega arith) (omega arith)) in
    let following : cs ≡ 58 ∷ back = cc in
    rw (rest, begins (c ∷ cs) back e) (ap (λ bs. Some (drop 1 bs)) following)
last_at (c ∷ cs) back (suc i) e lacks =
    let rest : after_last_colons cs ≡ Some back = last_at cs back i e (λ k h g. lacks (suc k) (omega arith) (omega arith)) in
    rw rest refl

-- the result of `rsplit_once`
pub last_found : (s back : List ℕ) (i j : ℕ) → RFindsText (codes "::") s (Some (i, j)) → back ≡ drop j s → back ≡ unwrap_or (after_last_colons s) s
last_found s back i j found is = sym (ap (λ o. unwrap_or o s) (last_at s back i (found.1.split ∙ ap (λ bs. 58 ∷ 58 ∷ bs) (sym is)) found.0))

pub none_found : (s : List ℕ) → RFindsText (codes "::") s None → s ≡ unwrap_or (after_last_colons s) s
none_found s lacks = sym (ap (λ o. unwrap_or o s) (no_last s lacks))
