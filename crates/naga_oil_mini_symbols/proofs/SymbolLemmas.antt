-- A line's pieces and symbols from its front.
use Rattle.std.proofs.Common.{◌≡◌, ℕ, suc, take, ◌+◌, ◌<◌, ◌≤◌, Bool, true, false, cond, ◌&&◌, ◌≢◌, eqb, nat_eq, map, List, [], ◌∷◌, ◌++◌, length, get_or, drop, Option, Some, None, option_map, refl, sym, ap, subst, ◌∙◌, arith, length-append, MatchOption, append_assoc, Bor, inl, inr}
use Rattle.std.proofs.lemmas.Bool.{false≢true, cases_lt}
use Rattle.std.proofs.lemmas.Bool.Decides.{nat_tests}
use Rattle.std.proofs.lemmas.List.{take-append-drop, nil_from_length, map-append}
use Rattle.std.proofs.lemmas.Str.{char_from_byte, encode_ascii, len_utf8_ascii}
use Rattle.std.proofs.lemmas.Str.Pattern.{drop_at_char}
use Rattle.std.specs.Char.{encode_utf8}
use Rattle.std.specs.List.{list_all, prefix_len, range_with_len}
use Rattle.std.proofs.lemmas.List.FromFn.{get_or-map-range_with_len}
use Rattle.std.specs.Str.Pattern.{FindsCharPrefix, HasCharAt, CutsPrefixes}
use Rattle.naga_oil_mini_symbols.specs.Symbols.{Symbol, Piece, run, byte, is_name_char, begins_with_name_char, extended, pieces, symbols_of, symbol_before, word, opening, sign, symbol_of, line_of}
use Rattle.std.specs.Option.{IfSome}
use Rattle.naga_oil_mini_symbols.specs.SymbolSplits.{IsRun, SplitsRun, Begins}
use Rattle.naga_oil_mini_symbols.specs.declared.symbol.Symbol.{Symbol as SymbolOfCode}
use Rattle.naga_oil_mini_symbols.specs.declared.symbol.TheConstants.{OF_NAMES}

-- the table of bytes of names is held against the test at each of the 256 bytes, by computing
abbrev is_marked : ℕ → Bool
is_marked b = nat_eq (get_or OF_NAMES b 0) 49

pub marked_names : (b : ℕ) → b < 256 → is_marked b ≡ is_name_char b
marked_names b h =
    let each : map is_marked (range_with_len 0 256) ≡ map is_name_char (range_with_len 0 256) = refl in
    sym (get_or-map-range_with_len is_marked 0 256 b b false h (omega arith)) ∙ ap (λ l. get_or l b false) each
    ∙ get_or-map-range_with_len is_name_char 0 256 b b false h (omega arith)

pub name_char-ascii : (b : ℕ) → is_name_char b ≡ true → b < 128
name_char-ascii b h = grind (arith, nat_tests)

-- the first byte is the first character, if it is one of ASCII
first_is : (b : ℕ) (bs rest : List ℕ) (c : ℕ) → b ∷ bs ≡ encode_utf8 c ++ rest → b < 128 → c ≡ b
first_is b bs rest c e h = char_from_byte (b ∷ bs) rest c e h (omega arith)

-- a text that doesn't begin with this character has another byte first
pub not_first : (c : ℕ) (ts : List ℕ) → 0 < c → ((rest : List ℕ) → ts ≢ c ∷ rest) → get_or ts 0 0 ≢ c
not_first c [] some k e = absurd (omega (arith, e))
not_first c (b ∷ bs) some k e = k bs (ap (λ d. d ∷ bs) e)

-- a character that a text begins with isn't empty
not_empty : (c : ℕ) (s : List ℕ) (n : ℕ) → HasCharAt c s 0 n → c < 128 → n ≢ 0
not_empty c s n at small e = absurd (omega (arith, at.ends, len_utf8_ascii c small, e))

-- ---- what trims leave
pub trimmed_spaces : (s : List ℕ) (ns : List ℕ) (r : List ℕ) → CutsPrefixes (FindsCharPrefix 32) s ns r → pieces r ≡ pieces s
trimmed_spaces s [] r e = ap pieces e
trimmed_spaces s (n ∷ ns) r (m, cuts, at, e) = ap pieces e ∙ sym (ap pieces (drop_at_char 32 m 0 n at (omega arith))) ∙ trimmed_spaces s ns m cuts

pub no_space_left : (r : List ℕ) (o : Option ℕ) → FindsCharPrefix 32 r o → IfSome o (λ n. n ≡ 0) → get_or r 0 0 ≢ 32
no_space_left r None none h = not_first 32 r (omega arith) (λ rest e. none rest (e ∙ ap (λ l. l ++ rest) (sym (encode_ascii 32 (omega arith)))))
no_space_left r (Some n) at h = absurd (not_empty 32 r n at (omega arith) h)

-- ---- runs
run_passes : (bs : List ℕ) → IsRun (take (prefix_len is_name_char bs) bs)
run_passes [] = refl
run_passes (b ∷ bs) =
    let n = prefix_len is_name_char bs in
    let one : 1 + n ≡ suc n = omega arith in
    elim (is_name_char b) as (λ w. is_name_char b ≡ w → IsRun (take (cond w (1 + n) 0) (b ∷ bs))) [
      | true ↦ λ e. rw (one, e) (run_passes bs)
      | false ↦ λ e. refl
    ] refl

run_stops : (bs : List ℕ) → begins_with_name_char (drop (prefix_len is_name_char bs) bs) ≡ false
run_stops [] = refl
run_stops (b ∷ bs) =
    let n = prefix_len is_name_char bs in
    let one : 1 + n ≡ suc n = omega arith in
    elim (is_name_char b) as (λ w. is_name_char b ≡ w → begins_with_name_char (drop (cond w (1 + n) 0) (b ∷ bs)) ≡ false) [
      | true ↦ λ e. rw one (run_stops bs)
      | false ↦ λ e. e
    ] refl

pub run_stands : (text front rest : List ℕ) → front ≡ take (prefix_len is_name_char text) text → rest ≡ drop (prefix_len is_name_char text) text → SplitsRun text front rest
run_stands text front rest is following = record {
  bytes = sym (take-append-drop (prefix_len is_name_char text) text) ∙ (λ i. sym is i ++ sym following i);
  passing = subst IsRun (sym is) (run_passes text);
  ends = subst (λ t. begins_with_name_char t ≡ false) (sym following) (run_stops text);
}

both_more : (m n : ℕ) → eqb (suc m) (suc n) ≡ eqb m n
both_more m n = grind (arith, nat_tests)

not_none : (n : ℕ) → eqb 0 (suc n) ≡ false
not_none n = grind (arith, nat_tests)

-- a text is a run where all its bytes are of names
pub run_whole : (text : List ℕ) → eqb (prefix_len is_name_char text) (length text) ≡ list_all is_name_char text
run_whole [] = refl
run_whole (b ∷ bs) =
    let n = prefix_len is_name_char bs in
    let one : 1 + n ≡ suc n = omega arith in
    elim (is_name_char b) as (λ w. is_name_char b ≡ w → eqb (cond w (1 + n) 0) (suc (length bs)) ≡ (w && list_all is_name_char bs)) [
      | true ↦ λ e. rw one (both_more _ (length bs) ∙ run_whole bs)
      | false ↦ λ e. not_none (length bs)
    ] refl

and_parts : (a b : Bool) → (a && b) ≡ true → (a ≡ true) × (b ≡ true)
and_parts true b h = (refl, h)
and_parts false b h = absurd (false≢true h)

-- a run is one piece
pub pieces_run : (b : ℕ) (r rest : List ℕ) → list_all is_name_char (b ∷ r) ≡ true → begins_with_name_char rest ≡ false → pieces ((b ∷ r) ++ rest) ≡ run (b ∷ r) ∷ pieces rest
pieces_run b [] rest all ends =
    ap (λ t. cond t (cond (begins_with_name_char rest) (extended b (pieces rest)) (run (b ∷ []) ∷ pieces rest)) (cond (eqb b 32) (pieces rest) (byte b ∷ pieces rest))) (and_parts (is_name_char b) true all).0
    ∙ ap (λ t. cond t (extended b (pieces rest)) (run (b ∷ []) ∷ pieces rest)) ends
pieces_run b (d ∷ r) rest all ends =
    let both = and_parts (is_name_char b) (list_all is_name_char (d ∷ r)) all in
    let ps = pieces ((d ∷ r) ++ rest) in
    ap (λ t. cond t (cond (is_name_char d) (extended b ps) (run (b ∷ []) ∷ ps)) (cond (eqb b 32) ps (byte b ∷ ps))) both.0
    ∙ ap (λ t. cond t (extended b ps) (run (b ∷ []) ∷ ps)) (and_parts (is_name_char d) (list_all is_name_char r) both.1).0
    ∙ ap (extended b) (pieces_run d r rest both.1 ends)

-- ---- what is after a run
-- the first piece isn't `(`
abbrev pub NotOpened : List Piece → Type 0
NotOpened [] = Unit {0}
NotOpened (run r ∷ ps) = Unit {0}
NotOpened (byte b ∷ ps) = eqb b 40 ≡ false

symbols_unopened : (r : List ℕ) (ps : List Piece) → NotOpened ps → symbols_of (run r ∷ ps) ≡ symbol_before (word r) (symbols_of ps)
symbols_unopened r [] h = refl
symbols_unopened r (run s ∷ ps) h = refl
symbols_unopened r (byte b ∷ ps) h = ap (λ t. cond t (symbol_before (opening r) (symbols_of ps)) (symbol_before (word r) (symbols_of (byte b ∷ ps)))) h

NotOpened-extended : (b : ℕ) (ps : List Piece) → NotOpened (extended b ps)
NotOpened-extended b [] = tt
NotOpened-extended b (run r ∷ ps) = tt
NotOpened-extended b (byte d ∷ ps) = tt

NotOpened-pieces : (text : List ℕ) → get_or text 0 0 ≢ 32 → get_or text 0 0 ≢ 40 → NotOpened (pieces text)
NotOpened-pieces [] h k = tt
NotOpened-pieces (b ∷ bs) h k =
    elim (is_name_char b) as (λ t. NotOpened (cond t (cond (begins_with_name_char bs) (extended b (pieces bs)) (run (b ∷ []) ∷ pieces bs)) (cond (eqb b 32) (pieces bs) (byte b ∷ pieces bs)))) [
      | true ↦ elim (begins_with_name_char bs) as (λ t. NotOpened (cond t (extended b (pieces bs)) (run (b ∷ []) ∷ pieces bs))) [ true ↦ NotOpened-extended b (pieces bs) | false ↦ tt ]
      | false ↦ let space : eqb b 32 ≡ false = grind (arith, nat_tests) in let opened : eqb b 40 ≡ false = grind (arith, nat_tests) in subst (λ t. NotOpened (cond t (pieces bs) (byte b ∷ pieces bs))) (sym space) opened
    ]

pub symbols_after_run : (r text : List ℕ) → get_or text 0 0 ≢ 32 → ((rest : List ℕ) → text ≢ 40 ∷ rest) → symbols_of (run r ∷ pieces text) ≡ symbol_before (word r) (symbols_of (pieces text))
symbols_after_run r text h k = symbols_unopened r (pieces text) (NotOpened-pieces text h (not_first 40 text (omega arith) k))

pub symbols_after_opening : (r text rest : List ℕ) (n : ℕ) → HasCharAt 40 text 0 n → rest ≡ drop n text → symbols_of (run r ∷ pieces text) ≡ symbol_before (opening r) (symbols_of (pieces rest))
symbols_after_opening r text rest n at e = ap (λ t. symbols_of (run r ∷ pieces t)) (drop_at_char 40 text 0 n at (omega arith)) ∙ ap (λ t. symbol_before (opening r) (symbols_of (pieces t))) (sym e)

Match-weaker : {X : Type 0} (found : Option X) (P : Type 0) (Q R : X → Type 0) → MatchOption found P Q → ((x : X) → Q x → R x) → MatchOption found P R
Match-weaker None P Q R h f = h
Match-weaker (Some x) P Q R h f = f x h

-- a text that begins with a run
pub Begins-run : (text r rest following : List ℕ) (found : Option (SymbolOfCode × Bor (List ℕ))) → SplitsRun text r rest → 0 < length r
    → pieces following ≡ pieces rest → length following ≤ length rest → Begins (run r ∷ pieces following) (length following + 1) found → Begins (pieces text) (length text) found
Begins-run text [] rest following found s some same bound h = absurd (omega arith)
Begins-run text (b ∷ r) rest following found s some same bound h =
    let cut : pieces text ≡ run (b ∷ r) ∷ pieces following = ap pieces s.bytes ∙ pieces_run b r rest s.passing s.ends ∙ ap (λ ps. run (b ∷ r) ∷ ps) (sym same) in
    let len : length following + 1 ≤ length text = omega (arith, ap length s.bytes, length-append (b ∷ r) rest) in
    Match-weaker found _ (λ r. (symbols_of (pieces text) ≡ symbol_before (Some (symbol_of r.0)) (symbols_of (pieces r.1.now))) × (length r.1.now < length following + 1)) (λ r. (symbols_of (pieces text) ≡ symbol_before (Some (symbol_of r.0)) (symbols_of (pieces r.1.now))) × (length r.1.now < length text)) (subst (λ ps. Begins ps (length following + 1) found) (sym cut) h) (λ p q. (q.0, omega (arith, q.1, len)))

sign-none : (b : ℕ) → 128 ≤ b → sign b ≡ None
sign-none b h =
    let e : eqb b 61 ≡ false = grind (arith, nat_tests) in
    let p : eqb b 43 ≡ false = grind (arith, nat_tests) in
    let d : eqb b 44 ≡ false = grind (arith, nat_tests) in
    let k : eqb b 41 ≡ false = grind (arith, nat_tests) in
    rw (e, p, d, k) refl

-- a text that begins with another byte
pub Begins-byte : (text r rest more : List ℕ) (c : ℕ) → SplitsRun text r rest → length r ≡ 0 → get_or text 0 0 ≢ 32 → text ≡ encode_utf8 c ++ more → sign c ≡ None → 0 < length text → symbols_of (pieces text) ≡ None
Begins-byte [] r rest more c s empty begins e none some = absurd (omega arith)
Begins-byte (b ∷ bs) r rest more c s empty begins e none some =
    let whole : b ∷ bs ≡ rest = s.bytes ∙ ap (λ l. l ++ rest) (nil_from_length r empty) in
    let plain : is_name_char b ≡ false = ap begins_with_name_char whole ∙ s.ends in
    let space : eqb b 32 ≡ false = grind (arith, nat_tests) in
    ap symbols_of (ap (λ t. cond t (cond (begins_with_name_char bs) (extended b (pieces bs)) (run (b ∷ []) ∷ pieces bs)) (cond (eqb b 32) (pieces bs) (byte b ∷ pieces bs))) plain
    ∙ ap (λ t. cond t (pieces bs) (byte b ∷ pieces bs)) space)
    ∙ ap (λ o. symbol_before o (symbols_of (pieces bs))) (elim (cases_lt b 128) as (λ _. sign b ≡ None) [
      | inl h ↦ ap sign (sym (first_is b bs more c e h)) ∙ none
      | inr h ↦ sign-none b h
    ])

-- one symbol more
pub symbols_more : (done : List SymbolOfCode) (s : SymbolOfCode) (o : Option (List Symbol)) → option_map (λ more. line_of (done ++ s ∷ []) ++ more) o ≡ option_map (λ more. line_of done ++ more) (symbol_before (Some (symbol_of s)) o)
symbols_more done s None = refl
symbols_more done s (Some ss) = ap Some (ap (λ l. l ++ ss) (map-append symbol_of done (s ∷ [])) ∙ append_assoc (line_of done) (symbol_of s ∷ []) ss)
