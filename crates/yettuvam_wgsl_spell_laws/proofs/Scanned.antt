-- What is spelled is cut into its tokens.
use Rattle.std.proofs.Common.{◌≡◌, ℕ, zero, suc, ◌+◌, ◌-◌, ◌≤◌, Bool, true, false, ◌&&◌, ◌==◌, nat_lt, if◌then◌else◌, List, [], ◌∷◌, ◌++◌, length, codes, All, Result, Ok, refl, sym, ap, subst, ◌∙◌, arith, append_assoc}
use Rattle.std.proofs.lemmas.Bool.{and_parts}
use Rattle.std.proofs.lemmas.Bool.Decides.{nat_tests}
use Rattle.std.proofs.lemmas.List.{length-append, take_at}
use Rattle.std.proofs.lemmas.List.Elements.{All-head, All-tail}
use Rattle.yettuvam_wgsl_pieces.specs.Layout.{after as after_piece, depth_after, gap_between, gap_text, spell, spell_from}
use Rattle.yettuvam_wgsl_pieces.specs.Numbers.{class_of}
use Rattle.yettuvam_wgsl_pieces.specs.Pieces.{Piece, Word, Number, Literal, Letters, Sign, text}
use Rattle.yettuvam_wgsl_pieces.specs.declared.sign.Sign.TheVariants as sign
use Rattle.yettuvam_wgsl_words.specs.declared.class.Class.TheVariants as class
use Rattle.yettuvam_wgsl_words.specs.declared.cut.Piece.TheVariants as piece_is
use Rattle.yettuvam_wgsl_words.specs.declared.token.Kind.{Kind}
use Rattle.yettuvam_wgsl_words.specs.declared.token.Kind.TheVariants as k
use Rattle.yettuvam_wgsl_words.specs.Class.{Text, after, before}
use Rattle.yettuvam_wgsl_words.specs.Cut.{cut, sign as sign_of}
use Rattle.yettuvam_wgsl_words.specs.Scan.{Token, scan, scan_from, tokens, max_length}
use Rattle.yettuvam_wgsl_words.specs.declared.refusal.Fault.{Fault}
use Rattle.yettuvam_wgsl_spell_laws.specs.Apart.{ends_before, begins_some, all_stand_apart, stand_apart}
use Rattle.yettuvam_wgsl_spell_laws.specs.Laws.{CutLaw}
use Rattle.yettuvam_wgsl_spell_laws.specs.Meant.{IsGood, meant_kind, kind_cut, is_closing, token, unmarked, shift, place_after, meant_from, cut_tokens}
use Rattle.yettuvam_wgsl_spell_laws.proofs.Cuts.{token_and, cut_before}
use Rattle.yettuvam_wgsl_spell_laws.proofs.Gaps.{Space, Between, Line, byte, IsGap, line_gap, ends_space, has_first, Follows, Apart, AtOnce, Solid, solid_text, follows}

abbrev Scanned : Type 0
Scanned = Result (List Token) Fault

-- ---- one token

-- the bytes of a token before a rest
front_of : (z y : Text) → before (z ++ y) y ≡ z
front_of z y = let n : length (z ++ y) - length y ≡ length z = omega (arith, length-append z y) in rw n (take_at z y (length z) refl)

token_step : (total n at : ℕ) (found : List Token) (z y : Text) (k : Kind) → at + length (z ++ y) ≡ total → cut (z ++ y) ≡ token_and k y
    → scan_from total (suc n) found (z ++ y) ≡ scan_from total n (found ++ token k at z ∷ []) y
unfolding scan_from
token_step total n at found z y k h e =
    let s : total - length (z ++ y) ≡ at = omega (arith, h) in
    let f : total - length y ≡ at + length z = omega (arith, h, length-append z y) in
    rw (e, s, f, front_of z y) refl

-- a gap before a text that no blank begins
gap_cut : (g x : Text) → IsGap g → Solid x → cut (g ++ x) ≡ (piece_is.Blank, x)
unfolding cut Solid
gap_cut g x gap solid = by gap.first gap.rest gap.is (gap.skips x ∙ solid)
  where
    by : (c : Space) (w : Text) → g ≡ byte c ∷ w → after class.Blank (g ++ x) ≡ x → cut (g ++ x) ≡ (piece_is.Blank, x)
    by Between w e s = rw e (ap (λ (y : Text). (piece_is.Blank, y)) (rw e at s))
    by Line w e s = rw e (ap (λ (y : Text). (piece_is.Blank, y)) (rw e at s))

gap_step : (total n : ℕ) (found : List Token) (g x : Text) → IsGap g → Solid x → scan_from total (suc n) found (g ++ x) ≡ scan_from total n found x
unfolding scan_from
gap_step total n found g x gap solid = rw (gap_cut g x gap solid) refl

ended : (total n : ℕ) (found : List Token) → scan_from total n found [] ≡ Ok (found ++ token k.End total [] ∷ [])
unfolding scan_from cut
ended total zero found = let s : total - 0 ≡ total = omega arith in let e : total ≡ total + 0 = omega arith in rw s (ap (λ (m : ℕ). Ok (found ++ (record { kind = k.End; span = record { start = total; end = m }; text = [] }) ∷ [])) e)
ended total (suc n) found = ended total n found

-- some turns take the lexer from one text to another
record Steps (total n : ℕ) (found : List Token) (y : Text) (later : List Token) (x : Text) : Type 0 where
  turns : ℕ
  enough : length x ≤ turns
  same : scan_from total n found y ≡ scan_from total turns later x

piece_step : (total n at : ℕ) (found : List Token) (z g x : Text) (k : Kind) → cut z ≡ token_and k [] → Follows z g x → Solid x → at + length (z ++ (g ++ x)) ≡ total → length (z ++ (g ++ x)) ≤ n
    → Steps total n found (z ++ (g ++ x)) (found ++ token k at z ∷ []) x
piece_step total n at found z [] x k good (AtOnce b r is ends) solid h long =
    let f = has_first z k good in
    let whole : cut (z ++ x) ≡ token_and k x = rw is (cut_before b r z k ends good) in
    let one : 1 + length x ≤ n = omega (arith, long, length-append z x, ap length f.is) in
    let m : n ≡ suc (n - 1) = omega arith in
    record { turns = n - 1; enough = omega arith; same = ap (λ (i : ℕ). scan_from total i found (z ++ x)) m ∙ token_step total (n - 1) at found z x k h whole }
piece_step total n at found z g x k good (Apart gap) solid h long =
    let f = has_first z k good in
    let before_gap : cut (z ++ (byte gap.first ∷ gap.rest ++ x)) ≡ token_and k (byte gap.first ∷ gap.rest ++ x) = cut_before (byte gap.first) (gap.rest ++ x) z k (ends_space z k gap.first good) good in
    let whole : cut (z ++ (g ++ x)) ≡ token_and k (g ++ x) = rw gap.is before_gap in
    let two : 2 + length x ≤ n = omega (arith, long, length-append z (g ++ x), length-append g x, ap length f.is, ap length gap.is) in
    let m : n ≡ suc (suc (n - 2)) = omega arith in
    record {
      turns = n - 2;
      enough = omega arith;
      same =
          ap (λ (i : ℕ). scan_from total i found (z ++ (g ++ x))) m ∙ token_step total (suc (n - 2)) at found z (g ++ x) k h whole
          ∙ gap_step total (n - 2) (found ++ token k at z ∷ []) g x gap solid;
    }

-- ---- all

solid_spell : (d : ℕ) (ps : List Piece) → All IsGood ps → Solid (spell_from d ps)
unfolding spell_from Solid
solid_spell d [] all = refl
solid_spell d (p ∷ ps) all = solid_text (text p) _ (kind_cut (meant_kind p)) (All-head IsGood p ps all)

pub closing : (p : Piece) → is_closing (meant_kind p) ≡ true → p ≡ Sign sign.TemplateClose
closing (Word word) e = cc
closing (Number value) e = cc
closing (Literal kind bits) e = by (class_of kind == 0) (bits == 0) e
  where
    by : (v w : Bool) → is_closing (if v then (if w then k.False else k.True) else k.Number) ≡ true → Literal kind bits ≡ Sign sign.TemplateClose
    by true true f = cc
    by true false f = cc
    by false w f = cc
closing (Letters size pattern) e = cc
closing (Sign sign.TemplateClose) e = refl
closing (Sign _) e = cc

apart_tail : (p : Piece) (ps : List Piece) → all_stand_apart (p ∷ ps) ≡ true → all_stand_apart ps ≡ true
unfolding all_stand_apart
apart_tail p [] e = refl
apart_tail p (q ∷ ps) e = (and_parts (stand_apart p q) (all_stand_apart (q ∷ ps)) e).1

apart_head : (p q : Piece) (ps : List Piece) → all_stand_apart (p ∷ q ∷ ps) ≡ true → stand_apart p q ≡ true
unfolding all_stand_apart
apart_head p q ps e = (and_parts (stand_apart p q) (all_stand_apart (q ∷ ps)) e).0

-- what stands before a text that is cut is cut too
abbrev Claim : List Piece → Type 0
Claim ps = (total n at depth : ℕ) (found : List Token) → All IsGood ps → all_stand_apart ps ≡ true → at + length (spell_from depth ps) ≡ total → length (spell_from depth ps) ≤ n
    → scan_from total n found (spell_from depth ps) ≡ Ok (found ++ cut_tokens (meant_from at depth ps))

claim_nil : Claim []
unfolding spell_from meant_from cut_tokens
claim_nil total n at depth found all apart h long = let e : total ≡ at = omega (arith, h) in ended total n found ∙ ap (λ (m : ℕ). Ok (found ++ token k.End m [] ∷ [])) e

-- tokens that were found before others
joined : (found : List Token) (t : Token) (ts : List Token) → (found ++ t ∷ []) ++ ts ≡ found ++ t ∷ ts
joined found t ts = append_assoc found (t ∷ []) ts

claim_step : (z g x : Text) (k : Kind) (later : List Token) (total n at : ℕ) (found : List Token) → cut z ≡ token_and k [] → Follows z g x → Solid x → at + length (z ++ (g ++ x)) ≡ total → length (z ++ (g ++ x)) ≤ n
    → ((m : ℕ) (f : List Token) → length x ≤ m → scan_from total m f x ≡ Ok (f ++ later))
    → scan_from total n found (z ++ (g ++ x)) ≡ Ok (found ++ token k at z ∷ later)
claim_step z g x k later total n at found good f solid h long rest =
    let s = piece_step total n at found z g x k good f solid h long in
    s.same ∙ rest s.turns (found ++ token k at z ∷ []) s.enough ∙ ap Ok (joined found (token k at z) later)

pub place_next : (at total : ℕ) (z g x : Text) → at + length (z ++ (g ++ x)) ≡ total → (at + length (z ++ g)) + length x ≡ total
place_next at total z g x h = omega (arith, h, length-append z (g ++ x), length-append g x, length-append z g)

next : (p : Piece) (ps : List Piece) (total n at depth : ℕ) (found : List Token) → IsGood p → All IsGood ps → all_stand_apart ps ≡ true → Follows (text p) (after_piece (depth_after depth p) p ps) (spell_from (depth_after depth p) ps) → Claim ps
    → at + length (spell_from depth (p ∷ ps)) ≡ total → length (spell_from depth (p ∷ ps)) ≤ n
    → scan_from total n found (spell_from depth (p ∷ ps)) ≡ Ok (found ++ unmarked (token (meant_kind p) at (text p)) ∷ cut_tokens (meant_from (place_after at depth p ps) (depth_after depth p) ps))
unfolding spell_from
next p ps total n at depth found good all apart f claim h long =
    let d : ℕ = depth_after depth p in
    claim_step (text p) (after_piece d p ps) (spell_from d ps) (kind_cut (meant_kind p)) (cut_tokens (meant_from (place_after at depth p ps) d ps)) total n at found good f (solid_spell d ps all) h long
    (λ m fs enough. claim total m (place_after at depth p ps) d fs all apart (place_next at total (text p) (after_piece d p ps) (spell_from d ps) h) enough)

claim_one : (p : Piece) → Claim (p ∷ [])
unfolding meant_from cut_tokens
claim_one p total n at depth found all apart h long =
    rw (no_pair (is_closing (meant_kind p))) (next p [] total n at depth found (All-head IsGood p [] all) (All-tail IsGood p [] all) (apart_tail p [] apart) (Apart line_gap) claim_nil h long)
  where
    no_pair : (v : Bool) → (v && false) ≡ false
    no_pair true = refl
    no_pair false = refl

-- ---- two closing brackets

greater : Piece
greater = Sign sign.TemplateClose

shift_ends : (b : ℕ) → ends_before (codes ">") b ≡ true → ends_before (codes ">>") b ≡ true
unfolding begins_some
shift_ends b h = by (62 == b) (61 == b) refl refl h
  where
    by : (v w : Bool) → (62 == b) ≡ v → (61 == b) ≡ w → ends_before (codes ">") b ≡ true → ends_before (codes ">>") b ≡ true
    by true w e f g = let no : false ≡ true = rw e at g in cc
    by false true e f g = let no : false ≡ true = rw (e, f) at g in cc
    by false false e f g = rw f refl

shift_follows : (g x : Text) → Follows (codes ">") g x → Follows (codes ">>") g x
shift_follows g x (Apart gap) = Apart gap
shift_follows [] x (AtOnce b r e ends) = AtOnce b r e (shift_ends b ends)

-- what follows a closing bracket
closing_follows : (depth : ℕ) (ps : List Piece) → All IsGood ps → all_stand_apart (Sign sign.TemplateClose ∷ ps) ≡ true → Follows (codes ">>") (after_piece depth (Sign sign.TemplateClose) ps) (spell_from depth ps)
unfolding spell_from begins_some
closing_follows depth [] all apart = Apart line_gap
closing_follows depth (q ∷ ps) all apart = by (is_closing (meant_kind q)) refl
  where
    y : Text
    y = after_piece (depth_after depth q) q ps ++ spell_from (depth_after depth q) ps

    close_next : Follows (codes ">>") (gap_text depth (gap_between (Sign sign.TemplateClose) (Sign sign.TemplateClose)) (Sign sign.TemplateClose)) (codes ">" ++ y)
    close_next = AtOnce 62 y refl refl

    by : (v : Bool) → is_closing (meant_kind q) ≡ v → Follows (codes ">>") (gap_text depth (gap_between (Sign sign.TemplateClose) q) q) (text q ++ y)
    by true e = let is = closing q e in subst (λ (p : Piece). Follows (codes ">>") (gap_text depth (gap_between (Sign sign.TemplateClose) p) p) (text p ++ y)) (sym is) close_next
    by false e = shift_follows _ _ (follows depth (Sign sign.TemplateClose) q y (All-head IsGood q ps all) (apart_head (Sign sign.TemplateClose) q ps apart) e)

abbrev pub closed : (at : ℕ) → Token
closed at = token k.TemplateClose at (codes ">")

shift_good : cut (codes ">>") ≡ token_and k.ShiftRight []
unfolding cut sign_of
shift_good = refl

pair : (ps : List Piece) (total n at depth : ℕ) (found : List Token) → All IsGood ps → all_stand_apart (Sign sign.TemplateClose ∷ ps) ≡ true → Claim ps
    → at + length (spell_from depth (Sign sign.TemplateClose ∷ Sign sign.TemplateClose ∷ ps)) ≡ total → length (spell_from depth (Sign sign.TemplateClose ∷ Sign sign.TemplateClose ∷ ps)) ≤ n
    → scan_from total n found (spell_from depth (Sign sign.TemplateClose ∷ Sign sign.TemplateClose ∷ ps))
    ≡ Ok (found ++ shift (closed at) (closed (at + 1)) ∷ cut_tokens (meant_from (at + 1 + length (codes ">" ++ after_piece depth (Sign sign.TemplateClose) ps)) depth ps))
unfolding spell_from
pair ps total n at depth found all apart claim h long =
    let g : Text = after_piece depth (Sign sign.TemplateClose) ps in
    let x : Text = spell_from depth ps in
    let place : at + 1 + length (codes ">" ++ g) ≡ at + length (codes ">>" ++ g) = omega (arith, length-append (codes ">") g, length-append (codes ">>") g) in
    let end : at + 1 + 1 ≡ at + 2 = omega arith in
    rw (place, end) (claim_step (codes ">>") g x k.ShiftRight (cut_tokens (meant_from (at + length (codes ">>" ++ g)) depth ps)) total n at found shift_good (closing_follows depth ps all apart) (solid_spell depth ps all) h long
    (λ m fs enough. claim total m (at + length (codes ">>" ++ g)) depth fs all (apart_tail (Sign sign.TemplateClose) ps apart) (place_next at total (codes ">>") g x h) enough))

claim_pair : (p q : Piece) (ps : List Piece) (total n at depth : ℕ) (found : List Token) → p ≡ Sign sign.TemplateClose → q ≡ Sign sign.TemplateClose → All IsGood ps → all_stand_apart (q ∷ ps) ≡ true → Claim ps
    → at + length (spell_from depth (p ∷ q ∷ ps)) ≡ total → length (spell_from depth (p ∷ q ∷ ps)) ≤ n
    → scan_from total n found (spell_from depth (p ∷ q ∷ ps))
    ≡ Ok (found ++ shift (token (meant_kind p) at (text p)) (token (meant_kind q) (place_after at depth p (q ∷ ps)) (text q))
    ∷ cut_tokens (meant_from (place_after (place_after at depth p (q ∷ ps)) (depth_after depth p) q ps) (depth_after (depth_after depth p) q) ps))
claim_pair p q ps total n at depth found e f all apart claim h long = rw (e, f) (pair ps total n at depth found all (rw f at apart) claim (rw (e, f) at h) (rw (e, f) at long))

claim_two : (p q : Piece) (ps : List Piece) → Claim ps → Claim (q ∷ ps) → Claim (p ∷ q ∷ ps)
unfolding meant_from cut_tokens spell_from
claim_two p q ps claim claim_more total n at depth found all apart h long = by (is_closing (meant_kind p) && is_closing (meant_kind q)) refl
  where
    by : (v : Bool) → (is_closing (meant_kind p) && is_closing (meant_kind q)) ≡ v
        → scan_from total n found (spell_from depth (p ∷ q ∷ ps))
        ≡ Ok (found ++ (if v
        then shift (token (meant_kind p) at (text p)) (token (meant_kind q) (place_after at depth p (q ∷ ps)) (text q))
        ∷ cut_tokens (meant_from (place_after (place_after at depth p (q ∷ ps)) (depth_after depth p) q ps) (depth_after (depth_after depth p) q) ps)
        else unmarked (token (meant_kind p) at (text p)) ∷ cut_tokens (meant_from (place_after at depth p (q ∷ ps)) (depth_after depth p) (q ∷ ps))))
    by true e =
        let both = and_parts (is_closing (meant_kind p)) (is_closing (meant_kind q)) e in
        claim_pair p q ps total n at depth found (closing p both.0) (closing q both.1) (All-tail IsGood q ps (All-tail IsGood p (q ∷ ps) all)) (apart_tail p (q ∷ ps) apart) claim h long
    by false e =
        let more = All-tail IsGood p (q ∷ ps) all in
        next p (q ∷ ps) total n at depth found (All-head IsGood p (q ∷ ps) all) more (apart_tail p (q ∷ ps) apart)
        (follows (depth_after depth p) p q _ (All-head IsGood q ps more) (apart_head p q ps apart) e) claim_more h long

claim : (ps : List Piece) → Claim ps
claim [] = claim_nil
claim (p ∷ []) = claim_one p
claim (p ∷ q ∷ ps) = claim_two p q ps (claim ps) (claim (q ∷ ps))

pub cut_law : CutLaw
unfolding tokens scan
cut_law ps short all apart =
    let fits : nat_lt max_length (length (spell ps)) ≡ false = grind (arith, nat_tests, short) in
    let whole : 0 + length (spell ps) ≡ length (spell ps) = omega arith in
    let enough : length (spell ps) ≤ length (spell ps) = omega arith in
    rw fits (claim ps (length (spell ps)) (length (spell ps)) 0 0 [] all apart whole enough)
