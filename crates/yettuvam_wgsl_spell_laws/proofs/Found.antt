-- The brackets of template arguments that are meant are found, and no others.
use Rattle.std.proofs.Common.{◌≡◌, ℕ, ◌+◌, ◌<◌, ◌^◌, Bool, true, false, ◌&&◌, if◌then◌else◌, List, [], ◌∷◌, ◌++◌, length, codes, Option, Some, None, Ok, refl, ap, subst, ◌∙◌, arith, append_assoc}
use Rattle.std.proofs.lemmas.Bool.{and_parts}
use Rattle.std.proofs.lemmas.List.{length-append}
use Rattle.yettuvam_wgsl_pieces.specs.Layout.{after as after_piece, depth_after, spell, spell_from}
use Rattle.yettuvam_wgsl_pieces.specs.Pieces.{Piece, Sign, text}
use Rattle.yettuvam_wgsl_pieces.specs.declared.sign.Sign.TheVariants as sign
use Rattle.yettuvam_wgsl_templates.specs.Finder.{bracket, after, next_place, act, step, run, with_templates, may_be_followed, shift_right}
use Rattle.yettuvam_wgsl_words.specs.declared.token.Kind.TheVariants as k
use Rattle.yettuvam_wgsl_words.specs.Scan.{Token, tokens}
use Rattle.yettuvam_wgsl_spell_laws.specs.Brackets.{Stack, close_list, open_after, if_some, bracketed_from}
use Rattle.yettuvam_wgsl_spell_laws.specs.Laws.{TemplatesLaw, ReadLaw}
use Rattle.yettuvam_wgsl_spell_laws.specs.Meant.{meant_kind, is_closing, token, unmarked, shift, place_after, meant_from, cut_tokens}
use Rattle.yettuvam_wgsl_spell_laws.proofs.Frames.{Frames, shapes, full, state, is_full}
use Rattle.yettuvam_wgsl_spell_laws.proofs.Moves.{Moved, moves, shift_moves, followed}
use Rattle.yettuvam_wgsl_spell_laws.proofs.Scanned.{closed, closing, place_next, cut_law}

-- ---- one token

next_is : (at : ℕ) → at < 4294967295 → next_place at ≡ at + 1
next_is at h = omega arith

bracket_is : (at : ℕ) → at < 4294967295 → bracket (token k.Greater at (codes ">")) ≡ closed at
bracket_is at h = rw (next_is at h) refl

closing_bracket : (at : ℕ) (p : Piece) (y : List ℕ) → at + length (text p ++ y) < 2 ^ 32 → meant_kind p ≡ k.TemplateClose → bracket (token k.Greater at (text p)) ≡ token k.TemplateClose at (text p)
closing_bracket at p y short e =
    let is = closing p (rw e refl) in
    let fits : at + length (codes ">" ++ y) < 2 ^ 32 = rw is at short in
    rw is (bracket_is at (omega (arith, fits)))

run_one : (t : Token) (later : List Token) (meant_later : List Token) (meant : List Token) (fs : Frames) (tokens : List Token) (named now : Bool) (stack : Stack)
    → Moved fs tokens named (act t (state fs tokens named)) meant stack → may_be_followed t.kind ≡ now
    → ((gs : Frames) (inner : List Token) → shapes gs ≡ stack → run later (state gs inner now) ≡ Ok (full gs inner ++ meant_later))
    → run (t ∷ later) (state fs tokens named) ≡ Ok (full fs tokens ++ (meant ++ meant_later))
unfolding run step
run_one t later meant_later meant fs tokens named now stack m e rest =
    rw (m.acted, e) (rest m.frames m.inner m.shape ∙ ap (λ (x : List Token). Ok (x ++ meant_later)) m.kept ∙ ap Ok (append_assoc (full fs tokens) meant meant_later))

some_of : (o : Option Stack) (holds : Stack → Bool) → if_some o holds ≡ true → (s : Stack) × (o ≡ Some s) × (holds s ≡ true)
some_of (Some s) holds e = (s, refl, e)
some_of None holds e = cc

-- ---- all

-- pieces are found as they are meant, whatever is open before them
abbrev Claim : List Piece → Type 0
Claim ps = (at depth : ℕ) (fs : Frames) (tokens : List Token) (named : Bool) → bracketed_from (shapes fs) named ps ≡ true → at + length (spell_from depth ps) < 2 ^ 32
    → run (cut_tokens (meant_from at depth ps)) (state fs tokens named) ≡ Ok (full fs tokens ++ meant_from at depth ps)

claim_nil : Claim []
unfolding bracketed_from meant_from cut_tokens run step act
claim_nil at depth fs tokens named h short = rw (is_full fs tokens h) refl

next : (p : Piece) (ps : List Piece) → Claim ps → (at depth : ℕ) (fs : Frames) (tokens : List Token) (named : Bool) → bracketed_from (shapes fs) named (p ∷ ps) ≡ true → at + length (spell_from depth (p ∷ ps)) < 2 ^ 32
    → run (unmarked (token (meant_kind p) at (text p)) ∷ cut_tokens (meant_from (place_after at depth p ps) (depth_after depth p) ps)) (state fs tokens named)
    ≡ Ok (full fs tokens ++ (token (meant_kind p) at (text p) ∷ meant_from (place_after at depth p ps) (depth_after depth p) ps))
unfolding bracketed_from spell_from
next p ps claim at depth fs tokens named h short =
    let d : ℕ = depth_after depth p in
    let later : List Token = meant_from (place_after at depth p ps) d ps in
    let s = some_of (open_after (meant_kind p) named (shapes fs)) (λ stack. bracketed_from stack (may_be_followed (meant_kind p)) ps) h in
    let place = place_next at _ (text p) (after_piece d p ps) (spell_from d ps) refl in
    let fits : place_after at depth p ps + length (spell_from d ps) < 2 ^ 32 = rw place short in
    run_one (unmarked (token (meant_kind p) at (text p))) (cut_tokens later) later (token (meant_kind p) at (text p) ∷ []) fs tokens named (may_be_followed (meant_kind p)) s.0
    (moves (meant_kind p) at (text p) fs tokens named s.0 (λ e. closing_bracket at p _ short e) s.1) (followed (meant_kind p))
    (λ gs inner shape. claim (place_after at depth p ps) d gs inner (may_be_followed (meant_kind p)) (rw shape s.2) fits)

claim_one : (p : Piece) → Claim (p ∷ [])
unfolding meant_from cut_tokens
claim_one p at depth fs tokens named h short = rw (no_pair (is_closing (meant_kind p))) (next p [] claim_nil at depth fs tokens named h short)
  where
    no_pair : (v : Bool) → (v && false) ≡ false
    no_pair true = refl
    no_pair false = refl

-- two closing brackets
pair : (ps : List Piece) → Claim ps → (at depth : ℕ) (fs : Frames) (tokens : List Token) (named : Bool) → bracketed_from (shapes fs) named (Sign sign.TemplateClose ∷ Sign sign.TemplateClose ∷ ps) ≡ true
    → at + length (spell_from depth (Sign sign.TemplateClose ∷ Sign sign.TemplateClose ∷ ps)) < 2 ^ 32
    → run (shift (closed at) (closed (at + 1)) ∷ cut_tokens (meant_from (at + 1 + length (codes ">" ++ after_piece depth (Sign sign.TemplateClose) ps)) depth ps)) (state fs tokens named)
    ≡ Ok (full fs tokens ++ (closed at ∷ closed (at + 1) ∷ meant_from (at + 1 + length (codes ">" ++ after_piece depth (Sign sign.TemplateClose) ps)) depth ps))
unfolding bracketed_from spell_from act
pair ps claim at depth fs tokens named h short =
    let g : List ℕ = after_piece depth (Sign sign.TemplateClose) ps in
    let later : List Token = meant_from (at + 1 + length (codes ">" ++ g)) depth ps in
    let t : Token = shift (closed at) (closed (at + 1)) in
    let s = some_of (close_list (shapes fs)) (λ stack. bracketed_from stack false (Sign sign.TemplateClose ∷ ps)) h in
    let r = some_of (close_list s.0) (λ stack. bracketed_from stack false ps) s.2 in
    let long : length (g ++ spell_from depth ps) ≡ length g + length (spell_from depth ps) = length-append g (spell_from depth ps) in
    let fits : at + 1 + length (codes ">" ++ g) + length (spell_from depth ps) < 2 ^ 32 = omega (arith, short, long) in
    let one : next_place at ≡ at + 1 = next_is at (omega (arith, fits)) in
    let two : next_place (at + 1) ≡ at + 1 + 1 = next_is (at + 1) (omega (arith, fits)) in
    let first : bracket t ≡ closed at = rw one refl in
    let second : bracket (after t k.Greater) ≡ closed (at + 1) = rw (one, two) refl in
    let both : (bracket t ∷ bracket (after t k.Greater) ∷ []) ≡ (closed at ∷ closed (at + 1) ∷ []) = rw (first, second) refl in
    let m : Moved fs tokens named (shift_right t (state fs tokens named)) (closed at ∷ closed (at + 1) ∷ []) r.0
    = subst (λ (ts : List Token). Moved fs tokens named (shift_right t (state fs tokens named)) ts r.0) both (shift_moves fs tokens named t s.0 r.0 s.1 r.1) in
    run_one t (cut_tokens later) later (closed at ∷ closed (at + 1) ∷ []) fs tokens named false r.0 m refl
    (λ gs inner shape. claim (at + 1 + length (codes ">" ++ g)) depth gs inner false (rw shape r.2) fits)

claim_pair : (p q : Piece) (ps : List Piece) → p ≡ Sign sign.TemplateClose → q ≡ Sign sign.TemplateClose → Claim ps → (at depth : ℕ) (fs : Frames) (tokens : List Token) (named : Bool) → bracketed_from (shapes fs) named (p ∷ q ∷ ps) ≡ true
    → at + length (spell_from depth (p ∷ q ∷ ps)) < 2 ^ 32
    → run (shift (token (meant_kind p) at (text p)) (token (meant_kind q) (place_after at depth p (q ∷ ps)) (text q))
    ∷ cut_tokens (meant_from (place_after (place_after at depth p (q ∷ ps)) (depth_after depth p) q ps) (depth_after (depth_after depth p) q) ps)) (state fs tokens named)
    ≡ Ok (full fs tokens ++ (token (meant_kind p) at (text p) ∷ token (meant_kind q) (place_after at depth p (q ∷ ps)) (text q)
    ∷ meant_from (place_after (place_after at depth p (q ∷ ps)) (depth_after depth p) q ps) (depth_after (depth_after depth p) q) ps))
claim_pair p q ps e f claim at depth fs tokens named h short = rw (e, f) (pair ps claim at depth fs tokens named (rw (e, f) at h) (rw (e, f) at short))

claim_two : (p q : Piece) (ps : List Piece) → Claim ps → Claim (q ∷ ps) → Claim (p ∷ q ∷ ps)
unfolding meant_from cut_tokens
claim_two p q ps claim claim_more at depth fs tokens named h short = by (is_closing (meant_kind p) && is_closing (meant_kind q)) refl
  where
    by : (v : Bool) → (is_closing (meant_kind p) && is_closing (meant_kind q)) ≡ v
        → run (if v
        then shift (token (meant_kind p) at (text p)) (token (meant_kind q) (place_after at depth p (q ∷ ps)) (text q))
        ∷ cut_tokens (meant_from (place_after (place_after at depth p (q ∷ ps)) (depth_after depth p) q ps) (depth_after (depth_after depth p) q) ps)
        else unmarked (token (meant_kind p) at (text p)) ∷ cut_tokens (meant_from (place_after at depth p (q ∷ ps)) (depth_after depth p) (q ∷ ps))) (state fs tokens named)
        ≡ Ok (full fs tokens ++ (token (meant_kind p) at (text p) ∷ meant_from (place_after at depth p (q ∷ ps)) (depth_after depth p) (q ∷ ps)))
    by true e =
        let both = and_parts (is_closing (meant_kind p)) (is_closing (meant_kind q)) e in
        claim_pair p q ps (closing p both.0) (closing q both.1) claim at depth fs tokens named h short
    by false e = next p (q ∷ ps) claim_more at depth fs tokens named h short

claim : (ps : List Piece) → Claim ps
claim [] = claim_nil
claim (p ∷ []) = claim_one p
claim (p ∷ q ∷ ps) = claim_two p q ps (claim ps) (claim (q ∷ ps))

pub templates_law : TemplatesLaw
unfolding with_templates
templates_law ps short h =
    let fits : 0 + length (spell ps) < 2 ^ 32 = omega (arith, short) in
    claim ps 0 0 [] [] false h fits

pub read_law : ReadLaw
read_law ps short good apart bracketed = rw (cut_law ps short good apart) (templates_law ps short bracketed)
