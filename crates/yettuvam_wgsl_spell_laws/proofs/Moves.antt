-- One token in the discovery of template lists.
use Rattle.std.proofs.Common.{◌≡◌, ℕ, Bool, true, false, nat_lt, if◌then◌else◌, List, [], ◌∷◌, ◌++◌, length, Option, Some, None, Ok, refl, sym, ap, subst, ◌∙◌, arith, append_assoc}
use Rattle.std.proofs.lemmas.Bool.Decides.{nat_tests}
use Rattle.std.proofs.lemmas.List.{length-append}
use Rattle.yettuvam_wgsl_templates.specs.Finder.{Outcome, opened, bracket, after, keep, is_open, cleared, close, greater, greater_equal, shift_right, shift_right_equal, less, opening, closing, logic, ending, act, may_be_followed}
use Rattle.yettuvam_wgsl_words.specs.declared.token.Kind.{Kind}
use Rattle.yettuvam_wgsl_words.specs.declared.token.Kind.TheVariants as k
use Rattle.yettuvam_wgsl_words.specs.Class.{Text}
use Rattle.yettuvam_wgsl_words.specs.Scan.{Token}
use Rattle.yettuvam_wgsl_spell_laws.specs.Brackets.{Open, Template, Group, Comparison, Stack, closes_nothing, close_list, end_comparisons, close_group, end_all, if_closes_nothing, open_after}
use Rattle.yettuvam_wgsl_spell_laws.specs.Meant.{token, kind_cut}
use Rattle.yettuvam_wgsl_spell_laws.proofs.Frames.{Frame, Frames, shapes, done, full, pending, base, state, done_append, full_append, is_full, base_below, front_of, last_of, marked_at, is_closed, Ends, comparisons_end, group_ends, all_end}

-- Tokens were read as they were meant: the frames after them.
pub record Moved (fs : Frames) (tokens : List Token) (named : Bool) (outcome : Outcome) (meant : List Token) (stack : Stack) : Type 0 where
  pub frames : Frames
  pub inner : List Token
  pub shape : shapes frames ≡ stack
  pub acted : outcome ≡ Ok (tt, state frames inner named)
  pub kept : full frames inner ≡ full fs tokens ++ meant

some_same : (a b : Stack) → Some a ≡ Some b → a ≡ b
some_same a b e = cc

keep_moves : (fs : Frames) (tokens : List Token) (named : Bool) (t : Token) (stack : Stack) → Some (shapes fs) ≡ Some stack → Moved fs tokens named (keep t (state fs tokens named)) (t ∷ []) stack
keep_moves fs tokens named t stack e = record {
  frames = fs;
  inner = tokens ++ t ∷ [];
  shape = some_same _ _ e;
  acted = rw (done_append fs tokens (t ∷ [])) refl;
  kept = full_append fs tokens (t ∷ []);
}

if_closed : (fs : Frames) (next : Option Stack) (stack : Stack) → if_closes_nothing (shapes fs) next ≡ Some stack → (closes_nothing (shapes fs) ≡ true) × (next ≡ Some stack)
if_closed fs next stack e = by (closes_nothing (shapes fs)) refl e
  where
    by : (v : Bool) → closes_nothing (shapes fs) ≡ v → (if v then next else None) ≡ Some stack → (closes_nothing (shapes fs) ≡ true) × (next ≡ Some stack)
    by true f g = (f, g)
    by false f g = cc

-- all ends
cleared_moves : (fs : Frames) (tokens : List Token) (named : Bool) (t : Token) (stack : Stack) → end_all (shapes fs) ≡ Some stack → Moved fs tokens named (keep t (cleared (state fs tokens named))) (t ∷ []) stack
cleared_moves fs tokens named t stack e =
    let a = all_end (shapes fs) stack e in
    record { frames = []; inner = done fs tokens ++ t ∷ []; shape = sym a.0; acted = refl; kept = rw (is_full fs tokens a.1) refl }

less_moves : (fs : Frames) (tokens : List Token) (named : Bool) (t : Token) (stack : Stack) → Some (if named then Comparison ∷ shapes fs else shapes fs) ≡ Some stack → Moved fs tokens named (less t (state fs tokens named)) (t ∷ []) stack
unfolding less
less_moves fs tokens true t stack e = record { frames = (record { open_as = Comparison; tokens = tokens; token = t }) ∷ fs; inner = []; shape = some_same _ _ e; acted = refl; kept = refl }
less_moves fs tokens false t stack e = keep_moves fs tokens false t stack e

open_moves : (fs : Frames) (tokens : List Token) (named : Bool) (t : Token) (stack : Stack) → (if named then Some (Template ∷ shapes fs) else None) ≡ Some stack → Moved fs tokens named (less t (state fs tokens named)) (opened t ∷ []) stack
unfolding less
open_moves fs tokens true t stack e = record { frames = (record { open_as = Template; tokens = tokens; token = t }) ∷ fs; inner = []; shape = some_same _ _ e; acted = refl; kept = refl }
open_moves fs tokens false t stack e = cc

opening_moves : (fs : Frames) (tokens : List Token) (named : Bool) (t : Token) (stack : Stack) → Some (Group ∷ shapes fs) ≡ Some stack → Moved fs tokens named (opening t (state fs tokens named)) (t ∷ []) stack
unfolding opening
opening_moves fs tokens named t stack e = record { frames = (record { open_as = Group; tokens = tokens; token = t }) ∷ fs; inner = []; shape = some_same _ _ e; acted = refl; kept = refl }

-- a token after what has ended
ends_moves : (fs : Frames) (tokens : List Token) (named : Bool) (t : Token) (stack : Stack) (pending_after : List ℕ) (base_after : ℕ) (bases_after : List ℕ) → Ends fs tokens stack pending_after base_after bases_after
    → Moved fs tokens named (keep t (record { done = done fs tokens; pending = pending_after; bases = bases_after; base = base_after; is_after_name = named })) (t ∷ []) stack
ends_moves fs tokens named t stack pending_after base_after bases_after e = record {
  frames = e.frames;
  inner = e.inner ++ t ∷ [];
  shape = e.shape;
  acted = rw (← e.same_pending, ← e.same_base, ← e.same_bases, ← e.same_done, done_append e.frames e.inner (t ∷ [])) refl;
  kept = full_append e.frames e.inner (t ∷ []) ∙ ap (λ (x : List Token). x ++ t ∷ []) e.same_full;
}

closing_moves : (fs : Frames) (tokens : List Token) (named : Bool) (t : Token) (stack : Stack) → close_group (shapes fs) ≡ Some stack → Moved fs tokens named (closing t (state fs tokens named)) (t ∷ []) stack
unfolding closing
closing_moves fs tokens named t stack e = ends_moves fs tokens named t stack _ _ _ (group_ends fs tokens stack e)

logic_moves : (fs : Frames) (tokens : List Token) (named : Bool) (t : Token) (stack : Stack) → end_comparisons (shapes fs) ≡ Some stack → Moved fs tokens named (logic t (state fs tokens named)) (t ∷ []) stack
unfolding logic
logic_moves fs tokens named t stack e = ends_moves fs tokens named t stack _ _ _ (comparisons_end fs tokens stack e)

-- a closing bracket
close_frame : (f : Frame) (fs : Frames) (tokens : List Token) (named : Bool) (t : Token) (stack : Stack) → (o : Open) → f.open_as ≡ o → close_list (o ∷ shapes fs) ≡ Some stack
    → (is_open (state (f ∷ fs) tokens named) ≡ true) × Moved (f ∷ fs) tokens named (close t (state (f ∷ fs) tokens named)) (bracket t ∷ []) stack
unfolding close
close_frame f fs tokens named t stack Group o e = cc
close_frame f fs tokens named t stack Comparison o e = cc
close_frame f fs tokens named t stack Template o e =
    let place : ℕ = length (done fs f.tokens) in
    let below : nat_lt (base fs) (length (pending fs ++ place ∷ [])) ≡ true = grind (arith, nat_tests, base_below fs, length-append (pending fs) (place ∷ [])) in (
      rw o below,
      record {
        frames = fs;
        inner = (f.tokens ++ opened f.token ∷ tokens) ++ bracket t ∷ [];
        shape = some_same _ _ e;
        acted = rw (o, front_of (pending fs) place, last_of (pending fs) place, marked_at (done fs f.tokens) f.token tokens)
            (rw (done_append fs (f.tokens ++ opened f.token ∷ tokens) (bracket t ∷ []), done_append fs f.tokens (opened f.token ∷ tokens)) refl);
        kept = rw o (full_append fs (f.tokens ++ opened f.token ∷ tokens) (bracket t ∷ []) ∙ ap (λ (x : List Token). x ++ bracket t ∷ []) (full_append fs f.tokens (opened f.token ∷ tokens)));
      },
    )

close_moves : (fs : Frames) (tokens : List Token) (named : Bool) (t : Token) (stack : Stack) → close_list (shapes fs) ≡ Some stack
    → (is_open (state fs tokens named) ≡ true) × Moved fs tokens named (close t (state fs tokens named)) (bracket t ∷ []) stack
close_moves [] tokens named t stack e = cc
close_moves (f ∷ fs) tokens named t stack e = close_frame f fs tokens named t stack f.open_as refl e

pub greater_moves : (fs : Frames) (tokens : List Token) (named : Bool) (t : Token) (stack : Stack) → close_list (shapes fs) ≡ Some stack → Moved fs tokens named (greater t (state fs tokens named)) (bracket t ∷ []) stack
unfolding greater
greater_moves fs tokens named t stack e = let c = close_moves fs tokens named t stack e in rw c.0 c.1

not_closing : (fs : Frames) (tokens : List Token) (named : Bool) (t : Token) (stack : Stack) → if_closes_nothing (shapes fs) (Some (shapes fs)) ≡ Some stack → (is_open (state fs tokens named) ≡ false) × Moved fs tokens named (keep t (state fs tokens named)) (t ∷ []) stack
not_closing fs tokens named t stack e = let c = if_closed fs _ stack e in (is_closed fs tokens named c.0, keep_moves fs tokens named t stack c.1)

-- two closing brackets in one token
pub shift_moves : (fs : Frames) (tokens : List Token) (named : Bool) (t : Token) (stack stack_after : Stack) → close_list (shapes fs) ≡ Some stack → close_list stack ≡ Some stack_after
    → Moved fs tokens named (shift_right t (state fs tokens named)) (bracket t ∷ bracket (after t k.Greater) ∷ []) stack_after
unfolding shift_right
shift_moves fs tokens named t stack stack_after e f =
    let c = close_moves fs tokens named t stack e in
    let m = c.1 in
    let g = greater_moves m.frames m.inner named (after t k.Greater) stack_after (rw m.shape f) in
    record {
      frames = g.frames;
      inner = g.inner;
      shape = g.shape;
      acted = rw (c.0, m.acted) g.acted;
      kept = g.kept ∙ ap (λ (x : List Token). x ++ bracket (after t k.Greater) ∷ []) m.kept ∙ append_assoc (full fs tokens) (bracket t ∷ []) (bracket (after t k.Greater) ∷ []);
    }

pub moves : (kind : Kind) (at : ℕ) (z : Text) (fs : Frames) (tokens : List Token) (named : Bool) (stack : Stack)
    → (kind ≡ k.TemplateClose → bracket (token k.Greater at z) ≡ token k.TemplateClose at z) → open_after kind named (shapes fs) ≡ Some stack
    → Moved fs tokens named (act (token (kind_cut kind) at z) (state fs tokens named)) (token kind at z ∷ []) stack
unfolding act greater greater_equal shift_right shift_right_equal ending
moves k.TemplateOpen at z fs tokens named stack h e = open_moves fs tokens named (token k.Less at z) stack e
moves k.TemplateClose at z fs tokens named stack h e =
    subst (λ (t : Token). Moved fs tokens named (greater (token k.Greater at z) (state fs tokens named)) (t ∷ []) stack) (h refl) (greater_moves fs tokens named (token k.Greater at z) stack e)
moves k.Less at z fs tokens named stack h e = less_moves fs tokens named (token k.Less at z) stack e
moves k.Greater at z fs tokens named stack h e = let c = not_closing fs tokens named (token k.Greater at z) stack e in rw c.0 c.1
moves k.GreaterEqual at z fs tokens named stack h e = let c = not_closing fs tokens named (token k.GreaterEqual at z) stack e in rw c.0 c.1
moves k.ShiftRight at z fs tokens named stack h e = let c = not_closing fs tokens named (token k.ShiftRight at z) stack e in rw c.0 c.1
moves k.ShiftRightEqual at z fs tokens named stack h e = let c = if_closed fs _ stack e in rw (is_closed fs tokens named c.0) (cleared_moves fs tokens named (token k.ShiftRightEqual at z) stack c.1)
moves k.OpenParenthesis at z fs tokens named stack h e = opening_moves fs tokens named (token k.OpenParenthesis at z) stack e
moves k.OpenBracket at z fs tokens named stack h e = opening_moves fs tokens named (token k.OpenBracket at z) stack e
moves k.CloseParenthesis at z fs tokens named stack h e = closing_moves fs tokens named (token k.CloseParenthesis at z) stack e
moves k.CloseBracket at z fs tokens named stack h e = closing_moves fs tokens named (token k.CloseBracket at z) stack e
moves k.AndAnd at z fs tokens named stack h e = logic_moves fs tokens named (token k.AndAnd at z) stack e
moves k.OrOr at z fs tokens named stack h e = logic_moves fs tokens named (token k.OrOr at z) stack e
moves k.Equal at z fs tokens named stack h e = cleared_moves fs tokens named (token k.Equal at z) stack e
moves k.Semicolon at z fs tokens named stack h e = cleared_moves fs tokens named (token k.Semicolon at z) stack e
moves k.Colon at z fs tokens named stack h e = cleared_moves fs tokens named (token k.Colon at z) stack e
moves k.OpenBrace at z fs tokens named stack h e = cleared_moves fs tokens named (token k.OpenBrace at z) stack e
moves kind at z fs tokens named stack h e = keep_moves fs tokens named (token kind at z) stack e

-- a list may follow the same tokens
pub followed : (kind : Kind) → may_be_followed (kind_cut kind) ≡ may_be_followed kind
followed k.TemplateOpen = refl
followed k.TemplateClose = refl
followed _ = refl
