-- What is open while template lists are discovered, and the state of the discovery.
use Rattle.std.proofs.Common.{◌≡◌, ℕ, ◌-◌, ◌≤◌, Bool, true, false, nat_lt, List, [], ◌∷◌, ◌++◌, length, take, map, Some, refl, sym, ap, ◌∙◌, arith, append_assoc}
use Rattle.std.proofs.lemmas.Bool.Decides.{nat_tests}
use Rattle.std.proofs.lemmas.List.{length-append, take_at, take_all, take-append-le, get_or_at, set_at}
use Rattle.yettuvam_wgsl_templates.specs.Finder.{State, opened, marked, no_token, last, front, is_open}
use Rattle.yettuvam_wgsl_words.specs.Scan.{Token}
use Rattle.yettuvam_wgsl_spell_laws.specs.Brackets.{Open, Template, Group, Comparison, Stack, closes_nothing, end_comparisons, close_group, end_all, has_no_list}

-- What is open, the tokens before it inside what is open around it, and the token that opens it.
pub record Frame : Type 0 where
  pub open_as : Open
  pub tokens : List Token
  pub token : Token

abbrev pub Frames : Type 0
Frames = List Frame

abbrev pub shapes : Frames → Stack
shapes fs = map (λ f. f.open_as) fs

-- the tokens that were read, of which those after the innermost opening are given
abbrev pub done : Frames → List Token → List Token
done [] tokens = tokens
done (f ∷ fs) tokens = done fs f.tokens ++ f.token ∷ tokens

abbrev pub meant_of : Open → Token → Token
meant_of Template token = opened token
meant_of Group token = token
meant_of Comparison token = token

-- the tokens that were meant
abbrev pub full : Frames → List Token → List Token
full [] tokens = tokens
full (f ∷ fs) tokens = full fs f.tokens ++ meant_of f.open_as f.token ∷ tokens

abbrev pub pending_by : Open → (place : ℕ) → List ℕ → List ℕ
pending_by Group place pending = pending
pending_by Template place pending = pending ++ place ∷ []
pending_by Comparison place pending = pending ++ place ∷ []

abbrev pub pending : Frames → List ℕ
pending [] = []
pending (f ∷ fs) = pending_by f.open_as (length (done fs f.tokens)) (pending fs)

abbrev pub base_by : Open → (count base : ℕ) → ℕ
base_by Group count base = count
base_by Template count base = base
base_by Comparison count base = base

abbrev pub base : Frames → ℕ
base [] = 0
base (f ∷ fs) = base_by f.open_as (length (pending fs)) (base fs)

abbrev pub bases_by : Open → (base : ℕ) → List ℕ → List ℕ
bases_by Group base bases = bases ++ base ∷ []
bases_by Template base bases = bases
bases_by Comparison base bases = bases

abbrev pub bases : Frames → List ℕ
bases [] = []
bases (f ∷ fs) = bases_by f.open_as (base fs) (bases fs)

abbrev pub state : Frames → List Token → Bool → State
state fs tokens named = record { done = done fs tokens; pending = pending fs; bases = bases fs; base = base fs; is_after_name = named }

-- ---- tokens

pub done_append : (fs : Frames) (xs ys : List Token) → done fs (xs ++ ys) ≡ done fs xs ++ ys
done_append [] xs ys = refl
done_append (f ∷ fs) xs ys = sym (append_assoc (done fs f.tokens) (f.token ∷ xs) ys)

pub full_append : (fs : Frames) (xs ys : List Token) → full fs (xs ++ ys) ≡ full fs xs ++ ys
full_append [] xs ys = refl
full_append (f ∷ fs) xs ys = sym (append_assoc (full fs f.tokens) (meant_of f.open_as f.token ∷ xs) ys)

-- without open lists, all tokens are those that were meant
pub is_full : (fs : Frames) (tokens : List Token) → has_no_list (shapes fs) ≡ true → done fs tokens ≡ full fs tokens
is_full [] tokens h = refl
is_full (f ∷ fs) tokens h = by f.open_as h (is_full fs f.tokens)
  where
    by : (o : Open) → has_no_list (o ∷ shapes fs) ≡ true → (has_no_list (shapes fs) ≡ true → done fs f.tokens ≡ full fs f.tokens) → done fs f.tokens ++ f.token ∷ tokens ≡ full fs f.tokens ++ meant_of o f.token ∷ tokens
    by Template e rest = cc
    by Group e rest = ap (λ (x : List Token). x ++ f.token ∷ tokens) (rest e)
    by Comparison e rest = ap (λ (x : List Token). x ++ f.token ∷ tokens) (rest e)

-- ---- numbers

pub base_below : (fs : Frames) → base fs ≤ length (pending fs)
base_below [] = omega arith
base_below (f ∷ fs) = by f.open_as (base_below fs)
  where
    n : ℕ
    n = length (done fs f.tokens)

    by : (o : Open) → base fs ≤ length (pending fs) → base_by o (length (pending fs)) (base fs) ≤ length (pending_by o (length (done fs f.tokens)) (pending fs))
    by Template h = omega (arith, h, length-append (pending fs) (length (done fs f.tokens) ∷ []))
    by Comparison h = omega (arith, h, length-append (pending fs) (length (done fs f.tokens) ∷ []))
    by Group h = omega arith

pub last_of : (xs : List ℕ) (n : ℕ) → last (xs ++ n ∷ []) ≡ n
last_of xs n = let l : length (xs ++ n ∷ []) - 1 ≡ length xs = omega (arith, length-append xs (n ∷ [])) in rw l (get_or_at xs n [] 0 (length xs) refl)

pub front_of : (xs : List ℕ) (n : ℕ) → front (xs ++ n ∷ []) ≡ xs
front_of xs n = let l : length (xs ++ n ∷ []) - 1 ≡ length xs = omega (arith, length-append xs (n ∷ [])) in rw l (take_at xs (n ∷ []) (length xs) refl)

pub marked_at : (xs : List Token) (t : Token) (ys : List Token) → marked (length xs) (xs ++ t ∷ ys) ≡ xs ++ opened t ∷ ys
marked_at xs t ys =
    let l : nat_lt (length xs) (length (xs ++ t ∷ ys)) ≡ true = grind (arith, nat_tests, length-append xs (t ∷ ys)) in
    rw (l, get_or_at xs t ys no_token (length xs) refl) (set_at xs t ys (opened t) (length xs) refl)

-- a `>` closes nothing
pub is_closed : (fs : Frames) (tokens : List Token) (named : Bool) → closes_nothing (shapes fs) ≡ true → is_open (state fs tokens named) ≡ false
is_closed [] tokens named h = refl
is_closed (f ∷ fs) tokens named h = by f.open_as h
  where
    by : (o : Open) → closes_nothing (o ∷ shapes fs) ≡ true → nat_lt (base_by o (length (pending fs)) (base fs)) (length (pending_by o (length (done fs f.tokens)) (pending fs))) ≡ false
    by Template e = cc
    by Comparison e = cc
    by Group e = grind (arith, nat_tests)

-- ---- what ends

-- Other frames with the same tokens.
pub record Ends (fs : Frames) (tokens : List Token) (stack : Stack) (pending_after : List ℕ) (base_after : ℕ) (bases_after : List ℕ) : Type 0 where
  pub frames : Frames
  pub inner : List Token
  pub shape : shapes frames ≡ stack
  pub same_done : done frames inner ≡ done fs tokens
  pub same_full : full frames inner ≡ full fs tokens
  pub same_pending : pending frames ≡ pending_after
  pub same_base : base frames ≡ base_after
  pub same_bases : bases frames ≡ bases_after

some_same : (a b : Stack) → Some a ≡ Some b → a ≡ b
some_same a b e = cc

comparisons_end_by : (f : Frame) (fs : Frames) (tokens : List Token) (stack : Stack) → ((inner : List Token) → end_comparisons (shapes fs) ≡ Some stack → Ends fs inner stack (take (base fs) (pending fs)) (base fs) (bases fs))
    → (o : Open) → f.open_as ≡ o → end_comparisons (o ∷ shapes fs) ≡ Some stack → Ends (f ∷ fs) tokens stack (take (base (f ∷ fs)) (pending (f ∷ fs))) (base (f ∷ fs)) (bases (f ∷ fs))
comparisons_end_by f fs tokens stack rest Template o e = cc
comparisons_end_by f fs tokens stack rest Group o e = record {
  frames = f ∷ fs;
  inner = tokens;
  shape = rw o (some_same _ _ e);
  same_done = refl;
  same_full = refl;
  same_pending = rw o (sym (take_all (length (pending fs)) (pending fs) (omega arith)));
  same_base = refl;
  same_bases = refl;
}
comparisons_end_by f fs tokens stack rest Comparison o e =
    let r = rest (f.tokens ++ f.token ∷ tokens) e in
    let d = done_append fs f.tokens (f.token ∷ tokens) in
    let u = full_append fs f.tokens (f.token ∷ tokens) in
    record {
      frames = r.frames;
      inner = r.inner;
      shape = r.shape;
      same_done = r.same_done ∙ d;
      same_full = rw o (r.same_full ∙ u);
      same_pending = rw o (r.same_pending ∙ sym (take-append-le (base fs) (pending fs) (length (done fs f.tokens) ∷ []) (base_below fs)));
      same_base = rw o (r.same_base);
      same_bases = rw o (r.same_bases);
    }

pub comparisons_end : (fs : Frames) (tokens : List Token) (stack : Stack) → end_comparisons (shapes fs) ≡ Some stack → Ends fs tokens stack (take (base fs) (pending fs)) (base fs) (bases fs)
comparisons_end [] tokens stack e = record { frames = []; inner = tokens; shape = some_same _ _ e; same_done = refl; same_full = refl; same_pending = refl; same_base = refl; same_bases = refl }
comparisons_end (f ∷ fs) tokens stack e = comparisons_end_by f fs tokens stack (λ inner. comparisons_end fs inner stack) f.open_as refl e

group_ends_by : (f : Frame) (fs : Frames) (tokens : List Token) (stack : Stack) → ((inner : List Token) → close_group (shapes fs) ≡ Some stack → Ends fs inner stack (take (base fs) (pending fs)) (last (bases fs)) (front (bases fs)))
    → (o : Open) → f.open_as ≡ o → close_group (o ∷ shapes fs) ≡ Some stack → Ends (f ∷ fs) tokens stack (take (base (f ∷ fs)) (pending (f ∷ fs))) (last (bases (f ∷ fs))) (front (bases (f ∷ fs)))
group_ends_by f fs tokens stack rest Template o e = cc
group_ends_by f fs tokens stack rest Group o e = record {
  frames = fs;
  inner = f.tokens ++ f.token ∷ tokens;
  shape = some_same _ _ e;
  same_done = done_append fs f.tokens (f.token ∷ tokens);
  same_full = rw o (full_append fs f.tokens (f.token ∷ tokens));
  same_pending = rw o (sym (take_all (length (pending fs)) (pending fs) (omega arith)));
  same_base = rw o (sym (last_of (bases fs) (base fs)));
  same_bases = rw o (sym (front_of (bases fs) (base fs)));
}
group_ends_by f fs tokens stack rest Comparison o e =
    let r = rest (f.tokens ++ f.token ∷ tokens) e in
    let d = done_append fs f.tokens (f.token ∷ tokens) in
    let u = full_append fs f.tokens (f.token ∷ tokens) in
    record {
      frames = r.frames;
      inner = r.inner;
      shape = r.shape;
      same_done = r.same_done ∙ d;
      same_full = rw o (r.same_full ∙ u);
      same_pending = rw o (r.same_pending ∙ sym (take-append-le (base fs) (pending fs) (length (done fs f.tokens) ∷ []) (base_below fs)));
      same_base = rw o (r.same_base);
      same_bases = rw o (r.same_bases);
    }

pub group_ends : (fs : Frames) (tokens : List Token) (stack : Stack) → close_group (shapes fs) ≡ Some stack → Ends fs tokens stack (take (base fs) (pending fs)) (last (bases fs)) (front (bases fs))
group_ends [] tokens stack e = record { frames = []; inner = tokens; shape = some_same _ _ e; same_done = refl; same_full = refl; same_pending = refl; same_base = refl; same_bases = refl }
group_ends (f ∷ fs) tokens stack e = group_ends_by f fs tokens stack (λ inner. group_ends fs inner stack) f.open_as refl e

-- nothing is open after all has ended, and no list was open before
pub all_end : (stack after : Stack) → end_all stack ≡ Some after → (after ≡ []) × (has_no_list stack ≡ true)
all_end [] after e = (sym (some_same [] after e), refl)
all_end (Template ∷ stack) after e = cc
all_end (Group ∷ stack) after e = all_end stack after e
all_end (Comparison ∷ stack) after e = all_end stack after e
