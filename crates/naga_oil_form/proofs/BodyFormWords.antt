use Rattle.std.proofs.Common.{Option, ◌≡◌, ℕ, zero, suc, ◌+◌, ◌-◌, ◌<◌, ◌≤◌, Bool, true, ◌||◌, ◌==◌, List, [], ◌∷◌, ◌++◌, length, slice_set, All, ap, sym, ◌∙◌, subst, arith, length-set, append-nil, append_assoc}
use Rattle.std.proofs.lemmas.List.Elements.{All-head, All-tail, All-nil, All-cons, All-weaker}
use Rattle.naga_oil_ir.specs.Body.{Tokens}
use Rattle.naga_oil_form.specs.Links.{Links, linked, is_marked, has, AreMarks}
use Rattle.naga_oil_form.specs.BodyForm.{run, places, made, is_external, is_known, known_by, AreEmitted, AreEmittedBy, marks_after, IsFine, IsFineBy, AreFine, AreFineBy}
use Rattle.naga_oil_ir.specs.declared.tokens.Token.{Token}
use Rattle.naga_oil_ir.specs.declared.tokens.Token.TheVariants.{Use, Give, GiveCall, Emitted}
use Rattle.naga_oil_form.proofs.LinkLemmas.{or_false, has-append, marked-set}
use Rattle.naga_oil_form.proofs.BodyFormLemmas.{length-marks_after}

-- ---- the test over marks is the test over lists

known_same : (ks : List ℕ) (ss gs : List Bool) (s d : List ℕ) → AreMarks ss s → AreMarks gs d → (h : ℕ) → known_by ks ss gs h ≡ is_known ks s d h
known_same ks ss gs s d m n h =
    ap (λ b. is_external ks h || (b || is_marked gs h)) (m h) ∙ ap (λ b. is_external ks h || (has s h || b)) (n h)

all_known : (ks : List ℕ) (ss gs : List Bool) (s d : List ℕ) → AreMarks ss s → AreMarks gs d → (xs : List ℕ) → (All (λ h. known_by ks ss gs h ≡ true) xs → All (λ h. is_known ks s d h ≡ true) xs) × (All (λ h. is_known ks s d h ≡ true) xs → All (λ h. known_by ks ss gs h ≡ true) xs)
all_known ks ss gs s d m n xs =
    (All-weaker (λ h. known_by ks ss gs h ≡ true) (λ h. is_known ks s d h ≡ true) (λ h e. sym (known_same ks ss gs s d m n h) ∙ e) xs, All-weaker (λ h. is_known ks s d h ≡ true) (λ h. known_by ks ss gs h ≡ true) (λ h e. known_same ks ss gs s d m n h ∙ e) xs)

AreMarks-push : (gs : List Bool) (d : List ℕ) (k : ℕ) → k < length gs → AreMarks gs d → AreMarks (slice_set gs k true) (d ++ k ∷ [])
AreMarks-push gs d k h m =
    λ j. marked-set gs k j h ∙ ap (λ b. b || (k == j)) (m j) ∙ sym (has-append d (k ∷ []) j ∙ ap (λ b. has d j || b) (or_false (k == j)))

-- the marks after places are those of the longer list
AreMarks-after : (gs : List Bool) (d xs : List ℕ) → All (λ k. k < length gs) xs → AreMarks gs d → AreMarks (marks_after gs xs) (d ++ xs)
AreMarks-after gs d [] a m = let Q : List ℕ → Type 0 = AreMarks gs in subst Q (sym (append-nil d)) m
AreMarks-after gs d (x ∷ xs) a m =
    let Q : List ℕ → Type 0 = AreMarks (marks_after (slice_set gs x true) xs) in
    let W : ℕ → Type 0 = λ n. All (λ k. k < n) xs in
    subst Q (append_assoc d (x ∷ []) xs) (AreMarks-after (slice_set gs x true) (d ++ x ∷ []) xs (subst W (sym (length-set gs x true)) (All-tail (λ k. k < length gs) x xs a)) (AreMarks-push gs d x (All-head (λ k. k < length gs) x xs a) m))

emitted_words : (ks : List ℕ) (ls : Links) (ss : List Bool) (s : List ℕ) → AreMarks ss s → (es : List ℕ) (gs : List Bool) (d : List ℕ) → AreMarks gs d → All (λ k. k < length gs) es → (AreEmittedBy ks ls ss gs es → AreEmitted ks ls s d es) × (AreEmitted ks ls s d es → AreEmittedBy ks ls ss gs es)
emitted_words ks ls ss s m [] gs d n a = (λ h. tt, λ h. tt)
emitted_words ks ls ss s m (k ∷ es) gs d n a =
    let W : ℕ → Type 0 = λ i. All (λ j. j < i) es in
    let rest = emitted_words ks ls ss s m es (slice_set gs k true) (d ++ k ∷ []) (AreMarks-push gs d k (All-head (λ j. j < length gs) k es a) n) (subst W (sym (length-set gs k true)) (All-tail (λ j. j < length gs) k es a)) in
    let known = all_known ks ss gs s d m n (linked ls k) in
    (λ h. ((h.0.0, h.0.1.0, sym (n k) ∙ h.0.1.1.0, known.0 h.0.1.1.1), rest.0 h.1), λ h. ((h.0.0, (h.0.1, (n k ∙ h.0.2, known.1 h.0.3))), rest.1 h.1))

run_below : (n a b : ℕ) → a + n ≤ b → All (λ k. k < b) (run a n)
run_below zero a b h = All-nil (λ k. k < b)
run_below (suc n) a b h = All-cons (λ k. k < b) a (run (suc a) n) (omega arith) (run_below n (suc a) b (omega arith))

places_below : (r : ℕ × ℕ) (b : ℕ) → r.0 ≤ r.1 → r.1 ≤ b → All (λ k. k < b) (places r)
places_below r b h i = run_below (r.1 - r.0) r.0 b (omega arith)

one_below : (k b : ℕ) → k < b → All (λ j. j < b) (k ∷ [])
one_below k b h = All-cons (λ j. j < b) k [] h (All-nil (λ j. j < b))

-- one part of a body
record PartWords (n : ℕ) (ks : List ℕ) (fs : List (Option ℕ)) (ls : Links) (ss gs : List Bool) (s d : List ℕ) (t : Token) : Type 0 where
  pub to : IsFineBy n ks fs ls ss gs t → IsFine n ks fs ls s d t
  pub from : IsFine n ks fs ls s d t → IsFineBy n ks fs ls ss gs t
  pub below : IsFine n ks fs ls s d t → All (λ k. k < n) (made t)

part_words : (n : ℕ) (ks : List ℕ) (fs : List (Option ℕ)) (ls : Links) (ss gs : List Bool) (s d : List ℕ) → AreMarks ss s → AreMarks gs d → length gs ≡ n → (t : Token) → PartWords n ks fs ls ss gs s d t
part_words n ks fs ls ss gs s d m g e (Use h) = record {
  to = λ i. (i.0, sym (known_same ks ss gs s d m g h) ∙ i.1);
  from = λ i. (i.0, known_same ks ss gs s d m g h ∙ i.1);
  below = λ i. All-nil (λ k. k < n);
}
part_words n ks fs ls ss gs s d m g e (Give h) = record {
  to = λ i. (i.0, i.1.0, i.1.1.0, sym (g h) ∙ i.1.1.1);
  from = λ i. (i.0, (i.1, (i.2, g h ∙ i.3)));
  below = λ i. one_below h n i.0;
}
part_words n ks fs ls ss gs s d m g e (GiveCall f h) = record {
  to = λ i. (i.0, i.1.0, i.1.1.0, sym (g h) ∙ i.1.1.1);
  from = λ i. (i.0, (i.1, (i.2, g h ∙ i.3)));
  below = λ i. one_below h n i.0;
}
part_words n ks fs ls ss gs s d m g e (Emitted r) =
    let W : ℕ → Type 0 = λ b. All (λ k. k < b) (places r) in
    record {
      to = λ i. (i.0, i.1.0, (emitted_words ks ls ss s m (places r) gs d g (subst W (sym e) (places_below r n i.0 i.1.0))).0 i.1.1);
      from = λ i. (i.0, (i.1, (emitted_words ks ls ss s m (places r) gs d g (subst W (sym e) (places_below r n i.0 i.1))).1 i.2));
      below = λ i. places_below r n i.0 i.1;
    }
part_words n ks fs ls ss gs s d m g e _ = record { to = λ i. tt; from = λ i. tt; below = λ i. All-nil (λ k. k < n) }

-- the whole body
pub fine_words : (n : ℕ) (ks : List ℕ) (fs : List (Option ℕ)) (ls : Links) (ss : List Bool) (s : List ℕ) → AreMarks ss s → (ts : Tokens) (gs : List Bool) (d : List ℕ) → AreMarks gs d → length gs ≡ n → (AreFineBy n ks fs ls ss gs ts → AreFine n ks fs ls s d ts) × (AreFine n ks fs ls s d ts → AreFineBy n ks fs ls ss gs ts)
fine_words n ks fs ls ss s m [] gs d g e = (λ h. tt, λ h. tt)
fine_words n ks fs ls ss s m (t ∷ ts) gs d g e =
    let W : ℕ → Type 0 = λ b. All (λ k. k < b) (made t) in
    let w = part_words n ks fs ls ss gs s d m g e t in
    let rest = λ (i : IsFine n ks fs ls s d t). fine_words n ks fs ls ss s m ts (marks_after gs (made t)) (d ++ made t) (AreMarks-after gs d (made t) (subst W (sym e) (w.below i)) g) (length-marks_after gs (made t) ∙ e) in
    (λ h. (w.to h.0, (rest (w.to h.0)).0 h.1), λ h. (w.from h.0, (rest h.0).1 h.1))
