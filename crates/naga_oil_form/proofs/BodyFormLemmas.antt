use Rattle.std.proofs.Common.{Option, Some, slice_get, drop, drop-cons, ◌≡◌, ℕ, suc, ◌+◌, ◌-◌, ◌<◌, ◌≤◌, Bool, true, List, [], ◌∷◌, length, slice_set, refl, ap, sym, ◌∙◌, subst, arith, length-set}
use Rattle.std.proofs.lemmas.List.{drop_all}
use Rattle.naga_oil_form.specs.Links.{Links, linked}
use Rattle.std.proofs.lemmas.Option.{slice_get_within, get_or_from_slice_get}
use Rattle.naga_oil_ir.specs.Body.{Tokens}
use Rattle.naga_oil_ir.specs.declared.tokens.Token.{Token}
use Rattle.naga_oil_form.specs.BodyForm.{run, places, made, MayBeEmitted, AreEmittedBy, marks_after, IsFineBy, AreFineBy}

-- a run begins with its first number
pub run-next : (p b : ℕ) → p < b → run p (b - p) ≡ p ∷ run (p + 1) (b - (p + 1))
run-next p b h =
    let n : b - p ≡ suc (b - (p + 1)) = omega arith in
    let q : suc p ≡ p + 1 = omega arith in
    ap (run p) n ∙ ap (λ i. p ∷ run i (b - (p + 1))) q

pub run-end : (p b : ℕ) → b ≤ p → run p (b - p) ≡ []
run-end p b h = let n : b - p ≡ 0 = omega arith in ap (run p) n

-- how far a walk over a range has come: gs were the marks, hs are the marks now
pub record IsEmitting (ks : List ℕ) (ls : Links) (fs gs hs : List Bool) (r : ℕ × ℕ) (p : ℕ) : Type 0 where
  pub there : AreEmittedBy ks ls fs gs (places r) → AreEmittedBy ks ls fs hs (run p (r.1 - p))
  pub back : AreEmittedBy ks ls fs hs (run p (r.1 - p)) → AreEmittedBy ks ls fs gs (places r)
  pub marks : marks_after gs (places r) ≡ marks_after hs (run p (r.1 - p))

pub IsEmitting-start : (ks : List ℕ) (ls : Links) (fs gs : List Bool) (r : ℕ × ℕ) → IsEmitting ks ls fs gs gs r r.0
IsEmitting-start ks ls fs gs r = record { there = λ h. h; back = λ h. h; marks = refl }

pub IsEmitting-here : (ks : List ℕ) (ls : Links) (fs gs hs : List Bool) (r : ℕ × ℕ) (p : ℕ) → IsEmitting ks ls fs gs hs r p → p < r.1 → AreEmittedBy ks ls fs gs (places r) → MayBeEmitted ks fs hs (linked ls p) p
IsEmitting-here ks ls fs gs hs r p w h a =
    let Q : List ℕ → Type 0 = AreEmittedBy ks ls fs hs in
    (subst Q (run-next p r.1 h) (w.there a)).0

pub IsEmitting-step : (ks : List ℕ) (ls : Links) (fs gs hs : List Bool) (r : ℕ × ℕ) (p : ℕ) → IsEmitting ks ls fs gs hs r p → p < r.1 → MayBeEmitted ks fs hs (linked ls p) p → IsEmitting ks ls fs gs (slice_set hs p true) r (p + 1)
IsEmitting-step ks ls fs gs hs r p w h m =
    let Q : List ℕ → Type 0 = AreEmittedBy ks ls fs hs in
    record {
      there = λ a. (subst Q (run-next p r.1 h) (w.there a)).1;
      back = λ a. w.back (subst Q (sym (run-next p r.1 h)) (m, a));
      marks = w.marks ∙ ap (marks_after hs) (run-next p r.1 h);
    }

pub IsEmitting-fine : (ks : List ℕ) (ls : Links) (fs gs hs : List Bool) (r : ℕ × ℕ) (p : ℕ) → IsEmitting ks ls fs gs hs r p → r.1 ≤ p → AreEmittedBy ks ls fs gs (places r)
IsEmitting-fine ks ls fs gs hs r p w h =
    let Q : List ℕ → Type 0 = AreEmittedBy ks ls fs hs in
    w.back (subst Q (sym (run-end p r.1 h)) tt)

pub IsEmitting-marks : (ks : List ℕ) (ls : Links) (fs gs hs : List Bool) (r : ℕ × ℕ) (p : ℕ) → IsEmitting ks ls fs gs hs r p → r.1 ≤ p → hs ≡ marks_after gs (places r)
IsEmitting-marks ks ls fs gs hs r p w h = sym (w.marks ∙ ap (marks_after hs) (run-end p r.1 h))

pub length-marks_after : (gs : List Bool) (ks : List ℕ) → length (marks_after gs ks) ≡ length gs
length-marks_after gs [] = refl
length-marks_after gs (k ∷ ks) = length-marks_after (slice_set gs k true) ks ∙ length-set gs k true

pub emitted_same : (ks : List ℕ) (fs gs hs : List Bool) (xs ys : List ℕ) (k : ℕ) → gs ≡ hs → xs ≡ ys → MayBeEmitted ks fs gs xs k → MayBeEmitted ks fs hs ys k
emitted_same ks fs gs hs xs ys k e f m =
    let P : List Bool → Type 0 = λ ms. MayBeEmitted ks fs ms xs k in
    let Q : List ℕ → Type 0 = λ zs. MayBeEmitted ks fs hs zs k in
    subst Q f (subst P e m)

-- how far a walk over a body has come: gs were the marks, hs are the marks now, i parts are done
pub record IsWalking (n : ℕ) (ks : List ℕ) (fs : List (Option ℕ)) (ls : Links) (ss gs hs : List Bool) (ts : Tokens) (i : ℕ) : Type 0 where
  pub there : AreFineBy n ks fs ls ss gs ts → AreFineBy n ks fs ls ss hs (drop i ts)
  pub back : AreFineBy n ks fs ls ss hs (drop i ts) → AreFineBy n ks fs ls ss gs ts

pub IsWalking-start : (n : ℕ) (ks : List ℕ) (fs : List (Option ℕ)) (ls : Links) (ss gs : List Bool) (ts : Tokens) → IsWalking n ks fs ls ss gs gs ts 0
IsWalking-start n ks fs ls ss gs ts = record { there = λ h. h; back = λ h. h }

drop-at : (ts : Tokens) (i : ℕ) (t : Token) → slice_get ts i ≡ Some t → drop i ts ≡ t ∷ drop (i + 1) ts
drop-at ts i t h =
    let lt = slice_get_within ts i t h in
    let q : suc i ≡ i + 1 = omega arith in
    drop-cons ts i t lt ∙ ap (λ x. x ∷ drop (suc i) ts) (get_or_from_slice_get ts i t t h) ∙ ap (λ j. t ∷ drop j ts) q

pub IsWalking-here : (n : ℕ) (ks : List ℕ) (fs : List (Option ℕ)) (ls : Links) (ss gs hs : List Bool) (ts : Tokens) (i : ℕ) (t : Token) → IsWalking n ks fs ls ss gs hs ts i → slice_get ts i ≡ Some t → AreFineBy n ks fs ls ss gs ts → IsFineBy n ks fs ls ss hs t
IsWalking-here n ks fs ls ss gs hs ts i t w h a =
    let Q : Tokens → Type 0 = AreFineBy n ks fs ls ss hs in
    (subst Q (drop-at ts i t h) (w.there a)).0

pub IsWalking-step : (n : ℕ) (ks : List ℕ) (fs : List (Option ℕ)) (ls : Links) (ss gs hs is : List Bool) (ts : Tokens) (i : ℕ) (t : Token) → IsWalking n ks fs ls ss gs hs ts i → slice_get ts i ≡ Some t → IsFineBy n ks fs ls ss hs t → is ≡ marks_after hs (made t) → IsWalking n ks fs ls ss gs is ts (i + 1)
IsWalking-step n ks fs ls ss gs hs is ts i t w h m e =
    let Q : Tokens → Type 0 = AreFineBy n ks fs ls ss hs in
    let R : List Bool → Type 0 = λ ms. AreFineBy n ks fs ls ss ms (drop (i + 1) ts) in
    record {
      there = λ a. subst R (sym e) (subst Q (drop-at ts i t h) (w.there a)).1;
      back = λ a. w.back (subst Q (sym (drop-at ts i t h)) (m, subst R e a));
    }

pub IsWalking-fine : (n : ℕ) (ks : List ℕ) (fs : List (Option ℕ)) (ls : Links) (ss gs hs : List Bool) (ts : Tokens) (i : ℕ) → IsWalking n ks fs ls ss gs hs ts i → length ts ≤ i → AreFineBy n ks fs ls ss gs ts
IsWalking-fine n ks fs ls ss gs hs ts i w h =
    let Q : Tokens → Type 0 = AreFineBy n ks fs ls ss hs in
    w.back (subst Q (sym (drop_all i ts h)) tt)
