-- Answers whose faults lie at a place.
use Rattle.std.proofs.Common.{◌≡◌, ◌∙◌, Option, Some, None, MatchOption, Result, Ok, Err, IsErrAnd, sym, ap, subst}
use Rattle.naga_oil_conditions.specs.Fault.{Fault}
use Rattle.naga_oil_conditions.specs.View.{fault_of, Fails, Gives}
use Rattle.naga_oil_conditions.specs.declared.fault.ComposerErrorInner.{ComposerErrorInner}
use Rattle.naga_oil_words.specs.ResultSteps.{◌>>=◌}
use Rattle.naga_oil.specs.MakeView.{PlacesAs}
use Rattle.naga_oil.specs.Refused.{Place, Refused, Answers, Tells, refused_of, place_of, nowhere, placed}
use Rattle.naga_oil.specs.declared.compose.error.ComposerError.{ComposerError}
use Rattle.naga_oil.proofs.AddsLemmas.{IsRefusal}

-- an error that reports one value's fault reports that of another that is refused alike
pub tells_on : {Y Z : Type 0} (e : ComposerError) (v : Result Y Refused) (w : Result Z Refused) → ((r : Refused) → v ≡ Err r → w ≡ Err r) → Tells e v → Tells e w
tells_on e v w up h = go (refused_of e) h
  where
    go : (o : Option Refused) → MatchOption o (place_of e.source ≡ nowhere) (λ r. v ≡ Err r) → MatchOption o (place_of e.source ≡ nowhere) (λ r. w ≡ Err r)
    go None k = k
    go (Some r) k = up r k

-- a fault of a text is reported at its place
pub tells_placed : {Y : Type 0} (inner : ComposerErrorInner) (e : ComposerError) (place : Place) (value : Result Y Fault) → IsRefusal inner e place → Fails inner value → Tells e (placed place value)
tells_placed inner e place value is fails = go (refused_of e) is
  where
    go : (o : Option Refused) → MatchOption o (place_of e.source ≡ nowhere) (λ r. (fault_of inner ≡ Some r.fault) × (r.place ≡ place)) → MatchOption o (place_of e.source ≡ nowhere) (λ r. placed place value ≡ Err r)
    go None h = h
    go (Some r) h =
        let bad : value ≡ Err r.fault = subst (λ (o : Option Fault). MatchOption o (Unit {0}) (λ f. value ≡ Err f)) h.0 fails in
        ap (placed place) bad ∙ ap (λ (p : Place). Err (record { fault = r.fault; place = p })) (sym h.1)

-- an answer with a place
pub answers_placed : {X Y : Type 0} (view : X → Y) (place : Place) (answer : Result X ComposerErrorInner) (result : Result X ComposerError) (value : Result Y Fault) → PlacesAs place answer result → Gives view answer value → Answers view result (placed place value)
answers_placed view place (Ok x) result value is gives = subst (λ r. Answers view r (placed place value)) (sym is) (ap (placed place) gives)
answers_placed view place (Err inner) (Ok x) value is gives = absurd is
answers_placed view place (Err inner) (Err e) value is gives = tells_placed inner e place value is gives

-- an error is passed on
pub answers_err : {Y Z W : Type 0} (view : Z → W) (e : ComposerError) (result : Result Z ComposerError) (value : Result Y Refused) (next : Y → Result W Refused) → Tells e value → IsErrAnd result (λ o. o ≡ e) → Answers view result (value >>= next)
answers_err view e (Ok z) value next h is = absurd is
answers_err view e (Err o) value next h is = subst (λ (x : ComposerError). Tells x (value >>= next)) (sym is) (tells_on e value (value >>= next) (λ r bad. ap (λ v. v >>= next) bad) h)

-- a value is passed on
pub answers_ok : {X Y W : Type 0} (view : X → W) (result : Result X ComposerError) (value : Result Y Refused) (next : Y → Result W Refused) (y : Y) → value ≡ Ok y → Answers view result (next y) → Answers view result (value >>= next)
answers_ok view result value next y is h = subst (λ v. Answers view result (v >>= next)) (sym is) h

-- an answer of one value is that of an equal value
pub answers_same : {X Y : Type 0} (view : X → Y) (result : Result X ComposerError) (v w : Result Y Refused) → w ≡ v → Answers view result v → Answers view result w
answers_same view result v w is h = subst (λ x. Answers view result x) (sym is) h

-- a fault of one value is that of another value that fails alike
pub gives_err : {Y Z W : Type 0} (view : Z → W) (e : ComposerErrorInner) (result : Result Z ComposerErrorInner) (v : Result Y Fault) (w : Result W Fault) → ((f : Fault) → v ≡ Err f → w ≡ Err f) → Fails e v → IsErrAnd result (λ o. o ≡ e) → Gives view result w
gives_err view e (Ok z) v w up h is = absurd is
gives_err {Y} {Z} {W} view e (Err o) v w up h is = subst (λ (x : ComposerErrorInner). Fails x w) (sym is) (go (fault_of e) h)
  where
    go : (o : Option Fault) → MatchOption o (Unit {0}) (λ f. v ≡ Err f) → MatchOption o (Unit {0}) (λ f. w ≡ Err f)
    go None k = k
    go (Some f) k = up f k
