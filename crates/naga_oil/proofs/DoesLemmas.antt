-- The steps of a make, and their outcomes.
use Rattle.std.proofs.Common.{◌≡◌, ◌∙◌, List, ℕ, Option, Some, None, MatchOption, option_map, Result, Ok, Err, IsErrAnd, sym, ap, subst}
use Rattle.naga_oil_conditions.specs.Fault.{Fault}
use Rattle.naga_oil_conditions.specs.View.{fault_of}
use Rattle.naga_oil_conditions.specs.declared.fault.ComposerErrorInner.{ComposerErrorInner}
use Rattle.naga_oil_registry.specs.Registered.{Defs}
use Rattle.naga_oil_link.specs.BuiltModule.{Builds}
use Rattle.naga_oil.specs.Answer.{of_shader, refusal}
use Rattle.naga_oil.specs.MakeView.{unreached_of, memory_nowhere, TellsUnreached}
use Rattle.naga_oil.specs.Outcome.{Outcome, Doing, Does, given, done_with, fault_as, ◌>>=◌}
use Rattle.naga_oil.specs.Reach.{Unreached}
use Rattle.naga_oil.specs.Refused.{Place, Refused, Answers, refused_of}
use Rattle.naga_oil.specs.declared.compose.error.ComposerError.{ComposerError}
use Rattle.naga_oil.specs.declared.compose.reach.Unreached.{Unreached as CodeUnreached}
use Rattle.naga_oil.proofs.AddsLemmas.{IsRefusal}

pub some_same : {X : Type 0} (x y : X) → Some x ≡ Some y → x ≡ y
some_same x y h = cc

abbrev pub value : {X : Type 0} → (F : Type 0) → X → Result X F
value F x = Ok x

pub ok_same : {X : Type 0} (F : Type 0) (x y : X) → value F x ≡ value F y → x ≡ y
ok_same F x y h = cc

-- ---- outcomes

-- an error is the outcome's fault, or out of memory
abbrev pub Ends : {Y : Type 0} → ComposerError → Builds → Outcome Y Refused → Type 0
Ends e builds value = MatchOption (refused_of e) (memory_nowhere e) (λ r. value ≡ record { builds = builds; result = Err r })

-- an error that reports one value's fault reports that of an equal one
ends_on : (e : ComposerError) (P Q : Refused → Type 0) → ((r : Refused) → P r → Q r) → MatchOption (refused_of e) (memory_nowhere e) P → MatchOption (refused_of e) (memory_nowhere e) Q
ends_on e P Q up h = go (refused_of e) h
  where
    go : (o : Option Refused) → MatchOption o (memory_nowhere e) P → MatchOption o (memory_nowhere e) Q
    go None k = k
    go (Some r) k = up r k

-- an answer that builds nothing
pub does_given : {X Y : Type 0} (view : X → Y) (result : Result X ComposerError) (value : Result Y Refused) (builds : Builds) → Answers view result value → Does view refused_of memory_nowhere result builds (given value builds)
does_given view (Ok x) value builds h = ap (λ r. record { builds = builds; result = r }) h
does_given {X} {Y} view (Err e) value builds h = ends_on e (λ r. value ≡ Err r) (λ r. given value builds ≡ record { builds = builds; result = Err r }) (λ r. ap (λ (v : Result Y Refused). record { builds = builds; result = v })) h

-- an outcome of one value is that of an equal value
pub does_same : {X Y : Type 0} (view : X → Y) (result : Result X ComposerError) (builds : Builds) (v w : Outcome Y Refused) → w ≡ v → Does view refused_of memory_nowhere result builds v → Does view refused_of memory_nowhere result builds w
does_same view result builds v w is h = subst (λ x. Does view refused_of memory_nowhere result builds x) (sym is) h

-- the fault of a step is the fault of the whole
pub does_end : {Y Z W : Type 0} (view : Z → W) (e : ComposerError) (result : Result Z ComposerError) (builds : Builds) (v : Outcome Y Refused) (w : Outcome W Refused) → ((r : Refused) → v ≡ record { builds = builds; result = Err r } → w ≡ record { builds = builds; result = Err r })
    → Ends e builds v → IsErrAnd result (λ o. o ≡ e) → Does view refused_of memory_nowhere result builds w
does_end view e (Ok z) builds v w up h is = absurd is
does_end view e (Err o) builds v w up h is =
    subst (λ (x : ComposerError). Ends x builds w) (sym is) (ends_on e (λ r. v ≡ record { builds = builds; result = Err r }) (λ r. w ≡ record { builds = builds; result = Err r }) up h)

-- the last step, with its own value
pub does_then : {X Y W : Type 0} (view : X → W) (result : Result X ComposerError) (first : Doing Y Refused) (y : X → Y) (w : W) (old new : Builds) → ((x : X) → view x ≡ w) → Does y refused_of memory_nowhere result new (first old) → Does view refused_of memory_nowhere result new ((first >>= λ done. given (Ok w)) old)
does_then {X} {Y} {W} view (Ok x) first y w old new is h =
    ap (λ (o : Outcome Y Refused). done_with o (λ done. given (Ok w)) o.result) h ∙ ap (λ (v : W). record { builds = new; result = Ok v }) (sym (is x))
does_then {X} {Y} {W} view (Err e) first y w old new is h =
    ends_on e (λ r. first old ≡ record { builds = new; result = Err r }) (λ r. (first >>= λ done. given (Ok w)) old ≡ record { builds = new; result = Err r }) (λ r. ap (λ (o : Outcome Y Refused). done_with o (λ done. given (Ok w)) o.result)) h

-- the answer of an outcome
pub does_answers : {X Y : Type 0} (view : X → Y) (result : Result X ComposerError) (builds : Builds) (v : Outcome Y Refused) → Does view refused_of memory_nowhere result builds v → Answers view result v.result
does_answers view (Ok x) builds v h = ap (λ o. o.result) h
does_answers view (Err e) builds v h = ends_on e (λ r. v ≡ record { builds = builds; result = Err r }) (λ r. v.result ≡ Err r) (λ r. ap (λ o. o.result)) h

-- ---- modules that can't be reached

-- why a module can't be reached is reported for a shader
pub told_unreached : (tell : Unreached → Refused) (why : CodeUnreached) (e : ComposerError) (inner : ComposerErrorInner) (place : Place) (reason : Fault → Unreached) → unreached_of why ≡ option_map reason (fault_of inner)
    → ((f : Fault) → fault_of inner ≡ Some f → tell (reason f) ≡ record { fault = f; place = place }) → IsRefusal inner e place → TellsUnreached tell why e
told_unreached tell why e inner place reason is tells h =
    ends_on e (λ r. (fault_of inner ≡ Some r.fault) × (r.place ≡ place)) (λ r. (w : Unreached) × (unreached_of why ≡ Some w) × (tell w ≡ r))
    (λ r k. (reason r.fault, is ∙ ap (option_map reason) k.0, tells r.fault k.0 ∙ ap (λ (p : Place). record { fault = r.fault; place = p }) (sym k.1))) h

-- modules are reached for a shader
module _ (path text : List ℕ) (defs : Defs) (doing : Doing (Unit {0}) Unreached) (old new : Builds) where
  told : Outcome (Unit {0}) Unreached → Outcome (Unit {0}) Refused
  told o = fault_as (refusal path text defs) o

  pub reaches_ok : doing old ≡ record { builds = new; result = Ok tt } → of_shader path text defs doing old ≡ record { builds = new; result = Ok tt }
  unfolding told
  reaches_ok h = ap told h

  pub reaches_err : (why : CodeUnreached) (e : ComposerError) → MatchOption (unreached_of why) (Unit {0}) (λ w. doing old ≡ record { builds = new; result = Err w }) → TellsUnreached (refusal path text defs) why e → Ends e new (of_shader path text defs doing old)
  unfolding told
  reaches_err why e h k =
      ends_on e (λ r. (w : Unreached) × (unreached_of why ≡ Some w) × (refusal path text defs w ≡ r)) (λ r. of_shader path text defs doing old ≡ record { builds = new; result = Err r })
      (λ r k. let ended : doing old ≡ record { builds = new; result = Err k.0 } = subst (λ (o : Option Unreached). MatchOption o (Unit {0}) (λ w. doing old ≡ record { builds = new; result = Err w })) k.1 h in
      ap told ended ∙ ap (λ (x : Refused). record { builds = new; result = Err x }) k.2) k
