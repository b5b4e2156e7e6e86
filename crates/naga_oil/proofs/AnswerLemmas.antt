-- What an addition answers.
use Rattle.std.proofs.Common.{◌≡◌, ◌<◌, ℕ, ap, sym, subst, ◌∙◌, refl, length, Option, Some, None, MatchOption, Result, Ok, Err, IsOk, OnOk, MatchResult, Bor, slice_get, arith}
use Rattle.naga_oil_registry.specs.declared.definition.ComposableModuleDefinition.{ComposableModuleDefinition}
use Rattle.naga_oil.specs.declared.compose.error.ComposerError.{ComposerError}
use Rattle.naga_oil_registry.specs.Added.{shown_by}
use Rattle.naga_oil.specs.Addition.{addition}
use Rattle.naga_oil_registry.specs.Registered.{Registered, definition_of}
use Rattle.naga_oil_registry.specs.Descriptor.{ModuleSource}
use Rattle.naga_oil.specs.Refused.{Answers, Refused, Tells, nowhere, place_of, refused_of}
use Rattle.naga_oil.specs.State.{State, Adds}

shown : (v : Result Registered Refused) → shown_by (λ d. d) v ≡ v
shown (Ok d) = refl
shown (Err r) = refl

unshown : (v : Result Registered Refused) (r : Refused) → shown_by (λ d. d.index) v ≡ Err r → shown_by (λ d. d) v ≡ Err r
unshown (Ok d) r bad = absurd cc
unshown (Err f) r bad = let same : f ≡ r = cc in ap (λ (q : Refused). Err q) same

told : (e : ComposerError) (v : Result Registered Refused) → Tells e (shown_by (λ d. d.index) v) → Tells e (shown_by (λ d. d) v)
told e v = go (refused_of e)
  where
    go : (o : Option Refused) → MatchOption o (place_of e.source ≡ nowhere) (λ r. shown_by (λ d. d.index) v ≡ Err r) → MatchOption o (place_of e.source ≡ nowhere) (λ r. shown_by (λ d. d) v ≡ Err r)
    go None h = h
    go (Some r) h = unshown v r h

module _ {B : Type 0} (old : State B) (m : ModuleSource) where
  -- a module that was just registered is the first
  pub adds-first : (added : Result ℕ ComposerError) (new : State B) → Adds (λ i. i) (λ d. d.index) old m added new → OnOk added (0 < length new.registry)
  adds-first (Ok i) new adds = omega (arith, ap length adds.registry.2)
  adds-first (Err e) new adds = tt

  -- the first module is the added one, and an error is passed on
  pub adds-answered : (added : Result ℕ ComposerError) (result : Result (Bor ComposableModuleDefinition) ComposerError) (new : State B)
      → MatchResult result (λ d. IsOk added × (slice_get new.registry 0 ≡ Some (definition_of d.now))) (λ e. added ≡ Err e)
      → Adds (λ i. i) (λ d. d.index) old m added new → Adds (λ d. definition_of d.now) (λ d. d) old m result new
  adds-answered (Ok i) (Ok d) new first adds =
      let is : Some adds.registry.0 ≡ Some (definition_of d.now) = sym (ap (λ ds. slice_get ds 0) adds.registry.2) ∙ first.1 in
      let same : adds.registry.0 ≡ definition_of d.now = cc in
      record {
        reply = shown (addition old.registry old.counter m) ∙ adds.registry.1 ∙ ap (λ (d : Registered). Ok d) same;
        counter = record { exact = adds.counter.exact; either = adds.counter.either };
        registry = adds.registry;
        kept = adds.kept;
        refused = tt;
        rest = adds.rest;
      }
  adds-answered (Ok i) (Err e) new bad adds = absurd cc
  adds-answered (Err e') (Ok d) new first adds = let bad = first.0 in absurd cc
  adds-answered (Err e') (Err e) new is adds =
      let same : e' ≡ e = cc in
      let adds' : Adds (λ i. i) (λ d. d.index) old m (Err e) new = subst (λ (x : ComposerError). Adds (λ i. i) (λ d. d.index) old m (Err x) new) same adds in
      record {
        reply = told e (addition old.registry old.counter m) adds'.reply;
        counter = record { exact = adds'.counter.exact; either = adds'.counter.either };
        registry = tt;
        kept = tt;
        refused = adds'.refused;
        rest = adds'.rest;
      }

  -- the answer alone
  pub adds-reply : (result : Result (Bor ComposableModuleDefinition) ComposerError) (new : State B) → Adds (λ d. definition_of d.now) (λ d. d) old m result new → Answers (λ d. definition_of d.now) result (addition old.registry old.counter m)
  adds-reply result new adds = subst (λ (v : Result Registered Refused). Answers (λ d. definition_of d.now) result v) (shown (addition old.registry old.counter m)) adds.reply
