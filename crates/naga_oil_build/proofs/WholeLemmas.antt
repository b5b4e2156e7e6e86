-- A build, step by step.
use Rattle.std.proofs.Common.{◌≡◌, ℕ, List, ◌++◌, length, Result, Ok, Err, refl, ap, MatchOption, Option, Some, None}
use Rattle.std.proofs.lemmas.Result.{err_from_is_err_and}
use Rattle.std.specs.Result.{IsErrAnd}
use Rattle.naga_oil_conditions.specs.Fault.{Fault}
use Rattle.naga_oil_pre.specs.Preprocessed.{Output}
use Rattle.naga_oil_conditions.specs.View.{Fails, Gives, fault_of}
use Rattle.naga_oil_conditions.specs.declared.fault.ComposerErrorInner.{ComposerErrorInner}
use Rattle.naga_oil_words.specs.ResultSteps.{◌>>=◌}
use Rattle.naga_oil_registry.specs.Registered.{Registered}
use Rattle.naga_oil_registry.proofs.NewDefinitionLemmas.{fails-through}
use Rattle.naga_oil_link.specs.BuiltModule.{BuiltModule, Builds}
use Rattle.naga_oil_build.specs.Build.{Unbuilt, WholeText, begin_build, write_heading, write_whole, from_offset, build}
use Rattle.naga_oil_build.specs.BuildView.{TellsUnbuilt, GivesBuilt, IsFromOffset}
use Rattle.naga_oil_build.specs.Held.{Settings, hold}
use Rattle.naga_oil_build.specs.Virtuals.{Functions, functions_in}
use Rattle.naga_oil_build.specs.declared.builder.Unbuilt.{Unbuilt as CodeUnbuilt}
use Rattle.naga_oil_build.proofs.HeldLemmas.{fails_on}

-- ---- the whole text
-- a build that has read functions, after its heading
abbrev pub with_functions : Functions → (offset : ℕ) → BuiltModule → BuiltModule
with_functions functions offset b = record b { virtuals = functions.virtuals; overriding = functions.overriding; offset = offset }

module _ (s : Settings) (d : Registered) (builds : Builds) (text : List ℕ) (b : BuiltModule) where
  pub whole_unread : (e : ComposerErrorInner) → Fails e (functions_in s.override_any builds b.imports b.decoration b.overriding text) → Fails e (write_whole s d builds text b)
  unfolding write_whole
  whole_unread e h = fails_on e (functions_in s.override_any builds b.imports b.decoration b.overriding text) _ h

  module _ (functions : Functions) (read : functions_in s.override_any builds b.imports b.decoration b.overriding text ≡ Ok functions) where
    pub whole_unheaded : (e : ComposerErrorInner) → Fails e (write_heading s d builds b.imports) → Fails e (write_whole s d builds text b)
    unfolding write_whole
    whole_unheaded e h = fails-through e (write_heading s d builds b.imports) _ h (λ f p. rw (read, p) refl)

    pub whole_is : (heading t : List ℕ) (c : BuiltModule) → write_heading s d builds b.imports ≡ Ok heading → t ≡ heading ++ functions.text → c ≡ with_functions functions (length heading) b → write_whole s d builds text b ≡ Ok (record { text = t; built = c })
    unfolding write_whole
    whole_is heading t c p q r = rw (read, p, q, r) refl

-- ---- faults from an offset
-- an answer whose fault counts from an offset
pub given_from : {X Y : Type 0} (view : X → Y) (offset : ℕ) (answer : Result X ComposerErrorInner) (r : Result X CodeUnbuilt) (value : Result Y Fault) → IsFromOffset offset answer r → Gives view answer value → GivesBuilt view r (from_offset offset value)
given_from view offset (Ok x) r value f g = rw (f, g) refl
given_from view offset (Err e) r value f g = rw f (by (fault_of e) g)
  where
    by : (o : Option Fault) → MatchOption o (Unit {0}) (λ f. value ≡ Err f) → MatchOption o (Unit {0}) (λ f. from_offset offset value ≡ Err (record { fault = f; offset = offset }))
    by None h = tt
    by (Some f) h = ap (from_offset offset) h

-- the whole result where a part is refused
pub built-refused : {X Y : Type 0} (view : X → Y) (r : Result X CodeUnbuilt) (u : CodeUnbuilt) (v : Result Y Unbuilt) → IsErrAnd r (λ e. e ≡ u) → TellsUnbuilt u v → GivesBuilt view r v
built-refused view r u v h tells =
    let p = err_from_is_err_and r h in
    rw (p.1, p.2) tells

-- the fault of a part is that of the whole
pub tells_on : {Y Z : Type 0} (e : CodeUnbuilt) (v : Result Y Unbuilt) (more : Y → Result Z Unbuilt) → TellsUnbuilt e v → TellsUnbuilt e (v >>= more)
tells_on e v more h = by (fault_of e.inner) h
  where
    by : (o : Option Fault) → MatchOption o (Unit {0}) (λ f. v ≡ Err (record { fault = f; offset = e.offset })) → MatchOption o (Unit {0}) (λ f. (v >>= more) ≡ Err (record { fault = f; offset = e.offset }))
    by None h = tt
    by (Some f) h = ap (λ (r : Result _ Unbuilt). r >>= more) h

module _ (s : Settings) (d : Registered) (out : Output) (builds : Builds) where
  abbrev pub prepared : Result WholeText Fault
  prepared = write_whole s d builds out.text (begin_build builds d out.uses)

  pub build_unprepared : (e : CodeUnbuilt) → TellsUnbuilt e (from_offset 0 prepared) → TellsUnbuilt e (build s d out builds)
  unfolding build
  build_unprepared e h = tells_on e (from_offset 0 prepared) _ h

  pub build_is : (whole : WholeText) → from_offset 0 prepared ≡ Ok whole → build s d out builds ≡ from_offset whole.built.offset (hold s d.language whole.text whole.built)
  unfolding build
  build_is whole p = rw p refl
