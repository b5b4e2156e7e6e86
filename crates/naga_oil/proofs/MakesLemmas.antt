-- The outcome of a make, and its registered modules.
use Rattle.std.proofs.Common.{◌≡◌, ◌≤◌, ◌+◌, ◌-◌, ◌∙◌, ℕ, List, [], ◌++◌, length, min, Option, Some, None, MatchOption, Result, Ok, Err, IfOk, refl, sym, ap, subst, inl, inr, arith}
use Rattle.std.proofs.Math.Nat.{min-eq_left}
use Rattle.naga_oil_ir.specs.Backend.{FrontEnd}
use Rattle.naga_oil_ir.specs.ModuleValue.{ModuleValue, module_value}
use Rattle.naga_oil_ir.specs.declared.module.Module.{Module}
use Rattle.naga_oil_conditions.specs.Fault.{Fault}
use Rattle.naga_oil_conditions.specs.View.{fault_of, Fails}
use Rattle.naga_oil_conditions.specs.declared.fault.ComposerErrorInner.{ComposerErrorInner}
use Rattle.naga_oil_words.specs.ResultSteps.{◌>>=◌}
use Rattle.naga_oil_registry.specs.Added.{read_source, next_counter, counter_after}
use Rattle.naga_oil_registry.specs.Registered.{Registered, Defs}
use Rattle.naga_oil_registry.specs.Descriptor.{ShaderSource}
use Rattle.naga_oil_registry.specs.Registry.{IsRegistry}
use Rattle.naga_oil_link.specs.BuiltModule.{Builds}
use Rattle.naga_oil_build.specs.Held.{Settings}
use Rattle.naga_oil.specs.Answer.{module_of_text, answer}
use Rattle.naga_oil.specs.ChainsLaw.{CallsGoDown}
use Rattle.naga_oil.specs.Faithful.{IsFaithful}
use Rattle.naga_oil.specs.MakeDefs.{defs_of_text, defs_or_none, make_defs}
use Rattle.naga_oil.specs.MakeView.{KeepsFirst, memory_nowhere, ends_with}
use Rattle.naga_oil.specs.Makes.{Makes, answer_of, defs_for, newly_kept, settings_of}
use Rattle.naga_oil.specs.Outcome.{Outcome, Does, given, done_with}
use Rattle.naga_oil.specs.Refused.{Place, Refused, refused_of, in_text, nowhere, place_of, placed, UnlessMemory, Answers}
use Rattle.naga_oil.specs.State.{State}
use Rattle.naga_oil.specs.Store.{Kept, keep_builds, count_kept}
use Rattle.naga_oil.specs.declared.compose.error.ComposerError.{ComposerError}
use Rattle.naga_oil.proofs.AddsLemmas.{IsRefusal, failed, unless_memory}
use Rattle.naga_oil.proofs.DoesLemmas.{does_answers}
use Rattle.naga_oil.proofs.FaithfulLemmas.{faithful, calls_go_down}
use Rattle.naga_oil.proofs.KeepsLemmas.{always}
use Rattle.naga_oil.proofs.MadeAfreshLemmas.{made_afresh, made_kept}
use Rattle.naga_oil.proofs.StoreKeyLemmas.{keeps_none}
use Rattle.naga_oil.proofs.PlacedLemmas.{tells_on, tells_placed, answers_same}

-- if nothing is newly kept, the count stays
counted_none : (count : ℕ) (kept : Kept) → count ≤ 18446744073709551615 → count ≡ count_kept count kept kept
counted_none count kept fits = sym (min-eq_left (omega (arith, fits)) ∙ (let e : count + (length kept - length kept) ≡ count = omega arith in e))

-- the number of newly kept builds is added to the count, up to its limit
pub counted : (begun count before after news : ℕ) (kept more : Kept) → before ≡ length kept → after ≡ length more → news ≡ after - before → count ≡ min (begun + news) 18446744073709551615 → count ≡ count_kept begun kept more
counted begun count before after news kept more is is' new sum = sum ∙ (λ i. min (begun + (new ∙ (λ j. is' j - is j)) i) 18446744073709551615)

-- what holds of the builds made holds of the builds of the value
does_builds : {X Y : Type 0} (view : X → Y) (result : Result X ComposerError) (builds : Builds) (v : Outcome Y Refused) (P : Builds → Type 0) → Does view refused_of memory_nowhere result builds v → UnlessMemory refused_of result (P builds) → UnlessMemory refused_of result (P v.builds)
does_builds view (Ok x) builds v P h p = subst P (sym (ap (λ (o : Outcome _ Refused). o.builds) h)) p
does_builds {X} {Y} view (Err e) builds v P h p = go (refused_of e) h p
  where
    go : (o : Option Refused) → MatchOption o (memory_nowhere e) (λ r. v ≡ record { builds = builds; result = Err r }) → MatchOption o (Unit {0}) (λ r. P builds) → MatchOption o (Unit {0}) (λ r. P v.builds)
    go None h p = tt
    go (Some r) h p = subst P (sym (ap (λ (o : Outcome Y Refused). o.builds) h)) p

unless_same : {X E F : Type 0} (told : E → Option F) (r : Result X E) (P Q : Type 0) → (P → Q) → UnlessMemory told r P → UnlessMemory told r Q
unless_same told (Ok x) P Q up h = up h
unless_same {X} {E} {F} told (Err e) P Q up h = go (told e) h
  where
    go : (o : Option F) → MatchOption o (Unit {0}) (λ f. P) → MatchOption o (Unit {0}) (λ f. Q)
    go None h = tt
    go (Some f) h = up h

module _ {B : Type 0} (front : B → FrontEnd) (old : State B) (m : ShaderSource) where
  abbrev source_place : Place
  source_place = in_text m.file_path m.source 0

  abbrev following : List ℕ × ℕ → Builds → Outcome ModuleValue Refused
  following read = module_of_text (settings_of front old) old.registry m read.0

  -- an answered module is faithful
  made_faithful : (result : Result Module ComposerError) → Answers module_value result (answer (settings_of front old) old.registry old.counter m).result → IfOk result (λ made. IsFaithful (settings_of front old) old.registry old.counter m (module_value made))
  made_faithful (Ok made) e = faithful (settings_of front old) old.registry old.counter m (module_value made) e
  made_faithful (Err e) h = tt

  -- its calls are redirected along its chains
  made_chained : (result : Result Module ComposerError) → Answers module_value result (answer (settings_of front old) old.registry old.counter m).result → IfOk result (λ made. CallsGoDown (settings_of front old) old.registry old.counter m (module_value made))
  made_chained (Ok made) e = calls_go_down (settings_of front old) old.registry old.counter m (module_value made) e
  made_chained (Err e) h = tt

  -- exactly the builds of the answer that weren't kept yet are newly kept
  abbrev KeepsBuilt : Kept → Type 0
  KeepsBuilt new = new ≡ keep_builds old.registry (defs_for old m) old.kept (answer_of front old m).builds

  abbrev KeepsNew : Kept → Type 0
  KeepsNew new = new ≡ old.kept ++ newly_kept front old m

  keeps_new : IsRegistry old.registry → (new : Kept) → KeepsBuilt new → KeepsNew new
  keeps_new all new h = h ∙ made_kept (settings_of front old) old.registry old.counter m old.kept all

  -- the source can't be read
  pub makes_unread : IsRegistry old.registry → (inner : ComposerErrorInner) (e : ComposerError) → old.builds ≤ 18446744073709551615 → IsRefusal inner e source_place → Fails inner (read_source old.counter m.source) → Makes front old m (Err e) old
  unfolding answer
  makes_unread all inner e fits is fails = record {
    reply = tells_on e (placed source_place (read_source old.counter m.source)) (answer (settings_of front old) old.registry old.counter m).result
        (λ r bad. ap (λ (v : Result (List ℕ × ℕ) Refused). (done_with (given v []) following v).result) bad)
        (tells_placed inner e source_place (read_source old.counter m.source) is fails);
    counter = record {
      exact = unless_memory inner e source_place (old.counter ≡ counter_after old.counter m.source) is (λ f has. ap (next_counter old.counter) (sym (failed inner f (read_source old.counter m.source) has fails)));
      either = inl refl;
    };
    kept = unless_same {X = Module} refused_of (Err e) (KeepsBuilt old.kept) (KeepsNew old.kept) (keeps_new all old.kept) (none_built (refused_of e) is);
    afresh = made_afresh (settings_of front old) old.registry old.counter m all;
    more = keeps_none old.kept;
    builds = counted_none old.builds old.kept fits;
    faithful = tt;
    chains = tt;
    rest = refl;
  }
    where
      none_built : (o : Option Refused) → MatchOption o (place_of e.source ≡ nowhere) (λ r. (fault_of inner ≡ Some r.fault) × (r.place ≡ source_place)) → MatchOption o (Unit {0}) (λ r. old.kept ≡ keep_builds old.registry (make_defs old.registry old.counter m) old.kept (answer (settings_of front old) old.registry old.counter m).builds)
      none_built None h = tt
      none_built (Some r) h = sym (ap (λ (v : Result (List ℕ × ℕ) Fault). keep_builds old.registry (make_defs old.registry old.counter m) old.kept (done_with (given (placed source_place v) []) following (placed source_place v)).builds) (failed inner r.fault (read_source old.counter m.source) h.0 fails))

  -- the source is read, and the shader is made
  pub makes_read : IsRegistry old.registry → (result : Result Module ComposerError) (text : List ℕ) (counter : ℕ) (builds : Builds) → read_source old.counter m.source ≡ Ok (text, counter)
      → Does module_value refused_of memory_nowhere result builds (module_of_text (settings_of front old) old.registry m text []) → (under : Defs) (more : Kept) (count : ℕ) → KeepsFirst (settings_of front old) old.registry refused_of (defs_of_text old.registry m text) result old.kept (ends_with under builds more) → count ≡ count_kept old.builds old.kept more → Makes front old m result (record old { counter = counter; kept = more; builds = count })
  unfolding answer make_defs
  makes_read all result text counter builds read does under more count first counts =
      let counted : counter ≡ counter_after old.counter m.source = ap (next_counter old.counter) (sym read) in
      let replies : Answers module_value result (answer (settings_of front old) old.registry old.counter m).result = answers_same module_value result (module_of_text (settings_of front old) old.registry m text []).result (answer (settings_of front old) old.registry old.counter m).result
      (ap (λ (v : Result (List ℕ × ℕ) Fault). (done_with (given (placed source_place v) []) following (placed source_place v)).result) read)
      (does_answers module_value result builds (module_of_text (settings_of front old) old.registry m text []) does) in
      record {
        reply = replies;
        counter = record { exact = always (λ e. fault_of e.inner) result (counter ≡ counter_after old.counter m.source) counted; either = inr counted };
        kept = unless_same refused_of result (more ≡ keep_builds old.registry (defs_or_none (defs_of_text old.registry m text)) old.kept (module_of_text (settings_of front old) old.registry m text []).builds) (KeepsNew more) (λ h. keeps_new all more (h ∙ (λ i. keep_builds old.registry (defs_or_none (sym read i >>= λ read. defs_of_text old.registry m read.0)) old.kept (done_with (given (placed source_place (sym read i)) []) following (placed source_place (sym read i))).builds)))
            (does_builds module_value result builds (module_of_text (settings_of front old) old.registry m text []) (λ bs. more ≡ keep_builds old.registry (defs_or_none (defs_of_text old.registry m text)) old.kept bs) does first.kept_all);
        afresh = made_afresh (settings_of front old) old.registry old.counter m all;
        more = first.all;
        builds = counts;
        faithful = made_faithful result replies;
        chains = made_chained result replies;
        rest = refl;
      }

-- the shader over the same modules, with no builds
pub same_make : (s : Settings) (ds : List Registered) (m : ShaderSource) (text read : List ℕ) (bs : Builds) → text ≡ read → bs ≡ [] → module_of_text s ds m read [] ≡ module_of_text s ds m text bs
same_make s ds m text read bs b c = λ i. module_of_text s ds m (sym b i) (sym c i)
