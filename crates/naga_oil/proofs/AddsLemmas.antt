-- The outcome of an addition, at each of its returns.
use Rattle.std.proofs.Common.{◌≡◌, ℕ, List, Option, Some, None, MatchOption, option_map, Result, Ok, Err, refl, sym, ap, subst, ◌∙◌, inl, inr}
use Rattle.naga_oil_conditions.specs.Fault.{Fault}
use Rattle.naga_oil_conditions.specs.View.{fault_of, Fails}
use Rattle.naga_oil_conditions.specs.declared.fault.ComposerErrorInner.{ComposerErrorInner}
use Rattle.naga_oil.specs.declared.compose.error.ComposerError.{ComposerError}
use Rattle.naga_oil_words.specs.ResultSteps.{◌>>=◌}
use Rattle.naga_oil_registry.specs.Added.{read_source, next_counter, counter_after, Described, described, new_definition, registry_with, shown_by}
use Rattle.naga_oil.specs.Addition.{addition}
use Rattle.naga_oil_registry.specs.Registered.{Registered}
use Rattle.naga_oil_registry.specs.Descriptor.{ModuleSource}
use Rattle.naga_oil.specs.Refused.{Place, in_text, nowhere, place_of, Refused, refused_of, Tells, placed}
use Rattle.naga_oil_registry.specs.Registry.{removed}
use Rattle.naga_oil.specs.State.{State, Adds, forget_with}

-- an error reports what is wrong at the place, or out of memory
abbrev pub IsRefusal : ComposerErrorInner → ComposerError → Place → Type 0
IsRefusal inner e place = MatchOption (refused_of e) (place_of e.source ≡ nowhere) (λ r. (fault_of inner ≡ Some r.fault) × (r.place ≡ place))

at_place : {Y : Type 0} (inner : ComposerErrorInner) (place : Place) (r : Refused) (v : Result Y Fault) → fault_of inner ≡ Some r.fault → r.place ≡ place → Fails inner v → placed place v ≡ Err r
at_place inner place r v is at fails =
    let e : v ≡ Err r.fault = subst (λ (o : Option Fault). MatchOption o (Unit {0}) (λ f. v ≡ Err f)) is fails in
    ap (placed place) e ∙ ap (λ p. Err (record { fault = r.fault; place = p })) (sym at)

-- the error reports what the value is refused for
tells : {Y Z : Type 0} (inner : ComposerErrorInner) (e : ComposerError) (place : Place) (v : Result Y Fault) (whole : Result Z Refused) → IsRefusal inner e place → Fails inner v → ((r : Refused) → placed place v ≡ Err r → whole ≡ Err r) → Tells e whole
tells inner e place v whole is fails up = go (refused_of e) is
  where
    go : (o : Option Refused) → MatchOption o (place_of e.source ≡ nowhere) (λ r. (fault_of inner ≡ Some r.fault) × (r.place ≡ place)) → MatchOption o (place_of e.source ≡ nowhere) (λ r. whole ≡ Err r)
    go None h = h
    go (Some r) h = up r (at_place inner place r v h.0 h.1 fails)

-- a fact that holds given the inner fault holds unless memory ran out
pub unless_memory : (inner : ComposerErrorInner) (e : ComposerError) (place : Place) (P : Type 0) → IsRefusal inner e place → ((f : Fault) → fault_of inner ≡ Some f → P) → MatchOption (fault_of e.inner) (Unit {0}) (λ f. P)
unless_memory inner e place P is h = go (fault_of e.inner) is
  where
    go : (o : Option Fault) → MatchOption (option_map (λ f. record { fault = f; place = place_of e.source }) o) (place_of e.source ≡ nowhere) (λ (r : Refused). (fault_of inner ≡ Some r.fault) × (r.place ≡ place)) → MatchOption o (Unit {0}) (λ f. P)
    go None k = tt
    go (Some f) k = h f k.0

pub failed : {Y : Type 0} (inner : ComposerErrorInner) (f : Fault) (v : Result Y Fault) → fault_of inner ≡ Some f → Fails inner v → v ≡ Err f
failed inner f v is fails = subst (λ (o : Option Fault). MatchOption o (Unit {0}) (λ f. v ≡ Err f)) is fails

module _ {B X Y : Type 0} (view : X → Y) (shown : Registered → Y) (old : State B) (m : ModuleSource) (inner : ComposerErrorInner) (e : ComposerError) where
  shown_err : (r : Refused) (v : Result Registered Refused) → v ≡ Err r → shown_by shown v ≡ Err r
  shown_err r v is = ap (shown_by shown) is

  -- the source can't be read
  pub adds-unread : IsRefusal inner e (in_text m.file_path m.source 0) → Fails inner (read_source old.counter m.source) → Adds view shown old m (Err e) old
  unfolding addition
  adds-unread is fails = record {
    reply = tells inner e (in_text m.file_path m.source 0) (read_source old.counter m.source) (shown_by shown (addition old.registry old.counter m)) is fails
        (λ r bad. shown_err r (addition old.registry old.counter m) (ap (λ (v : Result _ Refused). v >>= λ read. placed (in_text m.file_path m.source 0) (described m.as_name read.0) >>= λ d. placed (in_text m.file_path read.0 0) (new_definition (removed d.name old.registry) m d)) bad));
    counter = record {
      exact = unless_memory inner e (in_text m.file_path m.source 0) (old.counter ≡ counter_after old.counter m.source) is (λ f has. ap (next_counter old.counter) (sym (failed inner f (read_source old.counter m.source) has fails)));
      either = inl refl;
    };
    registry = tt;
    kept = tt;
    refused = refl;
    rest = refl;
  }

  module _ (text : List ℕ) (counter : ℕ) (read : read_source old.counter m.source ≡ Ok (text, counter)) where
    counted : counter ≡ counter_after old.counter m.source
    counted = ap (next_counter old.counter) (sym read)

    -- after the reading
    after_read : addition old.registry old.counter m ≡ (placed (in_text m.file_path m.source 0) (described m.as_name text) >>= λ d. placed (in_text m.file_path text 0) (new_definition (removed d.name old.registry) m d))
    unfolding addition
    after_read = ap (λ (v : Result (List ℕ × ℕ) Fault). placed (in_text m.file_path m.source 0) v >>= λ read. placed (in_text m.file_path m.source 0) (described m.as_name read.0) >>= λ d. placed (in_text m.file_path read.0 0) (new_definition (removed d.name old.registry) m d)) read

    -- the text describes no module
    pub adds-undescribed : IsRefusal inner e (in_text m.file_path m.source 0) → Fails inner (described m.as_name text) → Adds view shown old m (Err e) (record old { counter = counter })
    adds-undescribed is fails = record {
      reply = tells inner e (in_text m.file_path m.source 0) (described m.as_name text) (shown_by shown (addition old.registry old.counter m)) is fails
          (λ r bad. shown_err r (addition old.registry old.counter m) (after_read ∙ ap (λ (v : Result Described Refused). v >>= λ d. placed (in_text m.file_path text 0) (new_definition (removed d.name old.registry) m d)) bad));
      counter = record { exact = unless_memory inner e (in_text m.file_path m.source 0) (counter ≡ counter_after old.counter m.source) is (λ f has. counted); either = inr counted };
      registry = tt;
      kept = tt;
      refused = refl;
      rest = refl;
    }

    module _ (d : Described) (known : described m.as_name text ≡ Ok d) where
      after_described : addition old.registry old.counter m ≡ placed (in_text m.file_path text 0) (new_definition (removed d.name old.registry) m d)
      after_described = after_read ∙ ap (λ (v : Result Described Fault). placed (in_text m.file_path m.source 0) v >>= λ d. placed (in_text m.file_path text 0) (new_definition (removed d.name old.registry) m d)) known

      -- the module can't be registered
      pub adds-unregistered : IsRefusal inner e (in_text m.file_path text 0) → Fails inner (shown_by (λ n. n.index) (new_definition (removed d.name old.registry) m d)) → Adds view shown old m (Err e) (record old { counter = counter })
      adds-unregistered is fails = record {
        reply = tells inner e (in_text m.file_path text 0) (shown_by (λ n. n.index) (new_definition (removed d.name old.registry) m d)) (shown_by shown (addition old.registry old.counter m)) is fails
            (λ r bad. shown_err r (addition old.registry old.counter m) (after_described ∙ unshown (new_definition (removed d.name old.registry) m d) r bad));
        counter = record { exact = unless_memory inner e (in_text m.file_path text 0) (counter ≡ counter_after old.counter m.source) is (λ f has. counted); either = inr counted };
        registry = tt;
        kept = tt;
        refused = refl;
        rest = refl;
      }
        where
          unshown : (v : Result Registered Fault) (r : Refused) → placed (in_text m.file_path text 0) (shown_by (λ n. n.index) v) ≡ Err r → placed (in_text m.file_path text 0) v ≡ Err r
          unshown (Ok n) r bad = absurd cc
          unshown (Err f) r bad = let same : record { fault = f; place = in_text m.file_path text 0 } ≡ r = cc in ap (λ (q : Refused). Err q) same

-- the module is registered
pub adds-registered : {B X Y : Type 0} (view : X → Y) (shown : Registered → Y) (old : State B) (m : ModuleSource) (text : List ℕ) (counter : ℕ) (d : Described) (new : Registered) (x : X) → read_source old.counter m.source ≡ Ok (text, counter) → described m.as_name text ≡ Ok d → new_definition (removed d.name old.registry) m d ≡ Ok new → view x ≡ shown new → Adds view shown old m (Ok x) (record old { counter = counter; registry = registry_with old.registry new; kept = forget_with old.registry new.name old.kept })
unfolding addition
adds-registered view shown old m text counter d new x read known added is =
    let whole : addition old.registry old.counter m ≡ Ok new =
    ap (λ (v : Result (List ℕ × ℕ) Fault). placed (in_text m.file_path m.source 0) v >>= λ read. placed (in_text m.file_path m.source 0) (described m.as_name read.0) >>= λ d. placed (in_text m.file_path read.0 0) (new_definition (removed d.name old.registry) m d)) read
    ∙ ap (λ (v : Result Described Fault). placed (in_text m.file_path m.source 0) v >>= λ d. placed (in_text m.file_path text 0) (new_definition (removed d.name old.registry) m d)) known
    ∙ ap (placed (in_text m.file_path text 0)) added in
    let counted : counter ≡ counter_after old.counter m.source = ap (next_counter old.counter) (sym read) in
    record {
      reply = ap (shown_by shown) whole ∙ ap (λ y. Ok y) (sym is);
      counter = record { exact = counted; either = inr counted };
      registry = (new, whole, refl);
      kept = (new, whole, refl);
      refused = tt;
      rest = refl;
    }
