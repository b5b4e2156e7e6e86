-- Law: the second reading of a shader is as it is over no builds.
use Rattle.std.proofs.Common.{◌≡◌, ℕ, List, [], refl, sym, ap, subst, ◌∙◌, Result, Ok, Err, append-nil}
use Rattle.naga_oil_pre.specs.Preprocessed.{Output}
use Rattle.naga_oil_registry.specs.Registered.{Registered, Defs}
use Rattle.naga_oil_registry.specs.Registry.{IsRegistry}
use Rattle.naga_oil_link.specs.BuiltModule.{Builds}
use Rattle.naga_oil_build.specs.Built.{preprocessed_of}
use Rattle.naga_oil_build.specs.Held.{Settings}
use Rattle.naga_oil.specs.AfreshLaw.{Grows, AreBuilt, AllStandAfresh, AreReachedAfresh, SecondLaw, ReadingLaw}
use Rattle.naga_oil.specs.Answer.{in_shader, refusal, of_shader, as_merged, reach_uses, read_and_build_second}
use Rattle.naga_oil.specs.Outcome.{Outcome, Doing, given, done_with, fault_as, map_err, ◌>>=◌}
use Rattle.naga_oil.specs.Reach.{Unreached, defined}
use Rattle.naga_oil.specs.Refused.{Refused}
use Rattle.naga_oil.proofs.AfreshLemmas.{afresh_law}

module _ (s : Settings) (ds : List Registered) (defs : Defs) (text : List ℕ) (shader : Registered) where
  -- a reading, and the modules that it uses
  record Reads (none : Result Output Refused) (bs : Builds) (o : Outcome Output Refused) : Type 0 where
    result : o.result ≡ none
    grows : Grows bs o.builds
    stand : AllStandAfresh s ds defs o.builds
    built : (out : Output) → o.result ≡ Ok out → AreBuilt o.builds out.uses

  -- after preprocessing
  goes_on : Output → Outcome (Unit {0}) Unreached → Outcome Output Refused
  goes_on out o = done_with (fault_as (refusal shader.file_path text defs) o) (λ done. given (Ok out)) (map_err (refusal shader.file_path text defs) o.result)

  reached_goes_on : (out : Output) (bs : Builds) (o p : Outcome (Unit {0}) Unreached) → AreReachedAfresh s ds defs (as_merged ds defs) out.uses bs o → o.result ≡ p.result → (r : Result (Unit {0}) Unreached) → p.result ≡ r → Reads (goes_on out p).result bs (goes_on out o)
  unfolding goes_on
  reached_goes_on out bs o p h e (Ok x) k =
      let same : o.result ≡ Ok tt = e ∙ k in
      let here : goes_on out o ≡ record { builds = o.builds; result = Ok out } = ap (λ r. done_with (fault_as (refusal shader.file_path text defs) o) (λ done. given (Ok out)) (map_err (refusal shader.file_path text defs) r)) same in
      let there : goes_on out p ≡ record { builds = p.builds; result = Ok out } = ap (λ r. done_with (fault_as (refusal shader.file_path text defs) p) (λ done. given (Ok out)) (map_err (refusal shader.file_path text defs) r)) k in
      subst (Reads (goes_on out p).result bs) (sym here) (record {
        result = sym (ap (λ q. q.result) there);
        grows = h.grows;
        stand = h.stand;
        built = λ x i. let one : out ≡ x = cc in subst (λ (y : Output). AreBuilt o.builds y.uses) one (λ k d l. (h.built same k d l).built);
      })
  reached_goes_on out bs o p h e (Err w) k =
      let told = refusal shader.file_path text defs w in
      let here : goes_on out o ≡ record { builds = o.builds; result = Err told } = ap (λ r. done_with (fault_as (refusal shader.file_path text defs) o) (λ done. given (Ok out)) (map_err (refusal shader.file_path text defs) r)) (e ∙ k) in
      let there : goes_on out p ≡ record { builds = p.builds; result = Err told } = ap (λ r. done_with (fault_as (refusal shader.file_path text defs) p) (λ done. given (Ok out)) (map_err (refusal shader.file_path text defs) r)) k in
      subst (Reads (goes_on out p).result bs) (sym here) (record { result = sym (ap (λ q. q.result) there); grows = h.grows; stand = h.stand; built = λ x i. absurd cc })

  module _ (all : IsRegistry ds) (bs : Builds) (st : AllStandAfresh s ds defs bs) where
    abbrev then : Output → Doing Output Refused
    then out = of_shader shader.file_path text defs (reach_uses s ds defs (as_merged ds defs) out.uses) >>= λ done. given (Ok out)

    goes : (r : Result Output Refused) → Reads ((given r >>= then) []).result bs ((given r >>= then) bs)
    unfolding goes_on
    goes (Ok out) =
        let h = (afresh_law s ds defs all).each (as_merged ds defs) out.uses bs st in
        reached_goes_on out bs (reach_uses s ds defs (as_merged ds defs) out.uses bs) (reach_uses s ds defs (as_merged ds defs) out.uses []) h h.result (reach_uses s ds defs (as_merged ds defs) out.uses []).result refl
    goes (Err w) = record { result = refl; grows = record { more = []; is = sym (append-nil bs) }; stand = st; built = λ out e. absurd cc }

    abbrev read : Result Output Refused
    read = (in_shader shader.file_path text (preprocessed_of (defined defs) shader) bs).result

    second : SecondLaw s ds defs text shader bs
    unfolding read_and_build_second
    second =
        let h = goes read in
        record { read = record { result = h.result; grows = h.grows; stand = h.stand }; built = h.built }

pub reading_law : ReadingLaw
reading_law s ds defs text shader bs all st = second s ds defs text shader all bs st
