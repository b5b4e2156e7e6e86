-- Law: what a make builds is what building it afresh gives.
use Rattle.std.proofs.Common.{◌≡◌, ◌⊎◌, inl, inr, ℕ, List, [], refl, sym, ap, subst, ◌∙◌, Result, Ok, Err}
use Rattle.naga_oil_ir.specs.ModuleValue.{ModuleValue}
use Rattle.naga_oil_pre.specs.Preprocessed.{Output}
use Rattle.naga_oil_conditions.specs.Fault.{Fault}
use Rattle.naga_oil_registry.specs.Added.{read_source}
use Rattle.naga_oil_registry.specs.Registered.{Registered, Defs}
use Rattle.naga_oil_registry.specs.Descriptor.{ShaderSource}
use Rattle.naga_oil_registry.specs.Merged.{overwritten}
use Rattle.naga_oil_registry.specs.Registry.{IsRegistry}
use Rattle.naga_oil_link.specs.BuiltModule.{Builds}
use Rattle.naga_oil_build.specs.Built.{preprocessed_of}
use Rattle.naga_oil_build.specs.Held.{Settings}
use Rattle.naga_oil.specs.AfreshLaw.{AllStandAfresh}
use Rattle.naga_oil.specs.Answer.{in_shader, refusal, of_shader, any_use, reach_uses, read_and_build_first, read_and_build_second, module_of_text, answer}
use Rattle.naga_oil.specs.Finish.{finish}
use Rattle.naga_oil.specs.MadeAfreshLaw.{MadeAfreshLaw, MadeKeptLaw}
use Rattle.naga_oil.specs.MakeDefs.{defs_merged, defs_of_text, make_defs}
use Rattle.naga_oil.specs.Outcome.{Outcome, Doing, given, done_with, fault_as, map_err, ◌>>=◌}
use Rattle.naga_oil.specs.Reach.{Unreached, defined}
use Rattle.naga_oil.specs.Refused.{Refused, in_text, placed}
use Rattle.naga_oil.specs.Shader.{read_shader, defs_union_over}
use Rattle.naga_oil.proofs.AfreshLemmas.{afresh_law}
use Rattle.naga_oil.proofs.AfreshReadLemmas.{reading_law}
use Rattle.naga_oil.proofs.FinishedLemmas.{defs_back, text_defs, made_defs}
use Rattle.naga_oil.proofs.StoreNewLemmas.{newly_kept_law}

module _ (s : Settings) (ds : List Registered) (all : IsRegistry ds) where
  abbrev Stand : Defs → Builds → Type 0
  Stand defs bs = AllStandAfresh s ds defs bs

  none : (defs : Defs) → Stand defs []
  none defs = (afresh_law s ds defs all).nothing

  -- nothing was built, and that ended it
  record IsNothing (o : Outcome Defs Refused) : Type 0 where
    built : o.builds ≡ []
    ends : (defs : Defs) → o.result ≡ Ok defs → ⊥

  -- or it came to definitions, and what was built stands under these
  record IsMerged (d : Result Defs Fault) (o : Outcome Defs Refused) : Type 0 where
    defs : Defs
    merged : d ≡ Ok defs
    stand : Stand defs o.builds
    same : (x : Defs) → o.result ≡ Ok x → defs ≡ x

  abbrev FirstStands : Result Defs Fault → Outcome Defs Refused → Type 0
  FirstStands d o = IsNothing o ⊎ IsMerged d o

  -- the same of all that a make builds
  abbrev MadeStands : Result Defs Fault → Builds → Type 0
  MadeStands d bs = (bs ≡ []) ⊎ ((defs : Defs) × (d ≡ Ok defs) × Stand defs bs)

  module _ (text : List ℕ) (shader : Registered) (own : Defs) where
    abbrev goes : Defs → Outcome (Unit {0}) Unreached → Result (Unit {0}) Unreached → Outcome Defs Refused
    goes defs o r = done_with (fault_as (refusal shader.file_path text defs) o) (λ done. given (Ok defs)) (map_err (refusal shader.file_path text defs) r)

    abbrev reached : Output → Defs → Doing Defs Refused
    reached out defs = of_shader shader.file_path text defs (reach_uses s ds defs any_use out.uses) >>= λ done. given (Ok defs)

    abbrev united : Output → Result Defs Fault → Doing Defs Refused
    united out r = in_shader shader.file_path text r >>= reached out

    abbrev first_by : Result Output Fault → Doing Defs Refused
    first_by r = in_shader shader.file_path text r >>= λ out. united out (defs_union_over ds own out.uses)

    goes_stands : (d : Result Defs Fault) (defs : Defs) (o : Outcome (Unit {0}) Unreached) (r : Result (Unit {0}) Unreached) → d ≡ Ok defs → Stand defs o.builds → IsMerged d (goes defs o r)
    goes_stands d defs o (Ok x) e st = record { defs = defs; merged = e; stand = st; same = λ x i. (let z : defs ≡ x = cc in z) }
    goes_stands d defs o (Err w) e st = record { defs = defs; merged = e; stand = st; same = λ x i. absurd cc }

    united_stands : (out : Output) (r : Result Defs Fault) → preprocessed_of (defined own) shader ≡ Ok out → defs_union_over ds own out.uses ≡ r → FirstStands (defs_merged ds shader own) (united out r [])
    united_stands out (Ok defs) p u =
        let o = reach_uses s ds defs any_use out.uses [] in
        inr (goes_stands (defs_merged ds shader own) defs o o.result (defs_back ds shader own out defs p u) ((afresh_law s ds defs all).each any_use out.uses [] (none defs)).stand)
    united_stands out (Err f) p u = inl (record { built = refl; ends = λ defs e. absurd cc })

    first_stands : (r : Result Output Fault) → preprocessed_of (defined own) shader ≡ r → FirstStands (defs_merged ds shader own) (first_by r [])
    first_stands (Ok out) p = united_stands out (defs_union_over ds own out.uses) p refl
    first_stands (Err f) p = inl (record { built = refl; ends = λ defs e. absurd cc })

  module _ (m : ShaderSource) (text : List ℕ) where
    abbrev rest : Registered → Defs → Doing ModuleValue Refused
    rest shader defs = read_and_build_second s ds text shader defs >>= λ out. λ builds. given (finish s defs builds shader out m.shader_type) builds

    after : (o : Outcome Output Refused) (g : Output → Builds → Result ModuleValue Refused) (r : Result Output Refused) → (done_with o (λ out builds. given (g out builds) builds) r).builds ≡ o.builds
    after o g (Ok out) = refl
    after o g (Err f) = refl

    rest_stands : (shader : Registered) (defs : Defs) (bs : Builds) → Stand defs bs → Stand defs (rest shader defs bs).builds
    rest_stands shader defs bs st =
        let o = read_and_build_second s ds text shader defs bs in
        subst (Stand defs) (sym (after o (λ out builds. finish s defs builds shader out m.shader_type) o.result)) (reading_law s ds defs text shader bs all st).read.stand

    second_stands : (shader : Registered) (d : Result Defs Fault) (o : Outcome Defs Refused) → FirstStands d o → (r : Result Defs Refused) → o.result ≡ r → MadeStands d (done_with o (rest shader) r).builds
    second_stands shader d o (inl n) (Ok defs) e = absurd (n.ends defs e)
    second_stands shader d o (inl n) (Err f) e = inl n.built
    second_stands shader d o (inr k) (Ok defs) e = inr (defs, k.merged ∙ ap (λ (x : Defs). Ok x) (k.same defs e), rest_stands shader defs o.builds (subst (λ (x : Defs). Stand x o.builds) (k.same defs e) k.stand))
    second_stands shader d o (inr k) (Err f) e = inr (k.defs, k.merged, k.stand)

    abbrev own_of : Registered → Defs
    own_of shader = overwritten m.defs shader.defs

    abbrev made_by : Result Registered Fault → Doing ModuleValue Refused
    made_by r = in_shader m.file_path text r >>= λ shader. read_and_build_first s ds text shader (own_of shader) >>= rest shader

    shader_stands : (shader : Registered) → MadeStands (defs_merged ds shader (own_of shader)) ((read_and_build_first s ds text shader (own_of shader) >>= rest shader) []).builds
    unfolding read_and_build_first
    shader_stands shader =
        let o = read_and_build_first s ds text shader (own_of shader) [] in
        second_stands shader (defs_merged ds shader (own_of shader)) o (first_stands text shader (own_of shader) (preprocessed_of (defined (own_of shader)) shader) refl) o.result refl

    by_text : (shader : Registered) (bs : Builds) → read_shader m text ≡ Ok shader → MadeStands (defs_merged ds shader (own_of shader)) bs → MadeStands (defs_of_text ds m text) bs
    by_text shader bs e (inl z) = inl z
    by_text shader bs e (inr k) = inr (k.0, text_defs ds m text shader k.0 e k.1, k.2)

    made_stands : (r : Result Registered Fault) → read_shader m text ≡ r → MadeStands (defs_of_text ds m text) (made_by r []).builds
    made_stands (Ok shader) e = by_text shader _ e (shader_stands shader)
    made_stands (Err f) e = inl refl

    pub make_stands : MadeStands (defs_of_text ds m text) (module_of_text s ds m text []).builds
    unfolding module_of_text
    make_stands = made_stands (read_shader m text) refl

  module _ (counter : ℕ) (m : ShaderSource) where
    abbrev answered_by : Result (List ℕ × ℕ) Fault → Outcome ModuleValue Refused
    answered_by r = (given (placed (in_text m.file_path m.source 0) r) >>= λ read. module_of_text s ds m read.0) []

    read_stands : (read : List ℕ × ℕ) → read_source counter m.source ≡ Ok read → (bs : Builds) → MadeStands (defs_of_text ds m read.0) bs → Stand (make_defs ds counter m) bs
    read_stands read e bs (inl z) = subst (Stand (make_defs ds counter m)) (sym z) (none (make_defs ds counter m))
    read_stands read e bs (inr k) = subst (λ (x : Defs). Stand x bs) (made_defs ds counter m read k.0 e k.1) k.2

    by_read : (r : Result (List ℕ × ℕ) Fault) → read_source counter m.source ≡ r → Stand (make_defs ds counter m) (answered_by r).builds
    by_read (Ok read) e = read_stands read e _ (make_stands m read.0)
    by_read (Err f) e = none (make_defs ds counter m)

    pub answer_stands : Stand (make_defs ds counter m) (answer s ds counter m).builds
    unfolding answer
    answer_stands = by_read (read_source counter m.source) refl

pub made_afresh : MadeAfreshLaw
made_afresh s ds counter m all = answer_stands s ds all counter m

pub made_kept : MadeKeptLaw
made_kept s ds counter m kept all = newly_kept_law ds (make_defs ds counter m) kept (answer s ds counter m).builds (answer_stands s ds all counter m).differ
