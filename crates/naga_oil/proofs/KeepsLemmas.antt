-- The builds that stay kept while modules are reached.
use Rattle.std.proofs.Common.{◌≡◌, ℕ, ◌+◌, ◌⊎◌, List, drop, Option, Some, None, MatchOption, Result, Ok, Err, IsErrAnd, OnOk, OnErr, [], refl, sym, ap, subst, ◌∙◌, inl, inr}
use Rattle.std.specs.List.{slice_get}
use Rattle.naga_oil_conditions.specs.Fault.{Fault}
use Rattle.naga_oil_pre.specs.Preprocessed.{Output}
use Rattle.naga_oil_words.specs.ResultSteps.{◌>>=◌}
use Rattle.naga_oil_registry.specs.Registered.{Registered, Defs}
use Rattle.naga_oil_registry.specs.Descriptor.{ShaderSource}
use Rattle.naga_oil_registry.specs.Merged.{overwritten}
use Rattle.naga_oil_registry.specs.Registry.{IsRegistry}
use Rattle.naga_oil_link.specs.BuiltModule.{BuiltModule, Builds}
use Rattle.naga_oil_build.specs.Build.{Unbuilt, build}
use Rattle.naga_oil_build.specs.Built.{preprocessed_of}
use Rattle.naga_oil_build.specs.Held.{Settings}
use Rattle.naga_oil.specs.AfreshLaw.{AllStandAfresh}
use Rattle.naga_oil.specs.MakeDefs.{defs_merged, defs_of_text, defs_or_none}
use Rattle.naga_oil.specs.MakeView.{Keeps, KeepsBuild, KeepsFirst, TellsUnreached, nothing_said, unreached_of, ends_with, state_with}
use Rattle.naga_oil.specs.Outcome.{Outcome, Does}
use Rattle.naga_oil.specs.Reach.{Unreached, unbuilt, as_recorded, builds_with, defined, enter_build, preprocess_module, reach, reach_each, unless_built}
use Rattle.naga_oil.specs.Refused.{Place, Refused, UnlessMemory, placed, nowhere, place_of, refused_of}
use Rattle.naga_oil.specs.Shader.{defs_union_over, read_shader}
use Rattle.naga_oil.specs.Store.{Key, Kept, KeepsAll, key_under, kept_under, keep_build, keep_builds}
use Rattle.naga_oil.specs.StoreLaw.{IsStore, Stands, reach_imports}
use Rattle.naga_oil.specs.declared.compose.error.ComposerError.{ComposerError}
use Rattle.naga_oil.specs.declared.compose.reach.Unreached.{Unreached as CodeUnreached}
use Rattle.naga_oil.proofs.StoreKeyLemmas.{keeps_none, keeps_then, keep_all, kept_found, kept_stays}
use Rattle.naga_oil.proofs.StoreLawLemmas.{stands_more, stands_nothing}
use Rattle.naga_oil.proofs.StoreStepLemmas.{built_entered, kept_entered, built_since, kept_since}

-- a fact of two values holds of two equal values
subst2 : {X Y : Type 0} (P : X → Y → Type 0) {x x' : X} {y y' : Y} → x ≡ x' → y ≡ y' → P x y → P x' y'
subst2 P {x} {x'} {y} {y'} e f h = subst (λ z. P x' z) f (subst (λ z. P z y) e h)

-- a fact that holds also holds unless memory ran out
pub always : {X E F : Type 0} (told : E → Option F) (r : Result X E) (P : Type 0) → P → UnlessMemory told r P
always told (Ok x) P p = p
always {X} {E} {F} told (Err e) P p = go (told e)
  where
    go : (o : Option F) → MatchOption o (Unit {0}) (λ f. P)
    go None = tt
    go (Some f) = p

-- nothing is done yet
abbrev pub nothing_wrong : (E : Type 0) → Result (Unit {0}) E
nothing_wrong E = Ok tt

-- a call whose memory ran out
abbrev pub IsLost : {X E F : Type 0} → (told : E → Option F) → Result X E → Type 0
IsLost told r = IsErrAnd r (λ o. told o ≡ None)

unless_lost : {X E F : Type 0} (told : E → Option F) (r : Result X E) (P : Type 0) → IsLost told r → UnlessMemory told r P
unless_lost told (Ok x) P h = absurd h
unless_lost told (Err e) P h = subst (λ o. MatchOption o (Unit {0}) (λ f. P)) (sym h) tt

unless_ended : {Y E F : Type 0} (told : E → Option F) (e : E) (r : Result Y E) (P : Type 0) → IsErrAnd r (λ o. o ≡ e) → MatchOption (told e) (Unit {0}) (λ f. P) → UnlessMemory told r P
unless_ended told e (Ok x) P is h = absurd is
unless_ended told e (Err o) P is h = subst (λ x. MatchOption (told x) (Unit {0}) (λ f. P)) (sym is) h

-- nothing more is said of such a call
pub does_lost : {X Y E F : Type 0} (view : X → Y) (told : E → Option F) (r : Result X E) (bs : Builds) (v : Outcome Y F) → IsLost told r → Does view told nothing_said r bs v
does_lost view told (Ok x) bs v h = absurd h
does_lost view told (Err e) bs v h = subst (λ o. MatchOption o (Unit {0}) (λ f. v ≡ record { builds = bs; result = Err f })) (sym h) tt

module _ (s : Settings) (ds : List Registered) (defs : Defs) {E F : Type 0} (told : E → Option F) (bs : Builds) (kept : Kept) where
  abbrev Kept_then : {X : Type 0} → Result X E → Builds → Kept → Type 0
  Kept_then r newer more = Keeps s ds defs told r (state_with bs kept) (state_with newer more)

  pub keeps_same : {X : Type 0} (r : Result X E) → Stands s ds defs bs kept → Kept_then r bs kept
  keeps_same r st = record { stand = st; since = λ begun h. always told r (kept ≡ keep_builds ds defs begun bs) h; all = keeps_none kept }

  pub keeps_lost : {X : Type 0} (r : Result X E) (newer : Builds) (more : Kept) → IsLost told r → Stands s ds defs newer more → KeepsAll kept more → Kept_then r newer more
  keeps_lost r newer more lost st all = record { stand = st; since = λ begun h. unless_lost told r (more ≡ keep_builds ds defs begun newer) lost; all = all }

  module _ (mid : Builds) (m : Kept) (first : Kept_then (nothing_wrong E) mid m) where
    -- the builds stay kept, whatever the result
    pub keeps_still : {X : Type 0} (r : Result X E) → Kept_then r mid m
    keeps_still r = record { stand = first.stand; since = λ begun h. always told r (m ≡ keep_builds ds defs begun mid) (first.since begun h); all = first.all }

    -- one after the other
    pub keeps_on : {X : Type 0} (r : Result X E) (newer : Builds) (more : Kept) → Keeps s ds defs told r (state_with mid m) (state_with newer more) → Kept_then r newer more
    keeps_on r newer more h = record { stand = h.stand; since = λ begun e. h.since begun (first.since begun e); all = keeps_then first.all h.all }

    -- the error of the second call ends both
    pub keeps_ended : {X Y : Type 0} (e : E) (r : Result Y E) (newer : Builds) (more : Kept) → IsErrAnd r (λ o. o ≡ e) → Keeps {X = X} s ds defs told (Err e) (state_with mid m) (state_with newer more) → Kept_then r newer more
    keeps_ended e r newer more is h = record { stand = h.stand; since = λ begun k. unless_ended told e r (more ≡ keep_builds ds defs begun newer) is (h.since begun (first.since begun k)); all = keeps_then first.all h.all }

on_ok : {X E : Type 0} (r : Result X E) {P : Type 0} → P → OnOk r P
on_ok (Ok x) p = p
on_ok (Err e) p = tt

-- ---- a module is built, kept and entered

module _ (s : Settings) (ds : List Registered) (defs : Defs) (all : IsRegistry ds) (place : ℕ) (d : Registered) (found : slice_get ds place ≡ Some d) (bs mid : Builds) (kept m : Kept) where
  abbrev key : Key
  key = key_under d defs

  abbrev Then : Result (Unit {0}) CodeUnreached → Builds → Kept → Type 0
  Then r newer more = Keeps s ds defs unreached_of r (state_with bs kept) (state_with newer more)

  module _ (out : Output) (first : AllStandAfresh s ds defs bs) (read : preprocessed_of (defined defs) d ≡ Ok out) (used : reach_each (as_recorded d) (unless_built (reach s defs (drop (place + 1) ds))) out.uses bs ≡ record { builds = mid; result = Ok tt }) (h : Then (Ok tt) mid m) where
    enters : (r : Result (Unit {0}) CodeUnreached) (built : Result BuiltModule Unbuilt) (newer : Builds) (more : Kept) → build s d out mid ≡ built → Does (λ done. done) unreached_of nothing_said r newer (enter_build d.name built mid)
        → KeepsBuild r key built m more → OnErr r (newer ≡ mid) → Then r newer more
    enters (Ok tt) (Ok b) newer more is does keeps refused =
        let grown : builds_with mid d.name b ≡ newer = ap (λ (o : Outcome (Unit {0}) Unreached). o.builds) does in
        record {
          stand = subst2 (Stands s ds defs) grown (sym keeps) (built_entered s ds defs all place d found bs mid m out b first read used h.stand is);
          since = λ begun e. keeps ∙ built_since s ds defs all place d found begun mid m b h.stand (h.since begun e) ∙ ap (keep_builds ds defs begun) grown;
          all = keeps_then h.all (subst (KeepsAll m) (sym keeps) (keep_all m key b));
        }
    enters (Ok tt) (Err u) newer more is does keeps refused = absurd (let e : ◌≡◌ {A = Result (Unit {0}) Unreached} (Err (unbuilt d.name u)) (Ok tt) = ap (λ (o : Outcome (Unit {0}) Unreached). o.result) does in cc)
    enters (Err e) (Err u) newer more is does keeps refused = subst2 (Then (Err e)) (sym refused) (sym keeps) (keeps_still s ds defs unreached_of bs kept mid m h (Err e))
    enters (Err e) (Ok b) newer more is does (inl same) refused = subst2 (Then (Err e)) (sym refused) (sym same) (keeps_still s ds defs unreached_of bs kept mid m h (Err e))
    enters (Err e) (Ok b) newer more is does (inr one) refused = subst2 (Then (Err e)) (sym refused) (sym one) (keeps_lost s ds defs unreached_of bs kept (Err e) mid (keep_build m key b) (lost (unreached_of e) refl does)
        (stands_more s ds h.stand (built_entered s ds defs all place d found bs mid m out b first read used h.stand is).store (keep_all m key b)) (keeps_then h.all (keep_all m key b)))
      where
        lost : (o : Option Unreached) → unreached_of e ≡ o → MatchOption (unreached_of e) (Unit {0}) (λ f. enter_build d.name (Ok b) mid ≡ record { builds = newer; result = Err f }) → unreached_of e ≡ None
        lost None q k = q
        lost (Some w) q k =
            let ends : enter_build d.name (Ok b) mid ≡ record { builds = newer; result = Err w } = subst (λ x. MatchOption x (Unit {0}) (λ f. enter_build d.name (Ok b) mid ≡ record { builds = newer; result = Err f })) q k in
            absurd (let z : ◌≡◌ {A = Result (Unit {0}) Unreached} (Ok tt) (Err w) = ap (λ (o : Outcome (Unit {0}) Unreached). o.result) ends in cc)

    pub keeps_built : (r : Result (Unit {0}) CodeUnreached) (newer : Builds) (more : Kept) → Does (λ done. done) unreached_of nothing_said r newer (enter_build d.name (build s d out mid) mid)
        → KeepsBuild r key (build s d out mid) m more → OnErr r (newer ≡ mid) → Then r newer more
    keeps_built r newer more does keeps refused = enters r (build s d out mid) newer more refl does keeps refused

  -- the module's build is kept, and it is entered
  pub keeps_kept : (b : BuiltModule) (newer : Builds) → Stands s ds defs bs kept → kept_under kept key ≡ Some b → reach_imports (unless_built (reach s defs (drop (place + 1) ds))) b.imports bs ≡ record { builds = mid; result = Ok tt }
      → Then (Ok tt) mid m → newer ≡ builds_with mid d.name b → Then (Ok tt) newer m
  keeps_kept b newer first at imported h grown =
      let there = kept_stays h.all key (kept_found kept key b at) in
      subst (λ (n : Builds). Then (Ok tt) n m) (sym grown) (record {
        stand = kept_entered s ds defs all place d found bs mid kept m b first at h.all imported h.stand;
        since = λ begun e. kept_since s ds defs all place d found begun mid m b h.stand (h.since begun e) there;
        all = h.all;
      })

-- ---- a make that begins

module _ (s : Settings) (ds : List Registered) {E F : Type 0} (told : E → Option F) (kept : Kept) where
  -- the make is refused before it builds
  pub first_none : {X : Type 0} (r : Result X E) (defs : Result Defs Fault) (under : Defs) → IsErrAnd r (λ o. Unit {0}) → IsRegistry ds → IsStore s ds kept → KeepsFirst s ds told defs r kept (ends_with under [] kept)
  first_none r defs under ends all store = record { comes = refused r ends; stand = stands_nothing s ds under kept all store; kept_all = always told r (kept ≡ kept) refl; all = keeps_none kept }
    where
      refused : {X : Type 0} (r : Result X E) → IsErrAnd r (λ o. Unit {0}) → OnOk r (defs ≡ Ok under)
      refused (Ok x) h = absurd h
      refused (Err e) h = tt

  -- the make builds under these definitions
  pub first_more : {X : Type 0} (r : Result X E) (defs : Result Defs Fault) (under : Defs) (newer : Builds) (more : Kept) → defs ≡ Ok under → Keeps s ds under told r (state_with [] kept) (state_with newer more) → KeepsFirst s ds told defs r kept (ends_with under newer more)
  first_more {X} r defs under newer more is h = subst (λ d. KeepsFirst s ds told d r kept (ends_with under newer more)) (sym is) (record { comes = on_ok r refl; stand = h.stand; kept_all = h.since kept refl; all = h.all })

  -- the make goes on
  pub first_then : {X Y : Type 0} (x : X) (r : Result Y E) (defs : Result Defs Fault) (under : Defs) (mid newer : Builds) (m more : Kept) → KeepsFirst s ds told defs (Ok x) kept (ends_with under mid m) → Keeps s ds under told r (state_with mid m) (state_with newer more) → KeepsFirst s ds told defs r kept (ends_with under newer more)
  first_then x r defs under mid newer m more first h =
      subst (λ d. KeepsFirst s ds told d r kept (ends_with under newer more)) (sym first.comes) (record {
        comes = on_ok r refl;
        stand = h.stand;
        kept_all = h.since kept (first.kept_all ∙ ap (λ d. keep_builds ds (defs_or_none d) kept mid) first.comes);
        all = keeps_then first.all h.all;
      })

  -- the error of a step ends the whole
  pub first_ended : {X Y : Type 0} (e : E) (r : Result Y E) (defs : Result Defs Fault) (under : Defs) (newer : Builds) (more : Kept) → IsErrAnd r (λ o. o ≡ e) → KeepsFirst {X = X} s ds told defs (Err e) kept (ends_with under newer more) → KeepsFirst s ds told defs r kept (ends_with under newer more)
  first_ended e r defs under newer more is h = record { comes = refused r is; stand = h.stand; kept_all = unless_ended told e r (more ≡ keep_builds ds (defs_or_none defs) kept newer) is h.kept_all; all = h.all }
    where
      refused : {Y : Type 0} (r : Result Y E) → IsErrAnd r (λ o. o ≡ e) → OnOk r (defs ≡ Ok under)
      refused (Ok x) h = absurd h
      refused (Err o) h = tt

-- ---- a call for a shader

module _ (s : Settings) (ds : List Registered) (defs : Defs) (bs : Builds) (kept : Kept) (newer : Builds) (more : Kept) where
  -- what stays kept doesn't depend on the value of an answer
  pub keeps_ok : {X Y E F G H : Type 0} (told : E → Option F) (tell : G → Option H) (x : X) (y : Y) → Keeps s ds defs told (Ok x) (state_with bs kept) (state_with newer more) → Keeps s ds defs tell (Ok y) (state_with bs kept) (state_with newer more)
  keeps_ok told tell x y h = record { stand = h.stand; since = h.since; all = h.all }

  -- what is answered after that changes nothing
  pub keeps_whatever : {X Y E F : Type 0} (told : E → Option F) (x : X) (r : Result Y E) → Keeps s ds defs told (Ok x) (state_with bs kept) (state_with newer more) → Keeps s ds defs told r (state_with bs kept) (state_with newer more)
  keeps_whatever told x r h = record { stand = h.stand; since = λ begun e. always told r (more ≡ keep_builds ds defs begun newer) (h.since begun e); all = h.all }

  -- an error reports why a module can't be reached
  pub keeps_told : {X Y : Type 0} (tell : Unreached → Refused) (why : CodeUnreached) (e : ComposerError) → TellsUnreached tell why e → Keeps {X = X} s ds defs unreached_of (Err why) (state_with bs kept) (state_with newer more) → Keeps {X = Y} s ds defs refused_of (Err e) (state_with bs kept) (state_with newer more)
  keeps_told tell why e tells h = record { stand = h.stand; since = λ begun k. go (refused_of e) (more ≡ keep_builds ds defs begun newer) tells (h.since begun k); all = h.all }
    where
      go : (o : Option Refused) (P : Type 0) → MatchOption o (place_of e.source ≡ nowhere) (λ r. (w : Unreached) × (unreached_of why ≡ Some w) × (tell w ≡ r)) → MatchOption (unreached_of why) (Unit {0}) (λ f. P) → MatchOption o (Unit {0}) (λ f. P)
      go None P t k = tt
      go (Some r) P t k = subst (λ o. MatchOption o (Unit {0}) (λ f. P)) t.1 k

-- a build that isn't entered may not be kept
pub keeps_nothing : (e : CodeUnreached) (k : Key) (r : Result BuiltModule Unbuilt) (kept : Kept) → KeepsBuild (Err e) k r kept kept
keeps_nothing e k (Ok b) kept = inl refl
keeps_nothing e k (Err u) kept = refl

-- what was preprocessed of a module
pub read_so : (defs : Defs) (d : Registered) (bs : Builds) (out : Output) (r : Result Output Fault) → preprocess_module defs d r bs ≡ record { builds = bs; result = Ok out } → r ≡ Ok out
read_so defs d bs out (Ok o) h = let e : ◌≡◌ {A = Result Output Unreached} (Ok o) (Ok out) = ap (λ (z : Outcome Output Unreached). z.result) h in let same : o ≡ out = cc in ap (λ (x : Output). Ok x) same
read_so defs d bs out (Err f) h = absurd (let e : ◌≡◌ {A = Result Output Unreached} (Err (unbuilt d.name (record { fault = f; offset = 0 }))) (Ok out) = ap (λ (z : Outcome Output Unreached). z.result) h in cc)

-- ---- the definitions that a make comes to

pub is_err : {X E : Type 0} (e : E) (r : Result X E) → IsErrAnd r (λ o. o ≡ e) → IsErrAnd r (λ o. Unit {0})
is_err e (Ok x) h = absurd h
is_err e (Err o) h = tt

pub placed_ok : {Y : Type 0} (place : Place) (r : Result Y Fault) (y : Y) → placed place r ≡ Ok y → r ≡ Ok y
placed_ok place (Ok x) y h = cc
placed_ok place (Err f) y h = absurd cc

pub merged_so : (ds : List Registered) (d : Registered) (own : Defs) (out : Output) (defs : Defs) → preprocessed_of (defined own) d ≡ Ok out → defs_union_over ds own out.uses ≡ Ok defs → defs_merged ds d own ≡ Ok defs
merged_so ds d own out defs read union = ap (λ r. r >>= λ out. defs_union_over ds own out.uses) read ∙ union

pub text_so : (ds : List Registered) (m : ShaderSource) (text : List ℕ) (d : Registered) (own : Defs) → read_shader m text ≡ Ok d → overwritten m.defs d.defs ≡ own → defs_of_text ds m text ≡ defs_merged ds d own
text_so ds m text d own read is = ap (λ r. r >>= λ shader. defs_merged ds shader (overwritten m.defs shader.defs)) read ∙ ap (defs_merged ds d) is
