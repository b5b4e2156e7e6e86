-- What the answers of `ensure` share: a walk over imports that has come to one of them, a module whose text is read, and one whose build is
-- kept.
use Rattle.std.proofs.Common.{◌≡◌, ◌∙◌, ℕ, ◌+◌, List, [], ◌∷◌, drop, map, slice_get, Option, Some, None, Result, Ok, Err, MatchOption, OnErr, add-one, ap, subst, sym}
use Rattle.naga_oil_ir.specs.Backend.{FrontEnd}
use Rattle.naga_oil_imports.specs.Uses.{Use, use_of, import_of}
use Rattle.naga_oil_imports.specs.declared.import_definition.ImportDefWithOffset.{ImportDefWithOffset}
use Rattle.naga_oil_imports.specs.declared.import_definition.ImportDefinition.{ImportDefinition}
use Rattle.naga_oil_pre.specs.Preprocessed.{Output}
use Rattle.naga_oil_registry.specs.Registered.{Registered}
use Rattle.naga_oil_link.specs.BuiltModule.{BuiltModule, Builds}
use Rattle.naga_oil_build.specs.Build.{build}
use Rattle.naga_oil_build.specs.Built.{preprocessed_of}
use Rattle.naga_oil_build.specs.Held.{Settings}
use Rattle.naga_oil.specs.MakeView.{settings_by, defs_in, builds_in, kept_in, modules_in, BuildsMore, IsReady, Keeps, KeepsBuild, KeepsMore, Reaches, RefusesBy, rule_of, unreached_of, state_with}
use Rattle.naga_oil.specs.Outcome.{Outcome}
use Rattle.naga_oil.specs.Reach.{Unreached, Reaching, Rule, as_recorded, defined, enter_build, preprocess_module, reach, reach_each, reach_module, unless_built}
use Rattle.naga_oil.specs.Store.{Key, key_under, kept_under}
use Rattle.naga_oil.specs.StoreLaw.{reach_imports, reach_kept}
use Rattle.naga_oil.specs.declared.compose.make.Maker.{Maker}
use Rattle.naga_oil.specs.declared.compose.reach.Rule.{Rule as CodeRule}
use Rattle.naga_oil.specs.declared.compose.reach.Unreached.{Unreached as CodeUnreached}
use Rattle.naga_oil.proofs.KeepsLemmas.{keeps_on, keeps_built, nothing_wrong, read_so}
use Rattle.naga_oil.proofs.ReachLemmas.{told_more, module_ended, module_over, next_refused, next_ended, next_reached}
use Rattle.naga_oil.proofs.StoreLawLemmas.{kept_law}
use Rattle.naga_oil.proofs.StoreStepLemmas.{imports_none, imports_more, imports_ended, kept_ended}

-- ---- makers

-- how a maker reaches modules from a place of the registry on
abbrev pub reaching_from : {B : Type 0} → (front : B → FrontEnd) → Maker B → ℕ → Reaching
reaching_from front m from = unless_built (reach (settings_by front m) (defs_in m) (drop from (modules_in m)))

-- what changes in two calls, one after the other
pub more_on : {B : Type 0} (m mid new : Maker B) → BuildsMore m mid → BuildsMore mid new → BuildsMore m new
more_on {B} m mid new first second = second ∙ ap (λ (n : Maker B). record n { builder = record n.builder { builds = new.builder.builds }; store = new.store }) first

pub keeps_more : {B X : Type 0} (front : B → FrontEnd) (m mid new : Maker B) (r : Result X CodeUnreached) → BuildsMore m mid → KeepsMore front unreached_of (nothing_wrong CodeUnreached) m mid
    → KeepsMore front unreached_of r mid new → KeepsMore front unreached_of r m new
keeps_more {B} front m mid new r rest first second =
    keeps_on (settings_by front m) (modules_in m) (defs_in m) unreached_of (builds_in m) (kept_in m) (builds_in mid) (kept_in mid) first r (builds_in new) (kept_in new)
    (subst (λ (n : Maker B). Keeps (settings_by front n) (modules_in n) (defs_in n) unreached_of r (state_with (builds_in mid) (kept_in mid)) (state_with (builds_in new) (kept_in new))) rest second)

-- ---- a walk over uses

-- a walk over uses has come to a maker and to the use at a place
pub record AtUse {B : Type 0} (front : B → FrontEnd) (m mid : Maker B) (rule : CodeRule) (from : ℕ) (us : List ImportDefWithOffset) (i : ℕ) (x : ImportDefWithOffset) : Type 0 where
  pub next : drop i us ≡ x ∷ drop (i + 1) us
  pub rest : BuildsMore m mid
  pub reached : reach_each (rule_of (modules_in m) (defs_in m) rule) (reaching_from front m from) (map use_of (drop i us)) (builds_in mid)
      ≡ reach_each (rule_of (modules_in m) (defs_in m) rule) (reaching_from front m from) (map use_of us) (builds_in m)

module _ {B : Type 0} {front : B → FrontEnd} {m mid : Maker B} {rule : CodeRule} {from : ℕ} {us : List ImportDefWithOffset} {i : ℕ} {x : ImportDefWithOffset} (at : AtUse front m mid rule from us i x) where
  abbrev allowed : Rule
  allowed = rule_of (modules_in m) (defs_in m) rule

  abbrev reaching : Reaching
  reaching = reaching_from front m from

  abbrev whole : Outcome (Unit {0}) Unreached
  whole = reach_each allowed reaching (map use_of us) (builds_in m)

  ruled : allowed (use_of x) ≡ rule_of (modules_in mid) (defs_in mid) rule (use_of x)
  ruled = ap (λ (n : Maker B). rule_of (modules_in n) (defs_in n) rule (use_of x)) (sym at.rest)

  -- the use isn't allowed
  pub use_refused : (e : CodeUnreached) → RefusesBy (rule_of (modules_in mid) (defs_in mid) rule) (use_of x) (Some e)
      → MatchOption (unreached_of e) (Unit {0}) (λ w. whole ≡ record { builds = builds_in mid; result = Err w })
  use_refused e h = told_more (unreached_of e) _ _ (λ w k. sym at.reached ∙ next_refused allowed reaching x (drop i us) (drop (i + 1) us) at.next (builds_in mid) w (ruled ∙ k)) h

  pub use_allowed : (o : Option CodeUnreached) → o ≡ None → RefusesBy (rule_of (modules_in mid) (defs_in mid) rule) (use_of x) o → allowed (use_of x) ≡ None
  use_allowed o is h = ruled ∙ subst (λ o. RefusesBy (rule_of (modules_in mid) (defs_in mid) rule) (use_of x) o) is h

  module _ (may : allowed (use_of x) ≡ None) (name : List ℕ) (called : name ≡ (use_of x).import.import) (new : Maker B) where
    alike : reaching name (builds_in mid) ≡ reaching_from front mid from name (builds_in mid)
    alike = ap (λ (n : Maker B). reaching_from front n from name (builds_in mid)) (sym at.rest)

    -- the used module can't be reached
    pub use_ended : (w : Unreached) → reaching_from front mid from name (builds_in mid) ≡ record { builds = builds_in new; result = Err w } → whole ≡ record { builds = builds_in new; result = Err w }
    use_ended w h = sym at.reached ∙ next_ended allowed reaching x (drop i us) (drop (i + 1) us) at.next (builds_in mid) name called (builds_in new) may w (alike ∙ h)

    -- it is reached, and the other uses are left
    pub use_reached : reaching_from front mid from name (builds_in mid) ≡ record { builds = builds_in new; result = Ok tt } → reach_each allowed reaching (map use_of (drop (i + 1) us)) (builds_in new) ≡ whole
    use_reached h = sym (next_reached allowed reaching x (drop i us) (drop (i + 1) us) at.next (builds_in mid) name called (builds_in new) may (alike ∙ h)) ∙ at.reached

-- ---- a walk over the imports of a kept build

-- a walk over imports has come to a maker and to the import at a place
pub record AtImport {B : Type 0} (front : B → FrontEnd) (m mid : Maker B) (from : ℕ) (us : List ImportDefinition) (i : ℕ) (x : ImportDefinition) : Type 0 where
  pub next : drop i us ≡ x ∷ drop (i + 1) us
  pub rest : BuildsMore m mid
  pub reached : reach_imports (reaching_from front m from) (map import_of (drop i us)) (builds_in mid) ≡ reach_imports (reaching_from front m from) (map import_of us) (builds_in m)

module _ {B : Type 0} {front : B → FrontEnd} {m mid : Maker B} {from : ℕ} {us : List ImportDefinition} {i : ℕ} {x : ImportDefinition} (at : AtImport front m mid from us i x) (name : List ℕ) (called : name ≡ (import_of x).import) (new : Maker B) where
  abbrev f : Reaching
  f = reaching_from front m from

  first : reach_imports f (map import_of (drop i us)) (builds_in mid) ≡ reach_imports f (import_of x ∷ map import_of (drop (i + 1) us)) (builds_in mid)
  first = ap (λ (js : List ImportDefinition). reach_imports f (map import_of js) (builds_in mid)) at.next

  same : f (import_of x).import (builds_in mid) ≡ reaching_from front mid from name (builds_in mid)
  same = ap (λ n. f n (builds_in mid)) (sym called) ∙ ap (λ (n : Maker B). reaching_from front n from name (builds_in mid)) (sym at.rest)

  -- the imported module can't be reached
  pub import_ended : (w : Unreached) → reaching_from front mid from name (builds_in mid) ≡ record { builds = builds_in new; result = Err w } → reach_imports f (map import_of us) (builds_in m) ≡ record { builds = builds_in new; result = Err w }
  import_ended w h = sym at.reached ∙ first ∙ imports_ended f (import_of x) (map import_of (drop (i + 1) us)) (builds_in mid) (builds_in new) w (same ∙ h)

  -- it is reached, and the other imports are left
  pub import_reached : reaching_from front mid from name (builds_in mid) ≡ record { builds = builds_in new; result = Ok tt } → reach_imports f (map import_of (drop (i + 1) us)) (builds_in new) ≡ reach_imports f (map import_of us) (builds_in m)
  import_reached h = sym (first ∙ imports_more f (import_of x) (map import_of (drop (i + 1) us)) (builds_in mid) (builds_in new) (same ∙ h)) ∙ at.reached

-- all imports are reached
pub imports_over : (f : Reaching) (bs mid : Builds) (us : List ImportDefinition) (i : ℕ) (all : List ImportDefinition) → us ≡ all → drop i us ≡ [] → reach_imports f (map import_of (drop i us)) mid ≡ reach_imports f (map import_of us) bs
    → reach_imports f (map import_of all) bs ≡ record { builds = mid; result = Ok tt }
imports_over f bs mid us i all same none reached =
    ap (λ (js : List ImportDefinition). reach_imports f (map import_of js) bs) (sym same) ∙ sym reached
    ∙ ap (λ (js : List ImportDefinition). reach_imports f (map import_of js) mid) none ∙ imports_none f mid

-- ---- a module of the registry

-- how a maker reaches the module at a place
abbrev pub reached_at : {B : Type 0} → (front : B → FrontEnd) → Maker B → (place : ℕ) → Registered → Outcome (Unit {0}) Unreached
reached_at front m place d = reach_module (settings_by front m) (defs_in m) d (reaching_from front m (place + 1)) (builds_in m)

-- the build of a module is kept
pub record HasKept {B : Type 0} (front : B → FrontEnd) (m : Maker B) (place : ℕ) (d : Registered) (b : BuiltModule) : Type 0 where
  pub ready : IsReady front m (place + 1)
  pub at : slice_get (modules_in m) place ≡ Some d
  pub found : kept_under (kept_in m) (key_under d (defs_in m)) ≡ Some b

module _ {B : Type 0} {front : B → FrontEnd} {m : Maker B} {place : ℕ} {d : Registered} {b : BuiltModule} (h : HasKept front m place d b) where
  -- it isn't built again
  pub reached_kept : reached_at front m place d ≡ reach_kept (reaching_from front m (place + 1)) d.name b (builds_in m)
  reached_kept =
      let s = settings_by front m in
      let defs = defs_in m in
      let ds = modules_in m in
      let bs = builds_in m in
      subst (λ n. reach_module s defs d (unless_built (reach s defs (drop n ds))) bs ≡ reach_kept (unless_built (reach s defs (drop n ds))) d.name b bs) (sym (add-one place))
      (kept_law s ds defs place d b bs (kept_in m) h.ready.registry h.at h.ready.stand h.found)

  -- what it imports can't be reached
  pub kept_unreached : (new : Maker B) (w : Unreached) → reach_imports (reaching_from front m (place + 1)) b.imports (builds_in m) ≡ record { builds = builds_in new; result = Err w } → reached_at front m place d ≡ record { builds = builds_in new; result = Err w }
  kept_unreached new w e = reached_kept ∙ kept_ended (reaching_from front m (place + 1)) d.name b (builds_in m) (builds_in new) w e

-- the text of a module is read, and these are its uses
pub record HasRead {B : Type 0} (m : Maker B) (d : Registered) (out : Output) (us : List Use) : Type 0 where
  pub read : preprocess_module (defs_in m) d (preprocessed_of (defined (defs_in m)) d) (builds_in m) ≡ record { builds = builds_in m; result = Ok out }
  pub uses : us ≡ out.uses

module _ {B : Type 0} (front : B → FrontEnd) {m : Maker B} (place : ℕ) {d : Registered} {out : Output} {us : List Use} (h : HasRead m d out us) (mid : Maker B) where
  abbrev reaching_after : Reaching
  reaching_after = reaching_from front m (place + 1)

  each : reach_each (as_recorded d) reaching_after out.uses (builds_in m) ≡ reach_each (as_recorded d) reaching_after us (builds_in m)
  each = ap (λ us. reach_each (as_recorded d) reaching_after us (builds_in m)) (sym h.uses)

  -- what it uses can't be reached
  pub uses_unreached : (w : Unreached) → reach_each (as_recorded d) reaching_after us (builds_in m) ≡ record { builds = builds_in mid; result = Err w } → reached_at front m place d ≡ record { builds = builds_in mid; result = Err w }
  uses_unreached w e = module_ended (settings_by front m) (defs_in m) d reaching_after (builds_in m) out h.read (builds_in mid) w (each ∙ e)

  module _ (used : reach_each (as_recorded d) reaching_after us (builds_in m) ≡ record { builds = builds_in mid; result = Ok tt }) (rest : BuildsMore m mid) (r : Result (Unit {0}) CodeUnreached) (new : Maker B)
      (entered : Reaches (λ done. done) r new (enter_build d.name (build (settings_by front mid) d out (builds_in mid)) (builds_in mid))) where
    does : Reaches (λ done. done) r new (enter_build d.name (build (settings_by front m) d out (builds_in mid)) (builds_in mid))
    does = subst (λ (s : Settings). Reaches (λ done. done) r new (enter_build d.name (build s d out (builds_in mid)) (builds_in mid))) (ap (λ (n : Maker B). settings_by front n) rest) entered

    -- it is built and entered
    pub module_entered : Reaches (λ done. done) r new (reached_at front m place d)
    module_entered = subst (λ (o : Outcome (Unit {0}) Unreached). Reaches (λ done. done) r new o) (sym (module_over (settings_by front m) (defs_in m) d reaching_after (builds_in m) out h.read (builds_in mid) (each ∙ used))) does

    -- its build is kept
    pub module_kept : (key : Key) → key ≡ key_under d (defs_in m) → IsReady front m (place + 1) → slice_get (modules_in m) place ≡ Some d → KeepsMore front unreached_of (nothing_wrong CodeUnreached) m mid
        → KeepsBuild r key (build (settings_by front mid) d out (builds_in mid)) (kept_in mid) (kept_in new) → OnErr r (builds_in new ≡ builds_in mid) → KeepsMore front unreached_of r m new
    module_kept key same ready at first keeps refused =
        let s = settings_by front m in
        let defs = defs_in m in
        let kept = subst (λ (s : Settings). KeepsBuild r key (build s d out (builds_in mid)) (kept_in mid) (kept_in new)) (ap (λ (n : Maker B). settings_by front n) rest) keeps in
        keeps_built s (modules_in m) defs ready.registry place d at (builds_in m) (builds_in mid) (kept_in m) (kept_in mid) out ready.stand.built (read_so defs d (builds_in m) out (preprocessed_of (defined defs) d) h.read) (each ∙ used) first r (builds_in new) (kept_in new) does
        (subst (λ (k : Key). KeepsBuild r k (build s d out (builds_in mid)) (kept_in mid) (kept_in new)) same kept) refused
