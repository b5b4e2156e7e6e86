-- The code of a make, seen by the words of its definitions.
use Rattle.std.specs.Prelude.{◌≡◌, ◌≤◌, ◌⊎◌, ℕ, List, length, Option, Some, None, option_map, Result, Ok, Err, MatchOption, OnOk, string_bytes}
use Rattle.naga_oil_imports.specs.Uses.{Use}
use Rattle.naga_oil_conditions.specs.Fault.{Fault}
use Rattle.naga_oil_conditions.specs.View.{fault_of}
use Rattle.naga_oil_conditions.specs.declared.fault.ComposerErrorInner.{ComposerErrorInner}
use Rattle.naga_oil_registry.specs.Registered.{Registered, Defs, definition_of, defs_of}
use Rattle.naga_oil_registry.specs.Registry.{IsRegistry}
use Rattle.naga_oil_ir.specs.Backend.{FrontEnd}
use Rattle.naga_oil_link.specs.BuiltModule.{BuiltModule, Builds, builds_of}
use Rattle.naga_oil_build.specs.Build.{Unbuilt}
use Rattle.naga_oil_build.specs.BuildView.{settings_in}
use Rattle.naga_oil_build.specs.Held.{Settings}
use Rattle.naga_oil_build.specs.declared.builder.Unbuilt.{Unbuilt as CodeUnbuilt}
use Rattle.naga_oil.specs.Answer.{any_use, as_merged}
use Rattle.naga_oil.specs.MakeDefs.{defs_or_none}
use Rattle.naga_oil.specs.Outcome.{Outcome, Does}
use Rattle.naga_oil.specs.Reach.{Unreached, missing, unbuilt, Rule, as_recorded}
use Rattle.naga_oil.specs.Refused.{Place, Refused, TellsAt, UnlessMemory, refused_of, place_of, nowhere}
use Rattle.naga_oil.specs.Store.{Key, Kept, KeepsAll, keep_build, keep_builds}
use Rattle.naga_oil.specs.StoreLaw.{Stands}
use Rattle.naga_oil.specs.StoreView.{kept_of}
use Rattle.naga_oil.specs.declared.compose.error.ComposerError.{ComposerError}
use Rattle.naga_oil.specs.declared.compose.make.Maker.{Maker}
use Rattle.naga_oil.specs.declared.compose.reach.Rule.{Rule as CodeRule}
use Rattle.naga_oil.specs.declared.compose.reach.Rule.TheVariants as rule
use Rattle.naga_oil.specs.declared.compose.reach.Unreached.{Unreached as CodeUnreached}
use Rattle.naga_oil.specs.declared.compose.reach.Unreached.TheVariants as code

-- why a module can't be built, or nothing after out of memory
abbrev pub unbuilt_as : (name : List ℕ) → (offset : ℕ) → Option Fault → Option Unreached
unbuilt_as name offset fault = option_map (λ f. unbuilt name (record { fault = f; offset = offset })) fault

-- why a module can't be reached, or nothing after out of memory
abbrev pub unreached_of : CodeUnreached → Option Unreached
unreached_of (code.Missing name offset) = Some (missing (string_bytes name) offset)
unreached_of (code.Unbuilt name u) = unbuilt_as (string_bytes name) u.offset (fault_of u.inner)
unreached_of code.Memory = None

-- nothing more is said of out of memory
abbrev pub nothing_said : {E : Type 0} → E → Type 0
nothing_said e = Unit {0}

-- out of memory has no place
abbrev pub memory_nowhere : ComposerError → Type 0
memory_nowhere e = place_of e.source ≡ nowhere

-- e reports that the module can't be imported there, or out of memory
abbrev pub missing_there : (name : List ℕ) → (offset : ℕ) → CodeUnreached → Type 0
missing_there name offset e = MatchOption (unreached_of e) (Unit {0}) (λ w. w ≡ missing name offset)

-- e reports why the module can't be built, or out of memory
abbrev pub IsUnbuilt : (name : List ℕ) → CodeUnbuilt → CodeUnreached → Type 0
IsUnbuilt name u e = MatchOption (unreached_of e) (Unit {0}) (λ w. unbuilt_as name u.offset (fault_of u.inner) ≡ Some w)

-- ---- a make's state

-- the settings of a maker, the definitions that it builds under, and its builds
abbrev pub settings_by : {B : Type 0} → (front : B → FrontEnd) → Maker B → Settings
settings_by front m = settings_in front m.builder

abbrev pub defs_in : {B : Type 0} → Maker B → Defs
defs_in m = defs_of m.defs

abbrev pub builds_in : {B : Type 0} → Maker B → Builds
builds_in m = builds_of m.builder.builds

-- the registered modules, and the builds that are kept between makes
abbrev pub modules_in : {B : Type 0} → Maker B → List Registered
modules_in m = m.modules.now

abbrev pub kept_in : {B : Type 0} → Maker B → Kept
kept_in m = kept_of m.store

-- only the builds of the make and the kept builds change
abbrev pub BuildsMore : {B : Type 0} → (old new : Maker B) → Type 0
BuildsMore old new = new ≡ record old { builder = record old.builder { builds = new.builder.builds }; store = new.store }

-- each build of a maker is as built afresh, and is kept; the place from which it may reach modules is within the registry
pub record IsReady {B : Type 0} (front : B → FrontEnd) (m : Maker B) (from : ℕ) : Type 0 where
  pub registry : IsRegistry (modules_in m)
  pub stand : Stands (settings_by front m) (modules_in m) (defs_in m) (builds_in m) (kept_in m)
  pub within : from ≤ length m.modules.now

-- the builds of a make, and those that are kept
pub record MakeState : Type 0 where
  pub builds : Builds
  pub kept : Kept

abbrev pub state_with : Builds → Kept → MakeState
state_with builds kept = record { builds = builds; kept = kept }

abbrev pub state_of : {B : Type 0} → Maker B → MakeState
state_of m = state_with (builds_in m) (kept_in m)

-- Whatever the result, each build stands as built afresh, and no kept build is lost. Unless memory ran out, the kept builds are those of
-- the beginning with the builds of this make kept one after the other, if they were so before.
pub record Keeps {X E F : Type 0} (s : Settings) (ds : List Registered) (defs : Defs) (reported : E → Option F) (result : Result X E) (before after : MakeState) : Type 0 where
  pub stand : Stands s ds defs after.builds after.kept
  pub since : (begun : Kept) → before.kept ≡ keep_builds ds defs begun before.builds → UnlessMemory reported result (after.kept ≡ keep_builds ds defs begun after.builds)
  pub all : KeepsAll before.kept after.kept

abbrev pub KeepsMore : {B X E F : Type 0} → (front : B → FrontEnd) → (reported : E → Option F) → Result X E → (old new : Maker B) → Type 0
KeepsMore front reported result old new = Keeps (settings_by front old) (modules_in old) (defs_in old) reported result (state_of old) (state_of new)

-- what a make ends with: the definitions that it built under, its builds, and the builds kept then
pub record MakeEnd : Type 0 where
  pub defs : Defs
  pub builds : Builds
  pub kept : Kept

abbrev pub ends_with : Defs → Builds → Kept → MakeEnd
ends_with defs builds kept = record { defs = defs; builds = builds; kept = kept }

abbrev pub end_of : {B : Type 0} → Maker B → MakeEnd
end_of m = ends_with (defs_in m) (builds_in m) (kept_in m)

-- A make that begins with no builds and with these kept ones. defs are the definitions that it comes to, or a fault, after which it
-- builds nothing. Its builds stand, and no kept build is lost. Unless memory ran out, its builds are kept in addition.
pub record KeepsFirst {X E F : Type 0} (s : Settings) (ds : List Registered) (reported : E → Option F) (defs : Result Defs Fault) (result : Result X E) (kept : Kept) (at_end : MakeEnd) : Type 0 where
  pub comes : OnOk result (defs ≡ Ok at_end.defs)
  pub stand : Stands s ds at_end.defs at_end.builds at_end.kept
  pub kept_all : UnlessMemory reported result (at_end.kept ≡ keep_builds ds (defs_or_none defs) kept at_end.builds)
  pub all : KeepsAll kept at_end.kept

abbrev pub KeepsUnder : {B X E F : Type 0} → (front : B → FrontEnd) → (reported : E → Option F) → Result Defs Fault → Result X E → (old new : Maker B) → Type 0
KeepsUnder front reported defs result old new = KeepsFirst (settings_by front old) (modules_in old) reported defs result (kept_in old) (end_of new)

-- a build is kept, unless memory ran out before
abbrev pub KeepsBuild : Result (Unit {0}) CodeUnreached → Key → Result BuiltModule Unbuilt → (old new : Kept) → Type 0
KeepsBuild (Ok done) k (Ok b) old new = new ≡ keep_build old k b
KeepsBuild (Err e) k (Ok b) old new = (new ≡ old) ⊎ (new ≡ keep_build old k b)
KeepsBuild (Ok done) k (Err u) old new = new ≡ old
KeepsBuild (Err e) k (Err u) old new = new ≡ old

-- a call reached modules with this outcome
abbrev pub Reaches : {B X Y : Type 0} → (X → Y) → Result X CodeUnreached → (new : Maker B) → Outcome Y Unreached → Type 0
Reaches view result new value = Does view unreached_of nothing_said result (builds_in new) value

-- a call of a make answered with this outcome
abbrev pub Replies : {B X Y : Type 0} → (X → Y) → Result X ComposerError → (new : Maker B) → Outcome Y Refused → Type 0
Replies view result new value = Does view refused_of memory_nowhere result (builds_in new) value

-- ---- rules

-- the rule, as the definitions say it
abbrev pub rule_of : List Registered → Defs → CodeRule → Rule
rule_of ds defs rule.Any = any_use
rule_of ds defs (rule.Recorded d) = as_recorded (definition_of d.now)
rule_of ds defs rule.Merged = as_merged ds defs

-- the code refuses a use as the rule does, or reports out of memory
abbrev pub RefusesBy : Rule → Use → Option CodeUnreached → Type 0
RefusesBy by u None = by u ≡ None
RefusesBy by u (Some e) = MatchOption (unreached_of e) (Unit {0}) (λ w. by u ≡ Some w)

-- the same answer, with a place for its fault
abbrev pub PlacesAs : {X : Type 0} → Place → Result X ComposerErrorInner → Result X ComposerError → Type 0
PlacesAs place (Ok x) r = r ≡ Ok x
PlacesAs place (Err inner) (Ok x) = ⊥
PlacesAs place (Err inner) (Err e) = TellsAt place inner e

-- e reports why a module can't be reached, or out of memory
abbrev pub TellsUnreached : (Unreached → Refused) → CodeUnreached → ComposerError → Type 0
TellsUnreached tell why e = MatchOption (refused_of e) (place_of e.source ≡ nowhere) (λ r. (w : Unreached) × (unreached_of why ≡ Some w) × (tell w ≡ r))
