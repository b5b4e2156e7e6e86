-- The state of a composer as callers see it, and how calls change it.
use Rattle.std.specs.Prelude.{◌≡◌, ℕ, List, [], false, Option, Result, Ok, OnOk, OnErr, ◌⊎◌}
use Rattle.std.specs.declared.alloc.AllocError.{AllocError}
use Rattle.naga_oil_build.specs.declared.settings.Settings.{Settings}
use Rattle.naga_oil.specs.declared.compose.error.ComposerError.{ComposerError}
use Rattle.naga_oil_conditions.specs.View.{fault_of}
use Rattle.naga_oil_registry.specs.Added.{counter_after, shown_by, Enters}
use Rattle.naga_oil.specs.Addition.{addition}
use Rattle.naga_oil_registry.specs.Registered.{Registered}
use Rattle.naga_oil_registry.specs.Descriptor.{ModuleSource}
use Rattle.naga_oil.specs.Refused.{Answers, UnlessMemory}
use Rattle.naga_oil_registry.specs.Registry.{reaches, registered, removed}
use Rattle.naga_oil.specs.Store.{Kept, forget}

-- the settings with the front end, the registered modules, the number of the next automatic binding, the kept builds, and the number of
-- builds ever kept
pub record State (B : Type 0) : Type 0 where
  pub settings : Settings B
  pub registry : List Registered
  pub counter : ℕ
  pub kept : Kept
  pub builds : ℕ

-- nothing is registered yet
abbrev pub nothing_registered : {B : Type 0} → Settings B → State B
nothing_registered settings = record {
  settings = settings;
  registry = [];
  counter = 0;
  kept = [];
  builds = 0;
}

-- the builds of a removed module, and of all modules that reach it, are forgotten
abbrev pub forget_with : List Registered → (name : List ℕ) → Kept → Kept
forget_with ds name kept = forget (λ other. reaches ds other name) kept

-- the builds of the module with the name of the value, and of all that reach it, are forgotten
abbrev pub ForgetsFor : {F : Type 0} → List Registered → Result Registered F → (old new : Kept) → Type 0
ForgetsFor ds value old new = (d : Registered) × (value ≡ Ok d) × (new ≡ forget_with ds d.name old)

-- The counter is the one after; if memory ran out it may be the old one.
pub record Counts {X E F : Type 0} (told : E → Option F) (result : Result X E) (after old new : ℕ) : Type 0 where
  pub exact : UnlessMemory told result (new ≡ after)
  pub either : (new ≡ old) ⊎ (new ≡ after)

-- An addition answers its definition, as shown, and registers it, and the builds of removed modules are forgotten; a refused one changes
-- only the counter.
pub record Adds {B X Y : Type 0} (view : X → Y) (shown : Registered → Y) (old : State B) (m : ModuleSource) (result : Result X ComposerError) (new : State B) : Type 0 where
  pub reply : Answers view result (shown_by shown (addition old.registry old.counter m))
  pub counter : Counts (λ e. fault_of e.inner) result (counter_after old.counter m.source) old.counter new.counter
  pub registry : OnOk result (Enters old.registry (addition old.registry old.counter m) new.registry)
  pub kept : OnOk result (ForgetsFor old.registry (addition old.registry old.counter m) old.kept new.kept)
  pub refused : OnErr result (new ≡ record old { counter = new.counter })
  pub rest : new ≡ record old { counter = new.counter; registry = new.registry; kept = new.kept }

-- A removal removes a module and all that reach it, and their builds are forgotten; a refused one changes nothing. A removal of an
-- unknown name succeeds.
pub record Removes {B : Type 0} (old : State B) (name : List ℕ) (result : Result (Unit {0}) AllocError) (new : State B) : Type 0 where
  pub done : OnOk result (new ≡ record old { registry = removed name old.registry; kept = forget_with old.registry name old.kept })
  pub refused : OnErr result (new ≡ old)
  pub unknown : registered name old.registry ≡ false → result ≡ Ok tt
