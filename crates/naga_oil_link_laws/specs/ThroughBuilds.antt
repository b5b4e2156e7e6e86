-- Linked modules as copies of what was parsed.
use Rattle.std.specs.Prelude.{ℕ, ◌≡◌, ◌*◌, List, length, slice_get, Some}
use Rattle.naga_oil_ir.specs.ModuleValue.{ModuleValue, FunctionValue, EntryValue}
use Rattle.naga_oil_ir.specs.declared.names.ItemPlace.{ItemPlace}
use Rattle.naga_oil_ir.specs.declared.span.Span.{Span}
use Rattle.naga_oil_derive.specs.CopiedEntry.{make_module}
use Rattle.naga_oil_derive.specs.CopiedLaw.{HasAt}
use Rattle.naga_oil_derive.specs.Tree.{World}
use Rattle.naga_oil_derive.specs.World.{shifted}
use Rattle.naga_oil_form_laws.specs.EntryForm.{IsModuleFormed}
use Rattle.naga_oil_link.specs.BuiltModule.{BuiltModule}
use Rattle.naga_oil_link.specs.CopiedBuild.{copy_header, copy_whole}
use Rattle.naga_oil_link.specs.OwnPlaces.{OwnPlaces}
use Rattle.naga_oil_copy_laws.specs.Scope.{ReadAlike, scope_of}
use Rattle.naga_oil_copy_laws.specs.ByTree.{CopiesByTree}
use Rattle.naga_oil_copy_laws.specs.ByTreeLaw.{HasEarlierOperands}
use Rattle.naga_oil_copy_laws.specs.EntryByTree.{EntryAlike}
use Rattle.naga_oil_link_laws.specs.HeldBuild.{DecoratesTypes}
use Rattle.naga_oil_link_laws.specs.KeptAlike.{scope_alike}
use Rattle.naga_oil_link_laws.specs.ReadIn.{HasKeysOf}
use Rattle.naga_oil_link_laws.specs.LinkedCopies.{CopiesFunctionOf, CopiesEntryOf, ReadsAsItemOf}
use Rattle.naga_oil_ir.specs.Spans.{span_stride}

-- a build holds all of a module of good form, of which some items are its own, and its header declares functions that the build
-- has
pub record Holds (b : BuiltModule) (m : ModuleValue) (own : OwnPlaces) : Type 0 where
  pub form : IsModuleFormed m
  pub functions : List (List ℕ)
  pub value : b.value ≡ make_module (copy_whole m own b.decoration functions).derived
  pub header : b.header ≡ (copy_header m own b.decoration functions).derived.target

-- g, in t, copies f, a function over the handles of a module that a build holds, whose own types may have their decorated names
pub record CopiesHeld (b : BuiltModule) (m : ModuleValue) (own : OwnPlaces) (t : ModuleValue) (f g : FunctionValue) : Type 0 where
  pub reads : World
  pub decorated : DecoratesTypes m own b.decoration reads
  pub copies : CopiesByTree (shifted (b.index * span_stride)) (λ n. n) (scope_alike reads m t) f (scope_of t) g
  pub source_earlier : HasEarlierOperands f
  pub earlier : HasEarlierOperands g

-- g copies a function of that module, with its span; t has a special type for each key of the module
pub record CopiesHeldFunction (b : BuiltModule) (m : ModuleValue) (own : OwnPlaces) (t : ModuleValue) (g : FunctionValue × Span) : Type 0 where
  pub keys : HasKeysOf m t
  pub place : ℕ
  pub function : FunctionValue × Span
  pub at : slice_get m.functions place ≡ Some function
  pub copies : CopiesHeld b m own t function.0 g.0
  pub span : g.1 ≡ shifted (b.index * span_stride) function.1

-- y copies the module's entry point at i
pub record CopiesHeldEntry (b : BuiltModule) (m : ModuleValue) (own : OwnPlaces) (t : ModuleValue) (i : ℕ) (y : EntryValue) : Type 0 where
  pub entry : EntryValue
  pub at : slice_get m.entry_points i ≡ Some entry
  pub copies : CopiesHeld b m own t entry.function y.function
  pub whole : EntryAlike (λ s. s) (scope_alike copies.reads m t) (scope_of t) entry y

-- the item at q of t reads as one of that module
pub record ReadsAsHeld (b : BuiltModule) (m : ModuleValue) (own : OwnPlaces) (t : ModuleValue) (q : ItemPlace) : Type 0 where
  pub reads : World
  pub decorated : DecoratesTypes m own b.decoration reads
  pub place : ItemPlace
  pub stands : HasAt m place
  pub alike : ReadAlike (scope_alike reads m t) (scope_of t) place q

-- what has the build's keys, and copies the build, has the keys of what the build holds, and copies that
pub record GoesThrough (b : BuiltModule) (m : ModuleValue) (own : OwnPlaces) (t : ModuleValue) : Type 0 where
  pub keys : HasKeysOf b.value t → HasKeysOf m t
  pub function : (g : FunctionValue × Span) → CopiesFunctionOf b t g → CopiesHeldFunction b m own t g
  pub entry_point : (i : ℕ) (y : EntryValue) → CopiesEntryOf b t i y → CopiesHeldEntry b m own t i y
  pub as_many : length b.value.entry_points ≡ length m.entry_points
  pub item : (q : ItemPlace) → ReadsAsItemOf b t q → ReadsAsHeld b m own t q

-- LAW: this holds of each build
abbrev pub ThroughLaw : Type 0
ThroughLaw = (b : BuiltModule) (m : ModuleValue) (own : OwnPlaces) (t : ModuleValue) → Holds b m own → GoesThrough b m own t
