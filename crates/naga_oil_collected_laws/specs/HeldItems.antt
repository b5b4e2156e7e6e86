-- Which types, constants, overrides and globals a build's module has: copies of all types, and of all that the build owns.
use Rattle.std.specs.Prelude.{ℕ, ◌||◌, List, All}
use Rattle.std.specs.List.{filter}
use Rattle.naga_oil_ir.specs.ModuleValue.{ModuleValue}
use Rattle.naga_oil_ir.specs.declared.names.ItemPlace.{ItemPlace}
use Rattle.naga_oil_derive.specs.CopiedEntry.{make_module}
use Rattle.naga_oil_derive.specs.CopiedLaw.{HasAt}
use Rattle.naga_oil_derive.specs.Tree.{World}
use Rattle.naga_oil_form_laws.specs.EntryForm.{IsModuleFormed}
use Rattle.naga_oil_link.specs.CopiedBuild.{is_type, copy_whole}
use Rattle.naga_oil_link.specs.OwnPlaces.{OwnPlaces, is_own}
use Rattle.naga_oil_link.specs.Places.{places_of}
use Rattle.naga_oil_copy_laws.specs.Scope.{ReadAlike, scope_of}
use Rattle.naga_oil_link_laws.specs.HeldBuild.{scope_reading, DecoratesTypes}

-- the items of a module that a build takes: all types, and all that the build owns
abbrev pub taken_items : ModuleValue → OwnPlaces → List ItemPlace
taken_items m own = filter (λ p. is_own own p || is_type p) (places_of m)

-- u has an item that reads as one of a module that reads as w
pub record HasCopyAt (w : World) (m u : ModuleValue) (p : ItemPlace) : Type 0 where
  pub place : ItemPlace
  pub there : HasAt u place
  pub alike : ReadAlike (scope_reading w m) (scope_of u) p place

-- u has a copy of each item that a build takes of a module, whose own types may have their decorated names
pub record HasTaken (m : ModuleValue) (own : OwnPlaces) (decoration : List ℕ) (u : ModuleValue) : Type 0 where
  pub reads : World
  pub decorated : DecoratesTypes m own decoration reads
  pub items : All (HasCopyAt reads m u) (taken_items m own)

-- LAW: this holds of the whole of a module of good form that a build holds
abbrev pub HeldItemsLaw : Type 0
HeldItemsLaw = (m : ModuleValue) (own : OwnPlaces) (decoration : List ℕ) (names : List (List ℕ)) → IsModuleFormed m →
    HasTaken m own decoration (make_module (copy_whole m own decoration names).derived)
