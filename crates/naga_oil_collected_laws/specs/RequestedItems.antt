-- Which types, constants, overrides and globals a linked module has: copies of all that is requested.
use Rattle.std.specs.Prelude.{Bool, true, ◌&&◌, List, [], ◌∷◌, ◌++◌, All, map, reverse, bytes_eq, if◌then◌else◌}
use Rattle.std.specs.List.{flat_map, filter, list_any}
use Rattle.naga_oil_ir.specs.ModuleValue.{ModuleValue}
use Rattle.naga_oil_ir.specs.Rows.{Text}
use Rattle.naga_oil_ir.specs.declared.names.ItemPlace.{ItemPlace}
use Rattle.naga_oil_imports.specs.Uses.{Import}
use Rattle.naga_oil_derive.specs.CopiedLaw.{HasAt}
use Rattle.naga_oil_form_laws.specs.EntryForm.{IsModuleFormed}
use Rattle.naga_oil_link.specs.BuiltModule.{BuiltModule, Builds}
use Rattle.naga_oil_link.specs.Linked.{link_whole}
use Rattle.naga_oil_link.specs.OwnPlaces.{is_own}
use Rattle.naga_oil_link.specs.Places.{places_of, name_at}
use Rattle.naga_oil_copy_laws.specs.Scope.{ReadAlike, scope_of}
use Rattle.naga_oil_link_laws.specs.Headers.{HaveOwnNames}
use Rattle.naga_oil_link_laws.specs.LinkedCopies.{AreFormedBuilds}
use Rattle.naga_oil_link_laws.specs.ReadIn.{scope_in, HasKeysOf}
use Rattle.naga_oil_collected_laws.specs.FirstReach.{is_named_so}

-- an item of a build's module
abbrev pub ItemOf : Type 0
ItemOf = BuiltModule × ItemPlace

-- the own items of a build whose names are requested
abbrev pub items_of : (requests : Text → Bool) → BuiltModule → List ItemOf
items_of requests b = map (λ p. (b, p)) (filter (λ p. requests (name_at b.value p) && is_own b.own_in_value p) (places_of b.value))

-- an import names an item of a build, whose name ends with the build's decoration
abbrev pub names_item : Import → BuiltModule → Text → Bool
names_item i b t = is_named_so (λ n. list_any (λ item. bytes_eq n (item ++ b.decoration)) i.items) t

abbrev pub all_items : Text → Bool
all_items t = true

-- the items that an import requests from builds, the newest first
unfoldable pub imported_items : Builds → Import → List ItemOf
imported_items [] i = []
imported_items (e ∷ earlier) i = if bytes_eq i.import e.0 then flat_map (imported_items earlier) e.1.imports ++ items_of (names_item i e.1) e.1 else imported_items earlier i

-- the items that a shader's build requests from builds: what its imports request, and then its own items
abbrev pub requested_items : Builds → BuiltModule → List ItemOf
requested_items bs b = flat_map (imported_items (reverse bs)) b.imports ++ items_of all_items b

-- a module has an item that reads as one of a build, and a special type for each key of the build
pub record HasCopyOf (t : ModuleValue) (r : ItemOf) : Type 0 where
  pub keys : HasKeysOf r.0.value t
  pub place : ItemPlace
  pub there : HasAt t place
  pub alike : ReadAlike (scope_in r.0.value t) (scope_of t) r.1 place

-- LAW: the whole of a shader's build has a copy of each item that is requested of builds of good form
abbrev pub LinkedItemsLaw : Type 0
LinkedItemsLaw = (bs : Builds) (b : BuiltModule) → AreFormedBuilds bs → HaveOwnNames bs → IsModuleFormed b.value →
    All (HasCopyOf (link_whole bs b)) (requested_items bs b)
