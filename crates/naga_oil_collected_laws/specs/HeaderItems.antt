-- Which items a build's header and a linked header have, and in which order.
use Rattle.std.specs.Prelude.{ℕ, List, fold, map, reverse}
use Rattle.std.specs.List.{filter, flat_map}
use Rattle.naga_oil_ir.specs.ModuleValue.{ModuleValue}
use Rattle.naga_oil_ir.specs.declared.names.ItemPlace.{ItemPlace}
use Rattle.naga_oil_imports.specs.Uses.{Import}
use Rattle.naga_oil_derive.specs.Tree.{World}
use Rattle.naga_oil_form_laws.specs.EntryForm.{IsModuleFormed}
use Rattle.naga_oil_link.specs.BuiltModule.{Builds}
use Rattle.naga_oil_link.specs.CopiedBuild.{copy_header}
use Rattle.naga_oil_link.specs.Linked.{link_header}
use Rattle.naga_oil_link.specs.OwnPlaces.{OwnPlaces, is_own}
use Rattle.naga_oil_link.specs.Places.{places_of}
use Rattle.naga_oil_link_laws.specs.Headers.{HaveOwnNames}
use Rattle.naga_oil_link_laws.specs.HeldBuild.{DecoratesTypes}
use Rattle.naga_oil_link_laws.specs.LinkedCopies.{AreFormedBuilds}
use Rattle.naga_oil_collected_laws.specs.FirstReach.{held_requests}
use Rattle.naga_oil_collected_laws.specs.HeaderRequests.{declared, headers_of}
use Rattle.naga_oil_collected_laws.specs.ItemOrder.{AreCopiesOf, IsHeldCopy, IsLinkedCopy}
use Rattle.naga_oil_collected_laws.specs.Trail.{Trail, no_trail, with_item, with_source, with_function, with_visit, import_visits}

-- ---- the header that a build holds

-- the items of a module that a header takes: all that the build owns
abbrev pub own_items : ModuleValue → OwnPlaces → List ItemPlace
own_items m own = filter (is_own own) (places_of m)

-- what a build's header reaches of a module: the items that the build owns, and what the signatures of the functions with these names
-- name
abbrev pub held_header_trail : ModuleValue → OwnPlaces → (names : List (List ℕ)) → Trail
held_header_trail m own names = fold with_function (fold (with_item m) (with_source m no_trail) (own_items m own)) (map declared (held_requests m names))

-- a header has the items that it reaches of a module, whose own types may have their decorated names, in order
pub record DeclaresInOrder (m : ModuleValue) (own : OwnPlaces) (decoration : List ℕ) (names : List (List ℕ)) (t : ModuleValue) : Type 0 where
  pub reads : World
  pub decorated : DecoratesTypes m own decoration reads
  pub items : AreCopiesOf (IsHeldCopy reads t) t (held_header_trail m own names).items

-- LAW: this holds of the header that a build holds of a module of good form
abbrev pub HeldHeaderLaw : Type 0
HeldHeaderLaw = (m : ModuleValue) (own : OwnPlaces) (decoration : List ℕ) (names : List (List ℕ)) → IsModuleFormed m →
    DeclaresInOrder m own decoration names (copy_header m own decoration names).derived.target

-- ---- a linked header

-- what a link of the headers of builds reaches
abbrev pub header_trail : Builds → List Import → Trail
header_trail bs imports = fold with_visit no_trail (flat_map (import_visits (reverse (headers_of bs))) imports)

-- LAW: a linked header has the items that the link of headers of good form reaches, each once, in the order of first reach
abbrev pub LinkedHeaderLaw : Type 0
LinkedHeaderLaw = (bs : Builds) (imports : List Import) → AreFormedBuilds (headers_of bs) → HaveOwnNames bs →
    AreCopiesOf (IsLinkedCopy (link_header bs imports)) (link_header bs imports) (header_trail bs imports).items
