-- Worked rows: what a build holds of a module with items, functions and an entry point, and what is linked of this build.
use Rattle.std.proofs.Common.{ℕ, zero, suc, List, [], ◌∷◌, refl, subst}
use Rattle.std.proofs.lemmas.List.Elements.{All-nil}
use Rattle.std.proofs.lemmas.Option.{none-some, same_Some}
use Rattle.std.specs.Prelude.{codes}
use Rattle.naga_oil_ir.specs.ModuleValue.{ModuleValue, no_items}
use Rattle.naga_oil_ir.specs.declared.names.ItemPlace.TheVariants.{TypeItem}
use Rattle.naga_oil_imports.specs.Uses.{Import}
use Rattle.naga_oil_derive.specs.CopiedEntry.{make_module}
use Rattle.naga_oil_derive.specs.Tree.{tree, reading}
use Rattle.naga_oil_derive.specs.World.{kept_of, world}
use Rattle.naga_oil_copy_laws.specs.Scope.{ReadAlike, scope_of}
use Rattle.naga_oil_form_laws.specs.EntryForm.{IsModuleFormed}
use Rattle.naga_oil_form_laws.proofs.RequestLemmas.{all_at}
use Rattle.naga_oil_link.specs.BuiltModule.{BuiltModule, Builds, nothing_built}
use Rattle.naga_oil_link.specs.CopiedBuild.{copy_header, copy_whole}
use Rattle.naga_oil_link.specs.Linked.{link_whole}
use Rattle.naga_oil_link.specs.OwnPlaces.{OwnPlaces, nothing_own}
use Rattle.naga_oil_link_laws.proofs.Holds.{held_parse}
use Rattle.naga_oil_link_laws.proofs.Once.{held_once, linked_once}
use Rattle.naga_oil_link_laws.proofs.Throughs.{through_law}
use Rattle.naga_oil_link_laws.proofs.Wholes.{linked_copies}
use Rattle.naga_oil_link_laws.specs.Headers.{HasDeclarations, HaveDeclarations, HaveOwnNames}
use Rattle.naga_oil_link_laws.specs.HeldBuild.{CopiesAs, CopiesParse, DecoratesTypes}
use Rattle.naga_oil_link_laws.specs.LinkedCopies.{AreFormedBuilds, CopiesBuilds, IsOneOrLast, header_before}
use Rattle.naga_oil_link_laws.specs.ReadIn.{scope_in}
use Rattle.naga_oil_link_laws.specs.Once.{HasEachOnce, HoldsRequested}
use Rattle.naga_oil_link_laws.specs.ThroughBuilds.{GoesThrough, Holds}
use Rattle.naga_oil_collected_laws.proofs.HeldOrder.{held_order}
use Rattle.naga_oil_collected_laws.proofs.Items.{linked_items}
use Rattle.naga_oil_collected_laws.proofs.LinkOrder.{linked_order}
use Rattle.naga_oil_collected_laws.proofs.Taken.{held_items}
use Rattle.naga_oil_collected_laws.specs.HeldItems.{HasTaken}
use Rattle.naga_oil_collected_laws.specs.ItemOrder.{AreCopiesOf, HoldsInOrder, IsHeldCopy, IsLinkedCopy}
use Rattle.naga_oil_collected_laws.specs.RequestedItems.{HasCopyOf, imported_items, requested_items}
use Rattle.naga_oil_collected_laws.specs.Trail.{held_trail, link_trail}
use Rattle.naga_oil_faithful_laws.specs.SmallMake.{number}
use Rattle.naga_oil_definition_laws.specs.FormedRows.{full, formed}

-- ---- what a build holds

-- the second type and the constant are the build's own
abbrev own : OwnPlaces
own = record nothing_own { types = 1 ∷ []; constants = 0 ∷ [] }

abbrev mark : List ℕ
mark = codes "X"

abbrev names : List (List ℕ)
names = codes "f" ∷ codes "g" ∷ []

abbrev held : ModuleValue
held = make_module (copy_whole full own mark names).derived

each_is_held_once : HasEachOnce held
each_is_held_once = held_once full own mark names formed

parse_is_copied : CopiesParse full own mark held
parse_is_copied = held_parse full own mark names formed

types_are_decorated : DecoratesTypes full own mark parse_is_copied.reads
types_are_decorated = parse_is_copied.decorated

copied_as_it_reads : CopiesAs parse_is_copied.reads full held
copied_as_it_reads = parse_is_copied.copies

all_is_taken : HasTaken full own mark held
all_is_taken = held_items full own mark names formed

all_is_in_order : HoldsInOrder full own mark names held
all_is_in_order = held_order full own mark names formed

are_copies : AreCopiesOf (IsHeldCopy all_is_in_order.reads held) held (held_trail full own names).items
are_copies = all_is_in_order.items

number_is_held : IsHeldCopy (world full) full (full, TypeItem 0) (TypeItem 0)
unfolding world
number_is_held = record { there = (number.0, refl); alike = λ n. refl }

-- the build that holds it, and what is a copy of the build is a copy of the module
abbrev build : BuiltModule
build = record (nothing_built mark 1) { functions = names; value = held; header = (copy_header full own mark names).derived.target }

holds_it : Holds build full own
holds_it = record { form = formed; functions = names; value = refl; header = refl }

goes_through : (t : ModuleValue) → GoesThrough build full own t
goes_through t = through_law build full own t holds_it

-- ---- what is linked

-- a build of the module itself, and a shader's that imports of it
abbrev plain : BuiltModule
plain = record (nothing_built [] 1) { functions = names; value = full; own_in_value = own }

abbrev builds : Builds
builds = (codes "m", plain) ∷ []

abbrev imported : Import
imported = record { import = codes "m"; items = codes "Ray" ∷ codes "K" ∷ codes "g" ∷ [] }

abbrev shader : BuiltModule
shader = record (nothing_built [] 0) { imports = imported ∷ []; value = full }

plain_is_formed : AreFormedBuilds builds
plain_is_formed zero e at = subst (λ (x : List ℕ × BuiltModule). IsModuleFormed x.1.value) (same_Some (codes "m", plain) e at) formed
plain_is_formed (suc i) e at = absurd (none-some e at)

none_declared : HasDeclarations plain
none_declared = record { without_bodies = λ k f at. absurd (none-some f at); named = λ k f at. absurd (none-some f at) }

plain_declares_none : HaveDeclarations builds
plain_declares_none zero e at = subst (λ (x : List ℕ × BuiltModule). HasDeclarations x.1) (same_Some (codes "m", plain) e at) none_declared
plain_declares_none (suc i) e at = absurd (none-some e at)

plain_has_its_name : HaveOwnNames builds
plain_has_its_name zero e at = refl
plain_has_its_name (suc i) e at = absurd (none-some e at)

linked_copies_builds : CopiesBuilds (IsOneOrLast builds shader) (header_before builds shader) shader (link_whole builds shader)
linked_copies_builds = (linked_copies builds shader refl plain_is_formed plain_declares_none plain_has_its_name formed).0

each_is_linked_once : HasEachOnce (link_whole builds shader)
each_is_linked_once = (linked_once builds shader refl plain_is_formed plain_declares_none plain_has_its_name formed).0

all_requested_is_linked : HoldsRequested builds shader (link_whole builds shader)
all_requested_is_linked = (linked_once builds shader refl plain_is_formed plain_declares_none plain_has_its_name formed).1

-- the ray is the first item that is requested
ray_is_linked : HasCopyOf (link_whole builds shader) (plain, TypeItem 1)
unfolding imported_items
ray_is_linked = all_at (HasCopyOf (link_whole builds shader)) (requested_items builds shader) 0 (plain, TypeItem 1) (linked_items builds shader plain_is_formed plain_has_its_name formed) refl

linked_in_order : AreCopiesOf (IsLinkedCopy (link_whole builds shader)) (link_whole builds shader) (link_trail builds shader).items
linked_in_order = linked_order builds shader plain_is_formed plain_has_its_name formed

-- in itself a module's types are all of them
number_is_linked : IsLinkedCopy (record no_items { types = number ∷ [] }) (record no_items { types = number ∷ [] }, TypeItem 0) (TypeItem 0)
unfolding tree reading world kept_of
number_is_linked = record { keys = All-nil _; there = (number.0, refl); alike = alike }
  where
    alike : ReadAlike (scope_in (record no_items { types = number ∷ [] }) (record no_items { types = number ∷ [] })) (scope_of (record no_items { types = number ∷ [] })) (TypeItem 0) (TypeItem 0)
    alike zero = refl
    alike (suc n) = refl
