-- Worked rows: a module that is set as a source, and a type that is imported from it; and steps that lose or change something.
use Rattle.std.proofs.Common.{◌≡◌, ◌⊎◌, inl, inr, ℕ, zero, suc, ◌<◌, [], ◌∷◌, true, false, Option, Some, None, All, Contains, refl, ap, sym, subst, arith}
use Rattle.std.proofs.lemmas.List.Elements.{All-nil, All-head}
use Rattle.std.proofs.lemmas.Option.{none-some, same_Some}
use Rattle.std.specs.Prelude.{codes}
use Rattle.naga_oil_ir.specs.ModuleValue.{ModuleValue, no_items}
use Rattle.naga_oil_ir.specs.Rows.{Row, Text, TypeKind, row}
use Rattle.naga_oil_ir.specs.Spans.{undefined}
use Rattle.naga_oil_ir.specs.declared.names.ItemPlace.{ItemPlace}
use Rattle.naga_oil_ir.specs.declared.names.ItemPlace.TheVariants.{TypeItem, ConstantItem, OverrideItem, GlobalItem, ExpressionItem}
use Rattle.naga_oil_ir.specs.declared.span.Span.{Span}
use Rattle.naga_oil_derive.proofs.DerivedLaws.{nothing_derived, import_law, placed_law, rename_law}
use Rattle.naga_oil_derive.proofs.SetLaws.{set_law}
use Rattle.naga_oil_derive.specs.Collected.{reached}
use Rattle.naga_oil_derive.specs.Copied.{copy_within, put, put_type}
use Rattle.naga_oil_derive.specs.CopiedLaw.{kind_number, HasAt, IsBelowIn, IsCopyable, IsKinded, IsRankedBy, AreSpecial, PlacesAmong}
use Rattle.naga_oil_derive.specs.Copying.{WentSomewhere}
use Rattle.naga_oil_derive.specs.Derived.{Source, Derived, nothing, as_read, HasItem, Imports, IsImported, IsKnown, IsLaterSource, IsRenamed, IsSet, Keeps, KeepsItems, KeepsSource, ReadsAsBefore, Sets}
use Rattle.naga_oil_derive.specs.DerivedLaw.{AreThere, BeginsOnly, ImportsOnly, IsDerivation, IsSourceOf, MovesOnly, ReadsIn, RenamesOnly, SetsOnly, Settles, SettlesAll, type_place}
use Rattle.naga_oil_derive.specs.DerivedValue.{import_item, rename_type, set_source}
use Rattle.naga_oil_derive.specs.Equal.{row_eq}
use Rattle.naga_oil_derive.specs.Tree.{Kept, World}
use Rattle.naga_oil_derive.specs.World.{ItemMap, goes, kept_of, name_at, named_world, renamed_at, world}
use Rattle.naga_oil_derive.specs.declared.special.SpecialKey.{SpecialKey}
use Rattle.naga_oil_derive.specs.declared.special.SpecialKey.TheVariants.{RayDesc}
use Rattle.naga_oil_copy_laws.proofs.ItemLaws.{held_items, imported_items, source_items}
use Rattle.naga_oil_copy_laws.specs.ItemsByTree.{EachItemReads, HoldsItems, HoldsItemsOf}
use Rattle.naga_oil_faithful_laws.specs.SmallMake.{number, struct, specials}
use Rattle.naga_oil_definition_laws.specs.BodiesRows.{each_of_one}

-- ---- a source

-- a vector of numbers
abbrev pub vector : Row × Span
vector = (row (TypeKind 1) None (Some 2 ∷ []) [] [], undefined)

-- the struct of a ray, of numbers, which are the type at a place
abbrev pub ray : ℕ → Row × Span
ray k = (record (struct (codes "Ray")).0 { names = Some (TypeItem k) ∷ [] }, undefined)

-- the struct is a special type
abbrev pub from : ModuleValue
from = record no_items { types = vector ∷ number ∷ ray 1 ∷ []; special_types = specials (Some 2) None }

kinds : IsKinded from
unfolding world
kinds (TypeItem zero) r e = subst (λ (x : Row). kind_number x.label.kind ≡ 0) (same_Some vector.0 r e) refl
kinds (TypeItem (suc zero)) r e = subst (λ (x : Row). kind_number x.label.kind ≡ 0) (same_Some number.0 r e) refl
kinds (TypeItem (suc (suc zero))) r e = subst (λ (x : Row). kind_number x.label.kind ≡ 0) (same_Some (ray 1).0 r e) refl
kinds p r e = absurd (none-some r e)

abbrev pub rank : ItemPlace → ℕ
rank (TypeItem k) = k
rank (ConstantItem k) = k
rank (OverrideItem k) = k
rank (GlobalItem k) = k
rank (ExpressionItem k) = k

abbrev NamesBelow : (p : ItemPlace) → Row → Type 0
NamesBelow p r = All (IsBelowIn from rank p) r.names

number_is_below : IsBelowIn from rank (TypeItem 2) (Some (TypeItem 1))
unfolding world
number_is_below = ((number.0, refl), omega arith)

names_below : (p : ItemPlace) (r : Row) → world from p ≡ Some r → NamesBelow p r
unfolding world
names_below (TypeItem zero) r e = subst (NamesBelow (TypeItem 0)) (same_Some vector.0 r e) (All-nil (IsBelowIn from rank (TypeItem 0)))
names_below (TypeItem (suc zero)) r e = subst (NamesBelow (TypeItem 1)) (same_Some number.0 r e) (All-nil (IsBelowIn from rank (TypeItem 1)))
names_below (TypeItem (suc (suc zero))) r e = subst (NamesBelow (TypeItem 2)) (same_Some (ray 1).0 r e) (each_of_one (IsBelowIn from rank (TypeItem 2)) (Some (TypeItem 1)) number_is_below)
names_below p r e = absurd (none-some r e)

within : (p : ItemPlace) (r : Row) → world from p ≡ Some r → rank p < 8
unfolding world
within (TypeItem zero) r e = omega arith
within (TypeItem (suc zero)) r e = omega arith
within (TypeItem (suc (suc zero))) r e = omega arith
within p r e = absurd (none-some r e)

pub ranked : IsRankedBy from rank
ranked = record { names = names_below; within = within }

pub copyable : IsCopyable from
copyable = record { kinds = kinds; rank = rank; ranked = ranked }

abbrev HasType : SpecialKey × ℕ → Type 0
HasType e = HasAt from (TypeItem e.1)

special : AreSpecial from
unfolding world
special = record { there = each_of_one HasType (RayDesc, 2) ((ray 1).0, refl); distinct = (tt, tt) }

-- ---- it is set: the ray and its numbers are copied

abbrev pub places : Option ℕ → ItemMap
places vector_at = record { types = vector_at ∷ Some 0 ∷ Some 1 ∷ []; constants = []; overrides = []; global_variables = []; global_expressions = [] }

abbrev pub source : Option ℕ → Source
source vector_at = record { value = from; offset = 0; places = places vector_at }

abbrev pub begun : Derived
begun = record { source = Some (source None); target = record no_items { types = number ∷ ray 0 ∷ []; special_types = specials (Some 1) None }; function_names = [] }

is_begun : set_source nothing from 0 ≡ begun
unfolding copy_within put put_type world goes row_eq
is_begun = refl

-- no type is kept, as nothing was there before
abbrev pub first : Kept
first = kept_of from.special_types nothing.target.special_types

pub sets : SetsOnly from 0 nothing begun
sets = subst (λ (d : Derived). SetsOnly from 0 nothing d) is_begun (set_law first nothing from 0 (nothing_derived first) copyable special)

is_set : IsSet from 0 nothing begun
is_set = sets.set

sets_source : Sets from 0 nothing begun (source None)
sets_source = sets.set.1

another_offset_is_refused : Sets from 1 nothing begun (source None) → ⊥
another_offset_is_refused h = let e : 0 ≡ 1 = h.offset in absurd (omega (arith, e))

nothing_set_is_refused : IsSet from 0 nothing nothing → ⊥
nothing_set_is_refused h = let e : false ≡ true = h.0 in absurd cc

ray_settles : Settles nothing begun (source None) (RayDesc, 2)
ray_settles = All-head (Settles nothing begun (source None)) (RayDesc, 2) [] sets.settles

all_settle : SettlesAll from nothing begun
all_settle = sets.settles

-- the ray without a place
abbrev unmapped : Source
unmapped = record (source None) { places = record (places None) { types = None ∷ Some 0 ∷ None ∷ [] } }

abbrev unsettled : Derived
unsettled = record begun { source = Some unmapped }

unmapped_ray_is_refused : Settles nothing unsettled unmapped (RayDesc, 2) → ⊥
unfolding goes
unmapped_ray_is_refused h = absurd (none-some (TypeItem h.at) h.went)

unmapped_special_type_is_refused : SettlesAll from nothing unsettled → ⊥
unmapped_special_type_is_refused h = unmapped_ray_is_refused (All-head (Settles nothing unsettled unmapped) (RayDesc, 2) [] h)

only_special_types : BeginsOnly from nothing begun
only_special_types = sets.places

-- ---- what holds then

pub derivation : IsDerivation first begun
derivation = sets.derivation

is_source : IsSourceOf first (source None) begun.target
is_source = sets.derivation.source

special_types_are_there : AreThere begun.target
special_types_are_there = sets.derivation.special

missing_special_type_is_refused : AreThere (record no_items { special_types = specials (Some 1) None }) → ⊥
unfolding world
missing_special_type_is_refused h = let t = h RayDesc 1 refl in absurd (none-some t.0 t.1)

-- ---- the vector is imported

abbrev pub copied : Derived
copied = record { source = Some (source (Some 2)); target = record begun.target { types = number ∷ ray 0 ∷ vector ∷ [] }; function_names = [] }

is_copied : import_item begun (TypeItem 0) ≡ copied
unfolding copy_within put put_type world goes row_eq
is_copied = refl

pub imports : ImportsOnly first begun copied (TypeItem 0)
unfolding world
imports = subst (λ (d : Derived). ImportsOnly first begun d (TypeItem 0)) is_copied (import_law first begun (TypeItem 0) derivation (refl, (vector.0, refl)))

vector_is_imported : IsImported begun copied (TypeItem 0) (TypeItem 2)
unfolding goes
vector_is_imported = subst (IsImported begun copied (TypeItem 0)) (sym (same_Some (TypeItem 2) imports.imported.0 imports.imported.1.goes)) imports.imported.1

import_elsewhere_is_refused : IsImported begun copied (TypeItem 0) (TypeItem 1) → ⊥
unfolding goes
import_elsewhere_is_refused h = let e : Some (TypeItem 2) ≡ Some (TypeItem 1) = h.goes in absurd cc

imports_vector : Imports (source None) (as_read (source None) begun.target) begun copied (TypeItem 0) (TypeItem 2)
imports_vector = vector_is_imported

-- the module whose copy isn't mapped
import_without_a_place_is_refused : Imports (source None) (as_read (source None) begun.target) begun (record copied { source = Some (source None) }) (TypeItem 0) (TypeItem 2) → ⊥
unfolding goes
import_without_a_place_is_refused h = absurd (none-some (TypeItem 2) h.goes)

vector_reads_in : ReadsIn first copied (source (Some 2)) (TypeItem 0) (TypeItem 2)
unfolding goes
vector_reads_in = placed_law first copied (source (Some 2)) (TypeItem 0) (TypeItem 2) imports.derivation refl refl

-- ---- which items are mapped by it

abbrev reads_before : Source → World
reads_before s = as_read s begun.target

only_the_vector_moves : MovesOnly reads_before begun copied (TypeItem 0)
only_the_vector_moves = imports.places

no_vector : Contains (TypeItem 1 ∷ []) (TypeItem 0) → ⊥
no_vector (zero, l, e) = absurd cc
no_vector (suc k, l, e) = absurd (omega (arith, l))

-- the vector isn't among what the number reaches
moved_vector_is_refused : MovesOnly reads_before begun copied (TypeItem 1) → ⊥
unfolding goes reached world named_world kept_of
moved_vector_is_refused h = one (h (TypeItem 0))
  where
    one : (Some (TypeItem 2) ≡ None) ⊎ (Contains (TypeItem 1 ∷ []) (TypeItem 0) × WentSomewhere (goes (places (Some 2))) (Some (TypeItem 0))) → ⊥
    one (inl e) = absurd cc
    one (inr c) = no_vector c.0

among_the_vector : PlacesAmong (goes (places None)) (goes (places (Some 2))) (TypeItem 0 ∷ [])
unfolding goes reached world named_world kept_of
among_the_vector = imports.places

among_none_is_refused : PlacesAmong (goes (places None)) (goes (places (Some 2))) [] → ⊥
unfolding goes
among_none_is_refused h = one (h (TypeItem 0))
  where
    one : (Some (TypeItem 2) ≡ None) ⊎ (Contains [] (TypeItem 0) × WentSomewhere (goes (places (Some 2))) (Some (TypeItem 0))) → ⊥
    one (inl e) = absurd cc
    one (inr c) = absurd (omega (arith, c.0.1))

no_vector_reached : Contains (TypeItem 1 ∷ TypeItem 2 ∷ []) (TypeItem 0) → ⊥
no_vector_reached (zero, l, e) = absurd cc
no_vector_reached (suc zero, l, e) = absurd cc
no_vector_reached (suc (suc k), l, e) = absurd (omega (arith, l))

-- a source that begins with a place for the vector, which no special type reaches
vector_at_first_is_refused : BeginsOnly from nothing (record begun { source = Some (source (Some 1)) }) → ⊥
unfolding goes reached world named_world kept_of
vector_at_first_is_refused h = one (h (TypeItem 0))
  where
    one : (Some (TypeItem 1) ≡ None) ⊎ (Contains (TypeItem 1 ∷ TypeItem 2 ∷ []) (TypeItem 0) × WentSomewhere (goes (places (Some 1))) (Some (TypeItem 0))) → ⊥
    one (inl e) = absurd cc
    one (inr c) = no_vector_reached c.0

-- ---- the source after it

source_is_kept : KeepsSource (Some (source None)) (Some (source (Some 2)))
source_is_kept = imports.keeps.source

lost_source_is_refused : KeepsSource (Some (source None)) None → ⊥
lost_source_is_refused h = h

is_later : IsLaterSource (source None) (source (Some 2))
is_later = imports.keeps.source

lost_place_is_refused : IsLaterSource (source (Some 2)) (source None) → ⊥
unfolding goes
lost_place_is_refused h = absurd (none-some (TypeItem 2) (h.went (TypeItem 0) (TypeItem 2) refl))

reads_as_before : ReadsAsBefore begun copied
reads_as_before = imports.reads

-- the copy of the ray under another name
abbrev other_name : Derived
other_name = record copied { target = record copied.target { types = number ∷ struct (codes "S") ∷ vector ∷ [] } }

renamed_copy_is_refused : ReadsAsBefore begun other_name → ⊥
unfolding goes world named_world
renamed_copy_is_refused h = let e : Some (Some (codes "S")) ≡ Some (Some (codes "Ray")) = ap (λ (w : World). name_at w (Some (TypeItem 2))) h in absurd cc

-- ---- a type under a name

-- the number is known: it has a copy
number_is_known : IsKnown begun begun 1 0
unfolding goes
number_is_known q e = (sym (same_Some (TypeItem 0) q e), refl)

known_elsewhere_is_refused : IsKnown begun begun 1 1 → ⊥
unfolding goes
known_elsewhere_is_refused h = let e : TypeItem 0 ≡ TypeItem 1 = (h (TypeItem 0) refl).0 in absurd cc

-- the vector is copied under the name V
abbrev name : Option Text
name = Some (Some (codes "V"))

abbrev renamed : Derived
renamed = record copied { target = record copied.target { types = number ∷ ray 0 ∷ (row (TypeKind 1) (Some (codes "V")) (Some 2 ∷ []) [] [], undefined) ∷ [] } }

is_renamed : rename_type begun 0 name ≡ renamed
unfolding copy_within put put_type world goes row_eq
is_renamed = refl

renames : RenamesOnly first begun renamed 0 name 2
unfolding world
renames = subst (λ (d : Derived). RenamesOnly first begun d 0 name (type_place d 0)) is_renamed (rename_law first begun 0 name derivation (refl, (vector.0, refl)))

copied_under_its_name : IsRenamed begun renamed 0 name 2
copied_under_its_name = renames.renamed

copy_without_its_name_is_refused : IsRenamed begun copied 0 name 2 → ⊥
unfolding goes world named_world renamed_at
copy_without_its_name_is_refused h = let e : Some None ≡ name = ap (λ (w : World). name_at w (Some (TypeItem 0))) (h refl).1 in absurd cc

-- ---- a source for whose special types others stand

unmapped_source_is_refused : IsSourceOf first unmapped begun.target → ⊥
unfolding goes kept_of
unmapped_source_is_refused h = absurd (none-some (TypeItem 1) (h.stand (TypeItem 2) (TypeItem 1) refl))

-- ---- the items of the module as those of the source

holds_ray : HoldsItemsOf no_items begun
holds_ray = subst (HoldsItemsOf no_items) is_begun (source_items first nothing from 0 (nothing_derived first) copyable special)

holds_all : HoldsItems no_items (source (Some 2)) copied
unfolding world
holds_all = subst (HoldsItemsOf no_items) is_copied (imported_items no_items first begun (TypeItem 0) derivation (refl, (vector.0, refl)) holds_ray)

each_reads : EachItemReads no_items copied
each_reads = held_items no_items first copied imports.derivation holds_all

nowhere_else : (p : ItemPlace) → goes (places None) p ≡ Some (TypeItem 2) → ⊥
unfolding goes
nowhere_else (TypeItem zero) e = none-some (TypeItem 2) e
nowhere_else (TypeItem (suc zero)) e = absurd cc
nowhere_else (TypeItem (suc (suc zero))) e = absurd cc
nowhere_else p e = none-some (TypeItem 2) e

item_of_none_is_refused : HoldsItems no_items (source None) copied → ⊥
unfolding world
item_of_none_is_refused h = one (h (TypeItem 2) vector.0 refl)
  where
    one : (None ≡ Some vector.0) ⊎ ((p : ItemPlace) × (goes (places None) p ≡ Some (TypeItem 2))) → ⊥
    one (inl e) = none-some vector.0 e
    one (inr p) = nowhere_else p.0 p.1

-- ---- what is there, and what is kept

vector_is_there : HasItem begun (TypeItem 0)
unfolding world
vector_is_there = (refl, (vector.0, refl))

item_without_a_source_is_refused : (p : ItemPlace) → HasItem nothing p → ⊥
item_without_a_source_is_refused p h = let e : false ≡ true = h.0 in absurd cc

all_is_kept : Keeps begun copied
all_is_kept = imports.keeps

lost_vector_is_refused : Keeps copied begun → ⊥
lost_vector_is_refused h = let e : number ∷ ray 0 ∷ [] ≡ number ∷ ray 0 ∷ vector ∷ h.items.types.0 = h.items.types.1 in absurd cc

items_are_kept : KeepsItems begun copied
items_are_kept = record { items = imports.keeps.items; special = λ k q e. e; names = refl }

lost_item_is_refused : KeepsItems copied begun → ⊥
lost_item_is_refused h = let e : number ∷ ray 0 ∷ [] ≡ number ∷ ray 0 ∷ vector ∷ h.items.types.0 = h.items.types.1 in absurd cc
