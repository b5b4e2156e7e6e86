-- Worked rows: how special types are kept.
use Rattle.std.specs.Prelude.{◌≡◌, ℕ, true, false, [], ◌∷◌, Option, Some, None, codes, refl}
use Rattle.naga_oil_ir.specs.ModuleValue.{ModuleValue, SpecialValue, no_items}
use Rattle.naga_oil_ir.specs.Rows.{Row, Text, TypeKind, row}
use Rattle.naga_oil_ir.specs.declared.names.ItemPlace.TheVariants.{TypeItem}
use Rattle.naga_oil_derive.specs.Tree.{tree}
use Rattle.naga_oil_derive.specs.World.{world, kept_of}
use Rattle.naga_oil_link_laws.specs.KeptAlike.{same_tree, kept_alike}
use Rattle.naga_oil_ir.specs.Spans.{undefined}

abbrev number : Row
number = row (TypeKind 0) None (Some 1 ∷ []) [] []

-- a struct of one number
abbrev struct_named : Text → Row
struct_named n = row (TypeKind 5) n (Some 4 ∷ []) [] (Some (TypeItem 0) ∷ [])

-- the special types of a ray
abbrev ray : Option ℕ → SpecialValue
ray place = record { ray_desc = place; ray_intersection = None; ray_vertex_return = None; predeclared_types = [] }

-- a module whose special type at 1 says the same as its type at 3, and not the same as that at 2
abbrev source : ModuleValue
source = record no_items {
  types = (number, undefined) ∷ (struct_named (Some (codes "Ray")), undefined) ∷ (struct_named (Some (codes "Other")), undefined) ∷ (struct_named (Some (codes "Ray")), undefined) ∷ [];
  special_types = ray (Some 1);
}

-- a module that has a special type for that key at 7
abbrev target : ModuleValue
target = record no_items { special_types = ray (Some 7) }

names_are_compared : same_tree (tree 3 (world source) (TypeItem 1)) (tree 3 (world source) (TypeItem 2)) ≡ false
unfolding tree world
names_are_compared = refl

what_is_named_is_compared : same_tree (tree 3 (world source) (TypeItem 1)) (tree 3 (world source) (TypeItem 3)) ≡ true
unfolding tree world
what_is_named_is_compared = refl

-- by its place only the special type is kept
kept_by_place : kept_of source.special_types target.special_types (TypeItem 3) ≡ None
unfolding kept_of
kept_by_place = refl

-- each type that says the same is kept
special_is_kept : kept_alike (world source) source target (TypeItem 1) ≡ Some (TypeItem 7)
unfolding kept_alike tree world
special_is_kept = refl

alike_is_kept : kept_alike (world source) source target (TypeItem 3) ≡ Some (TypeItem 7)
unfolding kept_alike tree world
alike_is_kept = refl

other_is_not : kept_alike (world source) source target (TypeItem 2) ≡ None
unfolding kept_alike tree world
other_is_not = refl

-- a type for whose key the target has none isn't kept
none_is_kept : kept_alike (world source) source no_items (TypeItem 1) ≡ None
unfolding kept_alike tree world
none_is_kept = refl
