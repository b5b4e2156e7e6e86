-- The special types of a module as those that another has for their keys, whichever of its places they stand at.
use Rattle.std.specs.Prelude.{ℕ, Bool, true, false, ◌&&◌, List, [], ◌∷◌, Option, None, option_map, if◌then◌else◌}
use Rattle.naga_oil_ir.specs.ModuleValue.{ModuleValue}
use Rattle.naga_oil_ir.specs.declared.names.ItemPlace.TheVariants.{TypeItem}
use Rattle.naga_oil_derive.specs.declared.special.SpecialKey.{SpecialKey}
use Rattle.naga_oil_derive.specs.Collected.{depth}
use Rattle.naga_oil_derive.specs.Equal.{label_eq}
use Rattle.naga_oil_derive.specs.Tree.{World, Kept, Tree, Trees, Cut, Absent, Missing, Item, End, Then, tree, reading}
use Rattle.naga_oil_derive.specs.World.{world, or_option, special_at, special_entries}
use Rattle.naga_oil_copy_laws.specs.Scope.{Scope, name_of_function}

-- whether two items say the same
abbrev mutual
  pub same_tree : Tree → Tree → Bool
  same_tree Cut Cut = true
  same_tree Absent Absent = true
  same_tree Missing Missing = true
  same_tree (Item a xs) (Item b ys) = label_eq a b && same_trees xs ys
  same_tree _ _ = false

  pub same_trees : Trees → Trees → Bool
  same_trees End End = true
  same_trees (Then x xs) (Then y ys) = same_tree x y && same_trees xs ys
  same_trees _ _ = false

-- the place kept for what a test says is a special type: of two of its keys that are kept, the last decides
abbrev pub kept_where : (ℕ → Bool) → (SpecialKey → Option ℕ) → List (SpecialKey × ℕ) → Option ℕ
kept_where is f [] = None
kept_where is f (e ∷ es) = or_option (kept_where is f es) (if is e.1 then f e.0 else None)

-- in a module that reads as w, what says the same as a special type is that type: it is kept if t has one for its key
unfoldable pub kept_alike : World → ModuleValue → ModuleValue → Kept
kept_alike w m t p =
    option_map TypeItem (kept_where (λ k. same_tree (tree (depth m) w (TypeItem k)) (tree (depth m) w p)) (special_at t.special_types) (special_entries m.special_types))

-- a module whose items read as w says, as it reads in another
abbrev pub scope_alike : World → ModuleValue → ModuleValue → Scope
scope_alike w m t = record { reads = λ p n. reading n w (world t) (kept_alike w m t) p; function_name = name_of_function m }
