-- An item read without handles: its label, and the trees of what it names.
use Rattle.std.specs.Prelude.{ℕ, zero, suc, ◌≡◌, List, [], ◌∷◌, Option, Some, None}
use Rattle.naga_oil_ir.specs.Rows.{Label, Row}
use Rattle.naga_oil_ir.specs.declared.names.ItemPlace.{ItemPlace}

-- what stands at the places of a module
abbrev pub World : Type 0
World = ItemPlace → Option Row

-- an item with what it names; an absent option reads as Absent, and what is below some depth as Cut
mutual
  pub data Tree : Type 0 where
    Cut : Tree
    Absent : Tree
    Missing : Tree
    Item : Label → Trees → Tree

  pub data Trees : Type 0 where
    End : Trees
    Then : Tree → Trees → Trees

abbrev pub name_tree : (ItemPlace → Tree) → Option ItemPlace → Tree
name_tree f None = Absent
name_tree f (Some p) = f p

abbrev pub trees : (ItemPlace → Tree) → List (Option ItemPlace) → Trees
trees f [] = End
trees f (p ∷ ps) = Then (name_tree f p) (trees f ps)

abbrev pub row_tree : (ItemPlace → Tree) → Option Row → Tree
row_tree f None = Missing
row_tree f (Some r) = Item r.label (trees f r.names)

-- the item at a place, read to a depth
unfoldable pub tree : ℕ → World → ItemPlace → Tree
tree zero w p = Cut
tree (suc n) w p = row_tree (tree n w) (w p)

-- for a special type of a source whose key a target has, the place of the target's type
abbrev pub Kept : Type 0
Kept = ItemPlace → Option ItemPlace

abbrev pub kept_tree : (ItemPlace → Tree) → Option ItemPlace → Tree → Tree
kept_tree f None t = t
kept_tree f (Some q) t = f q

-- the item of a source at a place, read to a depth, where kept types read as those of the target
unfoldable pub reading : ℕ → World → World → Kept → ItemPlace → Tree
reading zero w v kept p = Cut
reading (suc n) w v kept p = kept_tree (tree (suc n) v) (kept p) (row_tree (reading n w v kept) (w p))

-- the target's item at q reads as the source's at p, to every depth
abbrev pub ReadsAs : World → World → Kept → ItemPlace → ItemPlace → Type 0
ReadsAs w v kept p q = (n : ℕ) → tree n v q ≡ reading n w v kept p
