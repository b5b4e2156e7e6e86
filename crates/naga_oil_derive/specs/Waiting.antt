-- Items that wait until what they name is copied.
use Rattle.std.specs.Prelude.{ℕ, zero, suc, ◌≡◌, ◌+◌, ◌<◌, ◌⊎◌, List, [], ◌∷◌, drop, take, Option, Some, None, All}
use Rattle.std.specs.List.{sum_by}
use Rattle.naga_oil_ir.specs.Rows.{Row}
use Rattle.naga_oil_ir.specs.ModuleValue.{ModuleValue}
use Rattle.naga_oil_ir.specs.declared.module.Module.{Module}
use Rattle.naga_oil_ir.specs.declared.names.ItemPlace.{ItemPlace}
use Rattle.naga_oil_derive.specs.Tree.{World}
use Rattle.naga_oil_derive.specs.World.{value_of, world}
use Rattle.naga_oil_derive.specs.Collected.{depth}
use Rattle.naga_oil_derive.specs.Copying.{Goes, WentSomewhere, AreNames, IsThere, rank}
use Rattle.naga_oil_derive.specs.Copied.{CopyState, put, copy_all}
use Rattle.naga_oil_derive.specs.declared.copy.Waiting.{Waiting}

-- ---- which items wait

-- the first of the items that wait after an item
abbrev pub next_item : List Waiting → Option ItemPlace
next_item [] = None
next_item (w ∷ ws) = Some w.item

-- an item of a source waits, and ws after it: it isn't mapped, and what it named so far is mapped or waits next
pub record Waits (source : Module) (g : Goes) (w : Waiting) (ws : List Waiting) : Type 0 where
  pub there : IsThere source w.item
  pub names : AreNames (world (value_of source) w.item) w.names.items
  pub nowhere : g w.item ≡ None
  pub copied : All (λ o. WentSomewhere g o ⊎ (o ≡ next_item ws)) (take w.copied w.names.items)
  pub lower : All (λ v. rank source v.item < rank source w.item) ws

-- each item waits for those after it
abbrev pub AreItemsWaiting : Module → Goes → List Waiting → Type 0
AreItemsWaiting source g [] = Unit {0}
AreItemsWaiting source g (w ∷ ws) = Waits source g w ws × AreItemsWaiting source g ws

-- what a name requires: nothing if it is mapped; otherwise what it names waits with no name copied
abbrev pub AwaitsItem : Module → Goes → Option ItemPlace → Option Waiting → Type 0
AwaitsItem source g o None = WentSomewhere g o
AwaitsItem source g o (Some w) = (o ≡ Some w.item) × Waits source g w [] × (w.copied ≡ 0)

-- ---- how waiting items are copied

-- the names that are left
abbrev pub left_names : Waiting → List (Option ItemPlace)
left_names w = drop w.copied w.names.items

-- the names left are copied, and then the item
abbrev pub finish_item : ModuleValue → ℕ → CopyState → Waiting → CopyState
finish_item m shift s w = put m shift (copy_all m shift s (left_names w)) w.item

-- all waiting items are copied, the last one first
abbrev pub finish_items : ModuleValue → ℕ → CopyState → List Waiting → CopyState
finish_items m shift s [] = s
finish_items m shift s (w ∷ ws) = finish_item m shift (finish_items m shift s ws) w

-- ---- an upper bound of the steps

-- to copy what a name means, where the item at p takes f p steps
abbrev pub steps_of_name : (ItemPlace → ℕ) → Option ItemPlace → ℕ
steps_of_name f None = 1
steps_of_name f (Some p) = f p

abbrev pub steps_of_row : (ItemPlace → ℕ) → Option Row → ℕ
steps_of_row f None = 1
steps_of_row f (Some r) = 2 + sum_by (steps_of_name f) r.names

-- to copy the item at a place; n is more than its depth
unfoldable pub item_steps : ℕ → World → ItemPlace → ℕ
item_steps zero w p = 1
item_steps (suc n) w p = steps_of_row (item_steps n w) (w p)

-- to copy a waiting item
abbrev pub waiting_steps : ModuleValue → Waiting → ℕ
waiting_steps m w = 1 + sum_by (steps_of_name (item_steps (depth m) (world m))) (left_names w)
