-- The items that requests reach, and what a module holds after they are copied into it.
use Rattle.std.specs.Prelude.{ℕ, zero, suc, ◌≡◌, ◌+◌, ◌*◌, ◌⊎◌, List, [], ◌∷◌, ◌++◌, length, Option, Some, None}
use Rattle.naga_oil_ir.specs.Rows.{Row}
use Rattle.naga_oil_ir.specs.ModuleValue.{ModuleValue}
use Rattle.naga_oil_ir.specs.declared.names.ItemPlace.{ItemPlace}
use Rattle.naga_oil_ir.specs.declared.span.Span.{Span}
use Rattle.naga_oil_derive.specs.Tree.{World, Kept, ReadsAs}
use Rattle.naga_oil_derive.specs.World.{world, span_at, Extends}

abbrev pub names_trail : (ItemPlace → List ItemPlace) → List (Option ItemPlace) → List ItemPlace
names_trail f [] = []
names_trail f (None ∷ ps) = names_trail f ps
names_trail f (Some p ∷ ps) = f p ++ names_trail f ps

abbrev pub row_trail : (ItemPlace → List ItemPlace) → Option Row → List ItemPlace
row_trail f None = []
row_trail f (Some r) = names_trail f r.names

abbrev pub kept_trail : Option ItemPlace → List ItemPlace → List ItemPlace
kept_trail None t = t
kept_trail (Some q) t = []

-- what an item reaches: first what it names, last itself; nothing for a kept type; n is more than the depth of the item
unfoldable pub reached : ℕ → World → Kept → ItemPlace → List ItemPlace
reached zero w kept p = []
reached (suc n) w kept p = kept_trail (kept p) (row_trail (reached n w kept) (w p) ++ p ∷ [])

-- more than the depth of any item
abbrev pub depth : ModuleValue → ℕ
depth m = 2 * length m.types + 2 * length m.global_expressions + 2

-- an item of a target reads as the source's at a place
abbrev pub Stands : World → Kept → World → ItemPlace → Type 0
Stands w kept v p = (q : ItemPlace) × ((r : Row) × (v q ≡ Some r)) × ReadsAs w v kept p q

-- a target, and the target with one more item at the end of its arena, which reads as the source's item at a place, as none did
-- before, and has its span
pub record Comes
    (w : World) (kept : Kept) (spans : ItemPlace → Option Span) (m n : ModuleValue) (p : ItemPlace) :
    Type 0 where
  pub at : ItemPlace
  pub free : world m at ≡ None
  pub extends : Extends m n
  pub others : (x : ItemPlace) (r : Row) → world n x ≡ Some r → (world m x ≡ Some r) ⊎ (x ≡ at)
  pub reads : ReadsAs w (world n) kept p at
  pub span : span_at n at ≡ spans p
  pub first : Stands w kept (world m) p → ⊥

-- a target, and the target with the first occurrences of what the items at places of a source add to it
pub data Collects (w : World) (kept : Kept) (spans : ItemPlace → Option Span) :
    ModuleValue → List ItemPlace → ModuleValue → Type 0 where
  Done : {m : ModuleValue} → Collects w kept spans m [] m
  Known :
      {m n : ModuleValue} {p : ItemPlace} {ps : List ItemPlace} → Stands w kept (world m) p →
      Collects w kept spans m ps n → Collects w kept spans m (p ∷ ps) n
  Fresh :
      {m l n : ModuleValue} {p : ItemPlace} {ps : List ItemPlace} → Comes w kept spans m l p →
      Collects w kept spans l ps n → Collects w kept spans m (p ∷ ps) n
