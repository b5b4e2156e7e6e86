-- Waiting places: each is listed after its operands.
use Rattle.std.specs.Prelude.{ℕ, ◌≡◌, ◌+◌, ◌*◌, ◌<◌, ◌⊎◌, true, List, [], ◌∷◌, ◌++◌, drop, take, length, slice_get, Option, Some, None, All}
use Rattle.std.specs.List.{flat_map}
use Rattle.naga_oil_form.specs.Links.{Links, linked, lists, has, added, trail}
use Rattle.naga_oil_form.specs.declared.form.ExpressionParts.{ExpressionParts}
use Rattle.naga_oil_ir.specs.declared.names.ItemPlace.{ItemPlace}
use Rattle.naga_oil_ir.specs.declared.parts.Named.{Named}
use Rattle.naga_oil_walk.specs.Naming.{item_of, requests_at, names_from, IsAmong, Adds}
use Rattle.naga_oil_walk.specs.declared.walk.Request.{Request}
use Rattle.naga_oil_walk.specs.declared.walk.Request.TheVariants.{Item}
use Rattle.naga_oil_walk.specs.declared.function_walk.Waiting.{Waiting}

-- ---- waiting places

-- the first waiting place, if there is one
abbrev pub next_place : List Waiting → Option ℕ
next_place [] = None
next_place (w ∷ ws) = Some w.place

-- a place waits before ws, where o are listed and rs requested: its item is requested, and its operands so far are listed or
-- wait next
pub record Waits (of : ExpressionParts) (o : List ℕ) (rs : List Request) (w : Waiting) (ws : List Waiting) : Type 0 where
  pub there : w.place < length of.links.items
  pub asked : (p : ItemPlace) → item_of (slice_get of.named.items w.place) ≡ Some p → IsAmong rs (Item p)
  pub done : All (λ x. (has o x ≡ true) ⊎ (Some x ≡ next_place ws)) (take w.done (linked (lists of.links.items) w.place))

-- each place waits for those after it
abbrev pub AreWaiting : ExpressionParts → List ℕ → List Request → List Waiting → Type 0
AreWaiting of o rs [] = Unit {0}
AreWaiting of o rs (w ∷ ws) = Waits of o rs w ws × AreWaiting of o rs ws

-- the effect of reaching a place, where o are listed, rs requested before and ts after: none if the place is listed; else it
-- waits with no operand done, and the item that it names is requested
abbrev pub Awaits : List Named → List ℕ → List Request → List Request → ℕ → Option Waiting → Type 0
Awaits ns o rs ts k None = (has o k ≡ true) × (ts ≡ rs)
Awaits ns o rs ts k (Some w) = (w.place ≡ k) × (w.done ≡ 0) × (ts ≡ rs ++ requests_at ns k)

-- ---- the result of listing waiting places

-- the operands of a waiting place that are left
abbrev pub left : Links → Waiting → List ℕ
left ls w = drop w.done (linked ls w.place)

-- the operands that are left are reached, and then the place is listed
abbrev pub finish : Links → List ℕ → Waiting → List ℕ
finish ls o w = added o (flat_map (trail ls) (left ls w) ++ w.place ∷ [])

-- waiting places are listed, the last one first
abbrev pub finish_all : Links → List ℕ → List Waiting → List ℕ
finish_all ls o [] = o
finish_all ls o (w ∷ ws) = finish ls (finish_all ls o ws) w

-- the requests that are left for waiting places, the last one first
abbrev pub names_left : List Named → Links → List Waiting → List Request
names_left ns ls [] = []
names_left ns ls (w ∷ ws) = names_left ns ls ws ++ flat_map (names_from ns ls) (left ls w)

-- if the requests left for vs are added to ts, then the requests left for ws are added to rs
abbrev pub AsksOn : List Named → Links → List Request → List Waiting → List Request → List Waiting → Type 0
AsksOn ns ls rs ws ts vs = (us : List Request) → Adds ts (names_left ns ls vs) us → Adds rs (names_left ns ls ws) us

-- ---- an upper bound of the number of steps

abbrev pub steps : Links → Waiting → ℕ
steps ls w = 1 + 2 * length (flat_map (trail ls) (left ls w))
