-- The nodes of items with what names mean, and what the items name.
use Rattle.std.specs.Prelude.{ℕ, ◌+◌, ◌-◌, ◌^◌, min, List, [], ◌∷◌, ◌++◌, length, map, take, drop, Option, Result, Ok, Err}
use Rattle.yettuvam_wgsl_words.specs.Class.{Text}
use Rattle.yettuvam_wgsl_words.specs.declared.token.Span.{Span}
use Rattle.yettuvam_wgsl_machine.specs.Machine.{Node}
use Rattle.yettuvam_wgsl_scope.specs.Items.{Item, items_of, items_view, names_of}
use Rattle.yettuvam_wgsl_scope.specs.Names.{Bound, bounds_view, taken}
use Rattle.yettuvam_wgsl_scope.specs.Names as names
use Rattle.yettuvam_wgsl_scope.specs.Order.{sorted}
use Rattle.yettuvam_wgsl_scope.specs.Refused.{Outcome, done}
use Rattle.yettuvam_wgsl_scope.specs.Stages.{◌>>=◌}
use Rattle.yettuvam_wgsl_scope.specs.declared.refusal.Fault.{Fault}
use Rattle.yettuvam_wgsl_scope.specs.declared.scope.Resolved.{Resolved as ResolvedOfCode}
use Rattle.yettuvam_wgsl_scope.specs.declared.scope.Resolver.{Resolver}
use Rattle.yettuvam_wgsl_scope.specs.declared.scope.Scopes.{Scopes as ScopesOfCode}

pub record State : Type 0 where
  pub names : names.State
  pub nodes : List (List Bound)
  pub uses : List (List ℕ)

abbrev pub state_of : Resolver → State
state_of r = record { names = names.state_of r.names; nodes = map (λ v. bounds_view v.items) r.nodes.items; uses = map (λ v. v.items) r.uses.items }

abbrev pub Done : Type 0
Done = Outcome State (Unit {0})

-- the nodes of an item
abbrev pub nodes_of : List Node → Item → List Node
nodes_of nodes i = take (i.end - i.start) (drop i.start nodes)

abbrev pub with_names : State → names.State → State
with_names s n = record { names = taken n; nodes = s.nodes ++ n.nodes ∷ []; uses = s.uses ++ n.uses ∷ [] }

abbrev pub resolved : names.Done → State → Done
resolved (Ok p) s = done (with_names s p.1)
resolved (Err e) s = Err e

unfoldable pub item : List Node → State → Done
item nodes s = resolved (names.run nodes s.names) s

abbrev pub then_run : Done → (State → Done) → Done
then_run (Ok p) go = go p.1
then_run (Err e) go = Err e

unfoldable pub run : List Node → List Item → State → Done
run nodes [] s = done s
run nodes (i ∷ items) s = then_run (item (nodes_of nodes i) s) (run nodes items)

abbrev pub start_of : (Text → Option ℕ) → State
start_of items = record { names = names.start items; nodes = []; uses = [] }

-- ---- a whole module

abbrev pub spans_of : List Item → List Span
spans_of items = map (λ i. i.name.span) items

-- the nodes of items with what names mean, and what the items name
pub record Resolved : Type 0 where
  pub nodes : List (List Bound)
  pub uses : List (List ℕ)

abbrev pub resolved_view : ResolvedOfCode → Resolved
resolved_view r = record { nodes = map (λ v. bounds_view v.items) r.nodes.items; uses = map (λ v. v.items) r.uses.items }

abbrev pub resolved_in : Done → Result Resolved Fault
resolved_in (Ok p) = Ok (record { nodes = p.1.nodes; uses = p.1.uses })
resolved_in (Err e) = Err e

unfoldable pub resolved_of : List Node → List Item → Result Resolved Fault
resolved_of nodes items = names_of items >>= λ places. resolved_in (run nodes items (start_of places))

-- the most turns that sorting takes: one for each item and each use, and one
abbrev pub turns_of : (nodes items : ℕ) → ℕ
turns_of nodes items = min (min (nodes + items) (2 ^ 64 - 1) + 1) (2 ^ 64 - 1)

abbrev pub order_of : List Item → (uses : List (List ℕ)) → (turns : ℕ) → Result (List ℕ × List ℕ) Fault
order_of items uses turns = sorted (spans_of items) uses turns

-- the items of a module, the nodes of each with what names mean, an order of the items, and the place of each item in it
pub record Scopes : Type 0 where
  pub items : List Item
  pub nodes : List (List Bound)
  pub order : List ℕ
  pub ranks : List ℕ

abbrev pub scopes_view : ScopesOfCode → Scopes
scopes_view s = record {
  items = items_view s.items.items;
  nodes = map (λ v. bounds_view v.items) s.nodes.items;
  order = s.order.order.items;
  ranks = s.order.ranks.items;
}

-- the names of a module are resolved, and its items are sorted
unfoldable pub scoped : List Node → Result Scopes Fault
scoped nodes = do
  items ← items_of nodes
  resolved ← resolved_of nodes items
  order ← order_of items resolved.uses (turns_of (length nodes) (length items))
  Ok (record { items = items; nodes = resolved.nodes; order = order.0; ranks = order.1 })
