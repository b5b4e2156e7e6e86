use Rattle.std.proofs.Common.{◌≡◌, take}
use Rattle.std.specs.List.{flat_map}
use Rattle.naga_oil_form.specs.Links.{lists, added}
use Rattle.naga_oil_walk.specs.Walk.{brief, notes_after}
use Rattle.naga_oil_walk.specs.Walks.{IsOver}
use Rattle.naga_oil_walk.specs.Naming.{token_names, Adds}
use Rattle.naga_oil_walk.proofs.function_walk.add_tokens.Given as goal

abbrev pub invariant-loop-token : goal.invariant-loop-token
invariant-loop-token l = record {
  so_far : l.walk.places.items ≡ added l.fn.walk.places.items (flat_map (brief l.of.kinds.items (lists l.of.links.items)) (take l.token-index l.tokens));
  emitted : l.walk.emitted.items ≡ notes_after l.of.kinds.items (lists l.of.links.items) l.fn.walk.places.items l.fn.walk.emitted.items (take l.token-index l.tokens);
  requests : Adds l.fn.walk.requests.items (flat_map (token_names l.of.kinds.items l.of.named.items (lists l.of.links.items)) (take l.token-index l.tokens)) l.walk.requests.items;
  over : IsOver l.of l.walk;
}
