use Rattle.std.proofs.Common.{◌≡◌, ◌+◌, drop}
use Rattle.std.specs.BTreeMap.{get}
use Rattle.std.specs.Ordering.{nat_cmp}
use Rattle.naga_oil_registry.specs.Keywords.{put}
use Rattle.naga_oil_registry.proofs.keywords.edit.Given as goal

abbrev pub invariant-loop-at : goal.invariant-loop-at
invariant-loop-at l = put (get nat_cmp l.edits) (l.place + l.at) (drop l.at l.other) ≡ put (get nat_cmp l.fn.edits) l.place l.other
