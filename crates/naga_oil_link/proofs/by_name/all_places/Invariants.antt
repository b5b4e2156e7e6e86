use Rattle.std.proofs.Common.{◌≡◌, []}
use Rattle.std.specs.List.{range_with_len}
use Rattle.naga_oil_link.specs.ByName.{with_places}
use Rattle.naga_oil_link.proofs.by_name.all_places.Given as goal

abbrev pub invariant-loop-at : goal.invariant-loop-at
invariant-loop-at l = l.places.keys ≡ with_places [] (range_with_len 0 l.at)
