use Rattle.std.proofs.Common.{◌≡◌}
use Rattle.naga_oil_link.specs.ByName.{with_places, named_from, listed_names, IsReached}
use Rattle.naga_oil_link.proofs.by_name.add_from.Given as goal

abbrev pub invariant-loop-at : goal.invariant-loop-at
invariant-loop-at l = record {
  places : with_places l.places.keys (named_from (listed_names l.of) l.name l.index.items l.at) ≡ with_places l.fn.places.keys (named_from (listed_names l.of) l.name l.index.items l.start);
  reached : IsReached (listed_names l.of) l.name l.index.items l.at;
}
