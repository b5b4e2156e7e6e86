use Rattle.std.proofs.Common.{◌≡◌, is_some}
use Rattle.naga_oil_link.specs.ByName.{listed_names}
use Rattle.naga_oil_link.proofs.ByNameLemmas.{places_before}
use Rattle.naga_oil_link.proofs.by_name.named_places.Given as goal

abbrev pub invariant-loop-at : goal.invariant-loop-at
invariant-loop-at l = l.places.items ≡ places_before is_some (listed_names l.of) l.at
