use Rattle.std.proofs.Common.{◌≡◌}
use Rattle.std.specs.List.{flat_map}
use Rattle.naga_oil_link.specs.ByName.{places_named, with_places, listed_names, MayStart}
use Rattle.naga_oil_words.specs.Texts.{texts}
use Rattle.naga_oil_link.proofs.by_name.add_named.Given as goal

abbrev pub invariant-loop-name : goal.invariant-loop-name
invariant-loop-name l = record {
  places : with_places l.places.keys (flat_map (places_named (listed_names l.of)) (texts l.name-iterator)) ≡ with_places l.fn.places.keys (flat_map (places_named (listed_names l.of)) (texts l.names.keys));
  guess : MayStart (listed_names l.of) l.index.items l.guess;
}
