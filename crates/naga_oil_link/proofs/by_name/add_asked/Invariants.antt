use Rattle.std.proofs.Common.{◌≡◌, ◌++◌, drop, map}
use Rattle.std.specs.List.{flat_map}
use Rattle.naga_oil_words.specs.Texts.{texts}
use Rattle.naga_oil_link.specs.ByName.{places_named, with_places, listed_names, MayStart}
use Rattle.naga_oil_link.specs.Linked.{decorated_names}
use Rattle.naga_oil_link.proofs.by_name.add_asked.Given as goal

abbrev pub invariant-loop-item : goal.invariant-loop-item
invariant-loop-item l = record {
  places : with_places l.places.keys (flat_map (places_named (listed_names l.of)) (map (λ item. item ++ l.asked.decoration.now) (texts (drop l.item-index l.asked.items.now)))) ≡ with_places l.fn.places.keys (flat_map (places_named (listed_names l.of)) (decorated_names l.asked));
  guess : MayStart (listed_names l.of) l.index.items l.guess;
}
