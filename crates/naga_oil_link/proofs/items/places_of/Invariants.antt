use Rattle.std.proofs.Common.{◌≡◌, ◌++◌, length, All}
use Rattle.naga_oil_form.specs.ItemForm.{IsThere}
use Rattle.naga_oil_ir.specs.declared.names.ItemPlace.TheVariants.{TypeItem, ConstantItem, OverrideItem, GlobalItem}
use Rattle.naga_oil_link.specs.Places.{places_from_first}
use Rattle.naga_oil_link.proofs.items.places_of.Given as goal

abbrev pub invariant-loop-at : goal.invariant-loop-at
invariant-loop-at l = record {
  there : All (IsThere l.of) l.places.items;
  places : l.places.items ≡ places_from_first TypeItem l.at;
}

abbrev pub invariant-loop-at-2 : goal.invariant-loop-at-2
invariant-loop-at-2 l = record {
  there : All (IsThere l.of) l.places.items;
  places : l.places.items ≡ places_from_first TypeItem (length l.of.types) ++ places_from_first ConstantItem l.at;
}

abbrev pub invariant-loop-at-3 : goal.invariant-loop-at-3
invariant-loop-at-3 l = record {
  there : All (IsThere l.of) l.places.items;
  places : l.places.items ≡ places_from_first TypeItem (length l.of.types) ++ places_from_first ConstantItem (length l.of.constants) ++ places_from_first OverrideItem l.at;
}

abbrev pub invariant-loop-at-4 : goal.invariant-loop-at-4
invariant-loop-at-4 l = record {
  there : All (IsThere l.of) l.places.items;
  places : l.places.items ≡ places_from_first TypeItem (length l.of.types) ++ places_from_first ConstantItem (length l.of.constants) ++ places_from_first OverrideItem (length l.of.overrides) ++ places_from_first GlobalItem l.at;
}
