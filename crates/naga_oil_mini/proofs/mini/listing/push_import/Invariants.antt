use Rattle.std.proofs.Common.{◌≡◌, ◌++◌, take}
use Rattle.std.specs.List.{flat_map}
use Rattle.naga_oil_words.specs.Texts.{texts}
use Rattle.naga_oil_mini.specs.Listing.{field}
use Rattle.naga_oil_mini.proofs.mini.listing.push_import.Given as goal

abbrev pub invariant-loop-item : goal.invariant-loop-item
invariant-loop-item l = l.out.items ≡ l.initial.out.items ++ flat_map field (texts (take l.item-index l.item-items))
