use Rattle.std.proofs.Common.{◌≡◌, ◌++◌}
use Rattle.naga_oil_words.specs.Texts.{texts}
use Rattle.naga_oil_mini.specs.Listing.{name_lines}
use Rattle.naga_oil_mini.proofs.mini.listing.push_names.Given as goal

abbrev pub invariant-loop-name : goal.invariant-loop-name
invariant-loop-name l = l.out.items ++ name_lines (texts l.name-iterator) ≡ l.fn.out.items ++ name_lines (texts l.names.keys)
