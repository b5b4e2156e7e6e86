use Rattle.std.proofs.Common.{◌≡◌, take}
use Rattle.naga_oil_mini_symbols.specs.NameTable.{texts_of}
use Rattle.naga_oil_mini_writer.proofs.order.next_names.Given as goal

abbrev pub invariant-loop-name : goal.invariant-loop-name
invariant-loop-name l = l.next ≡ texts_of (take l.name-index l.names)
