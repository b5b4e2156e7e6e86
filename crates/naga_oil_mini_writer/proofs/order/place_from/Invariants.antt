use Rattle.std.proofs.Common.{◌≡◌, drop}
use Rattle.naga_oil_mini_symbols.specs.NameTable.{texts_of}
use Rattle.naga_oil_mini_writer.specs.Order.{place_from}
use Rattle.naga_oil_mini_writer.proofs.order.place_from.Given as goal

abbrev pub invariant-loop-place : goal.invariant-loop-place
invariant-loop-place l = place_from l.place l.name (texts_of (drop l.place l.names)) ≡ place_from l.from l.name (texts_of (drop l.from l.names))
