use Rattle.std.proofs.Common.{◌≡◌, take}
use Rattle.naga_oil_mini_symbols.specs.NameTable.{texts_of}
use Rattle.naga_oil_mini_front.specs.Reader.{arguments, arguments_of}
use Rattle.naga_oil_mini_front.proofs.reader.arguments.Given as goal

abbrev pub invariant-loop-parameter : goal.invariant-loop-parameter
invariant-loop-parameter l = arguments_of l.arguments.items ≡ arguments (texts_of (take l.parameter-index l.names))
