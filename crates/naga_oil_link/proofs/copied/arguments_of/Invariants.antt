use Rattle.std.proofs.Common.{◌≡◌, map, take}
use Rattle.naga_oil_ir.specs.ModuleValue.{argument_value}
use Rattle.naga_oil_link.proofs.copied.arguments_of.Given as goal

abbrev pub invariant-loop-argument : goal.invariant-loop-argument
invariant-loop-argument l = map argument_value l.copies.items ≡ map argument_value (take l.argument-index l.arguments)
