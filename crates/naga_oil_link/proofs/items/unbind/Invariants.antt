use Rattle.std.proofs.Common.{◌≡◌, ◌++◌, map, take, drop}
use Rattle.naga_oil_ir.specs.ModuleValue.{argument_value}
use Rattle.naga_oil_link.specs.Owned.{unbound_argument}
use Rattle.naga_oil_link.proofs.items.unbind.Given as goal

abbrev pub invariant-loop-argument : goal.invariant-loop-argument
invariant-loop-argument l = map argument_value (take l.argument-index l.arguments) ++ map unbound_argument (map argument_value (drop l.argument-index l.arguments)) ≡ map unbound_argument (map argument_value l.fn.arguments)
