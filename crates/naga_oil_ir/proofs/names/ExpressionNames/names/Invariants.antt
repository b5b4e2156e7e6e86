use Rattle.std.proofs.Common.{◌≡◌, ◌++◌, map, option_map, take}
use Rattle.naga_oil_ir.specs.declared.names.ItemPlace.TheVariants.{ExpressionItem}
use Rattle.naga_oil_ir.proofs.names.ExpressionNames.names.Given as goal

abbrev pub invariant-loop-operand : goal.invariant-loop-operand
invariant-loop-operand l = l.names.items ≡ l.initial.names.items ++ map (option_map ExpressionItem) (take l.operand-index l.operand-items)
