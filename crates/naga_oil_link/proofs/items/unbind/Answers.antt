use Rattle.std.proofs.Common.{refl, ◌∙◌, arith}
use Rattle.naga_oil_ir.specs.ModuleValue.{argument_value}
use Rattle.naga_oil_link.specs.Owned.{unbound_argument}
use Rattle.naga_oil_link.proofs.OwnedLemmas.{changed-more}
use Rattle.naga_oil_link.proofs.items.unbind.Goals as goal

pub loop-argument-preserved : goal.loop-argument-preserved
loop-argument-preserved c = changed-more argument_value unbound_argument c.loop-argument.arguments c.loop-argument.argument-index c.argument-item.result _ (omega arith) refl ∙ c.loop-argument.invariant
