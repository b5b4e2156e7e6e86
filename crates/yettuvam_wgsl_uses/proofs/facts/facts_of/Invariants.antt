use Rattle.std.proofs.Common.{◌≡◌, [], length}
use Rattle.naga_oil_ir.specs.ModuleValue.{expression_values}
use Rattle.yettuvam_wgsl_uses.specs.Facts.{facts_from}
use Rattle.yettuvam_wgsl_uses.proofs.facts.facts_of.Given as goal

abbrev pub invariant-loop-rest : goal.invariant-loop-rest
invariant-loop-rest l =
    facts_from l.natures l.times [] (expression_values l.expressions) ≡ facts_from l.natures l.times l.facts.items (expression_values l.rest)

abbrev pub decreases-loop-rest : goal.decreases-loop-rest
decreases-loop-rest l = length l.rest
