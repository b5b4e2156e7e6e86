use Rattle.std.proofs.Common.{◌∙◌, sym}
use Rattle.naga_oil_imports.specs.Declarations.{declared_of, with_path}
use Rattle.naga_oil_imports.proofs.DeclarationLemmas.{leaves_more}
use Rattle.naga_oil_imports.proofs.parse_imports.push_leaves.Goals as goal

pub loop-i-preserved : goal.loop-i-preserved
loop-i-preserved c =
    c.in_default.ensures.ok ∙ (λ j. with_path (c.loop-i.invariant j) (c.as_str.ensures.value j) (c.as_str-in-loop-i.ensures.value j))
    ∙ sym (leaves_more (declared_of c.args.declared.now) c.args.leaves.now c.loop-i.i c.index-leaves-i.result c.loop-i-test.true c.index-leaves-i.is)
