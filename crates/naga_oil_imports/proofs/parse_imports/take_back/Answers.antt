use Rattle.naga_oil_imports.proofs.DeclarationLemmas.{leaf_back, all_back}
use Rattle.naga_oil_imports.proofs.parse_imports.take_back.Goals as goal

pub loop-last-preserved : goal.loop-last-preserved
loop-last-preserved c = λ before long was.
    leaf_back before c.args.len _ c.in-Some.front.now c.in-Some.last.now _ _ _ long c.in-Some.ensures.cases.0 c.as_str.ensures.value c.pop_path.ensures (c.loop-last.invariant before long was)

pub returns : goal.returns
returns c = λ before long was.
    all_back before c.args.len c.loop-last.declared.entries _ c.loop-last.rest.now long c.in_default.ensures.cases c.truncate.ensures.entries (c.loop-last.invariant before long was)
