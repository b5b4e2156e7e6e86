use Rattle.std.specs.BTreeMap.{get_by_text}
use Rattle.std.proofs.lemmas.Result.{err_from_is_err_and}
use Rattle.yettuvam_c.proofs.GivenLemmas.{refused_at}
use Rattle.yettuvam_c.proofs.given.given.Goals as goal

pub returns-in_err-name-clause-err : goal.returns-in_err-name-clause-err
returns-in_err-name-clause-err c =
    let p = err_from_is_err_and c.from_residual.result c.from_residual.ensures.1 in
    rw (p.1, p.2) (refused_at c.args.definitions.now c.loop-index.index _ (get_by_text c.loop-index.defs) c.in_err-name.field-0.0 c.loop-index-test.true c.loop-index.invariant.0 c.in_err-name.ensures.err)
