use Rattle.std.proofs.lemmas.Result.{err_from_is_err_and}
use Rattle.yettuvam_c.proofs.BuildLemmas.{names_refused_at}
use Rattle.yettuvam_c.proofs.build.name_texts.Goals as goal

pub returns-in_err-text-clause-err : goal.returns-in_err-text-clause-err
returns-in_err-text-clause-err c =
    let p = err_from_is_err_and c.from_residual-in_err-text.result c.from_residual-in_err-text.ensures.1 in
    rw (p.1, p.2) (names_refused_at c.args.names.now c.loop-name.name-index _ c.in_err-text.field-0.0 c.loop-name-test.true c.in_err-text.ensures.err)
