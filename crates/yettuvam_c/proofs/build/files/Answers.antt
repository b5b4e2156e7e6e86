use Rattle.std.proofs.lemmas.Result.{err_from_is_err_and}
use Rattle.yettuvam_c.proofs.BuildLemmas.{sources_refused_at}
use Rattle.yettuvam_c.proofs.build.files.Goals as goal

pub returns-in_err-file-clause-err : goal.returns-in_err-file-clause-err
returns-in_err-file-clause-err c =
    let p = err_from_is_err_and c.from_residual-in_err-file.result c.from_residual-in_err-file.ensures.1 in
    rw (p.1, p.2) (sources_refused_at c.args.sources.now c.loop-source.source-index _ c.in_err-file.field-0.0 c.loop-source-test.true c.in_err-file.ensures.err)
