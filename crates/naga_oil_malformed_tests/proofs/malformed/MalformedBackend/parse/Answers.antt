use Rattle.std.proofs.lemmas.Result.{err_from_is_err_and}
use Rattle.naga_oil_malformed_tests.proofs.malformed.MalformedBackend.parse.Goals as goal

pub returns-in_err-entries : goal.returns-in_err-entries
returns-in_err-entries c =
    let p = err_from_is_err_and c.from_residual-in_err-entries.result c.from_residual-in_err-entries.ensures.1 in
    rw (p.1, p.2) tt
