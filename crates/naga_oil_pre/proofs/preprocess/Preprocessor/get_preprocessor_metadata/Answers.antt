use Rattle.std.proofs.lemmas.Result.{err_from_is_err_and}
use Rattle.naga_oil_pre.proofs.MetadataLemmas.{metadata_cleaned, directives_refused}
use Rattle.naga_oil_pre.proofs.preprocess.Preprocessor.get_preprocessor_metadata.Goals as goal

pub returns-in_err-cleaned-clause-value : goal.returns-in_err-cleaned-clause-value
returns-in_err-cleaned-clause-value c =
    let p = err_from_is_err_and c.from_residual.result c.from_residual.ensures.1 in
    rw (p.1, p.2) (directives_refused _ c.args.allow_defines c.args.shader_str.now c.in_err-cleaned.ensures)

pub returns-clause-value : goal.returns-clause-value
returns-clause-value c = rw (metadata_cleaned c.args.allow_defines c.args.shader_str.now _ _ c.in_ok-cleaned.ensures) c.read_metadata.ensures.value
