use Rattle.std.proofs.Common.{◌≡◌, ◌∷◌, refl, rules}
use Rattle.naga_oil_conditions.specs.SourceView.{line_of}
use Rattle.naga_oil_imports.specs.Leaves.{import_leaves}
use Rattle.naga_oil_pre.specs.Preprocessed.{import_text}
use Rattle.naga_oil_pre.specs.Reading.{braces_after, taken}
use Rattle.naga_oil_pre.proofs.LoopLemmas.{if_err}
use Rattle.naga_oil_pre.proofs.MetadataLemmas.{import_refused}
use Rattle.naga_oil_pre.proofs.defines.skip_import.Goals as goal

pub returns-clause-err : goal.returns-clause-err
returns-clause-err c =
    let line = line_of c.args.line.now in
    let text : c.as_str-2.result.now ≡ import_text (line ∷ taken (braces_after 0 line.covered) c.args.source.now.left) = search rules in
    if_err c.check_import.result _ _ c.check_import.ensures.err
    (λ e fails found. rw (← text) (import_refused e found line (import_leaves c.as_str-2.result.now) (fails found.known line refl)))
