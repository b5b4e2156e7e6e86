use Rattle.std.proofs.Common.{◌≡◌, ◌∷◌, refl, subst, rules}
use Rattle.naga_oil_imports.specs.Leaves.{import_leaves}
use Rattle.naga_oil_pre.specs.MetadataView.{Gains, found_of}
use Rattle.naga_oil_pre.specs.Preprocessed.{import_text}
use Rattle.naga_oil_pre.specs.Reading.{braces_after, taken}
use Rattle.naga_oil_pre.specs.Recorded.{names_of}
use Rattle.naga_oil_conditions.specs.SourceView.{line_of}
use Rattle.naga_oil_pre.proofs.LoopLemmas.{if_err, on_ok}
use Rattle.naga_oil_pre.proofs.MetadataLemmas.{import_refused, takes_names}
use Rattle.naga_oil_pre.proofs.metadata.declare_import.Goals as goal

pub returns-clause-err : goal.returns-clause-err
returns-clause-err c =
    let line = line_of c.args.line.now in
    let found = found_of c.args.findings.now in
    let text : c.as_str-2.result.now ≡ import_text (line ∷ taken (braces_after 0 line.covered) c.args.source.now.left) = search rules in
    if_err c.declare.result _ _ c.declare.ensures.err
    (λ e fails. rw (← text) (import_refused e found line (import_leaves c.as_str-2.result.now) (fails found.known line refl)))

pub returns-clause-names : goal.returns-clause-names
returns-clause-names c =
    let old = c.args.findings.now.names in
    let new = c.read_import.new.sink in
    let left = c.args.source.now.left in
    let count : c.braces_after-braces.result ≡ braces_after 0 (line_of c.args.line.now).covered = search rules in
    let gains : Gains old new (names_of (taken c.braces_after-braces.result left)) = takes_names old new (taken c.braces_after-braces.result left) c.in_ok-import.ensures.sink in
    on_ok c.declare.result _ _ c.declare.ensures.marked (λ marked. subst (λ n. Gains old new (names_of (taken n left))) count gains)
