use Rattle.std.proofs.Common.{◌∙◌, rules}
use Rattle.naga_oil_conditions.specs.KindView.{line_kind_of}
use Rattle.naga_oil_pre.specs.Recorded.{kind_names}
use Rattle.naga_oil_conditions.specs.SourceView.{line_of}
use Rattle.naga_oil_pre.proofs.LoopLemmas.{on_ok}
use Rattle.naga_oil_pre.proofs.MetadataLemmas.{line_recorded}
use Rattle.naga_oil_pre.proofs.metadata.read_line.Goals as goal

pub returns-clause-names : goal.returns-clause-names
returns-clause-names c =
    let line = line_of c.args.line.now in
    on_ok c.read_kind.result _ _ c.read_kind.ensures.names
    (λ read name.
    read name
    ∙ line_recorded c.args.findings.now.names c.record_line_names.new.names line c.args.source.now.left (kind_names (line_kind_of c.unversioned_line_kind-kind.result) line) (search rules) c.in_ok-record_line_names.ensures name)
