use Rattle.naga_oil_pre.specs.MetadataView.{found_of}
use Rattle.naga_oil_pre.specs.Reading.{braces_after}
use Rattle.naga_oil_conditions.specs.SourceView.{line_of}
use Rattle.naga_oil_pre.proofs.MetadataLemmas.{import_read, import_recorded, on_both}
use Rattle.naga_oil_pre.proofs.metadata.read_kind.Goals as goal

pub returns-in-Import-clause-ok : goal.returns-in-Import-clause-ok
returns-in-Import-clause-ok c =
    rw c.in-Import.is
    (on_both c.declare_import.result _ _ _ c.declare_import.ensures.ok c.declare_import.ensures.left
    (λ read left. import_read c.args.allow_defines (found_of c.declare_import.new.findings) (braces_after 0 (line_of c.args.line.now).covered) c.args.source.now.left c.declare_import.new.source.left _ read left))

pub returns-in-Import-clause-names : goal.returns-in-Import-clause-names
returns-in-Import-clause-names c =
    on_both c.declare_import.result _ _ _ c.declare_import.ensures.names c.declare_import.ensures.left
    (λ gains left. import_recorded c.args.findings.now.names c.declare_import.new.findings.names (braces_after 0 (line_of c.args.line.now).covered) c.args.source.now.left c.declare_import.new.source.left left gains)
