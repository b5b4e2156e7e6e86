use Rattle.std.proofs.Common.{rules}
use Rattle.naga_oil_pre.specs.Recorded.{is_recorded}
use Rattle.naga_oil_pre.proofs.MetadataLemmas.{all_recorded}
use Rattle.naga_oil_pre.proofs.metadata.read_text.Goals as goal

pub returns-clause-names : goal.returns-clause-names
returns-clause-names c = all_recorded c.loop-findings.findings.names c.loop-findings.source.left (is_recorded c.args.cleaned.now) (search rules) c.loop-findings.invariant.names
