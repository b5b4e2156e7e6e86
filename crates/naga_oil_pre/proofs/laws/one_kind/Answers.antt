use Rattle.naga_oil_conditions.proofs.KindGrammarLemmas.{one_kind, one_unversioned_kind}
use Rattle.naga_oil_pre.proofs.laws.one_kind.Goals as goal

pub returns : goal.returns
returns c = record { kind = one_kind; unversioned = one_unversioned_kind }
