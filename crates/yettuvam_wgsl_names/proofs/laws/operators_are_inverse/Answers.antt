use Rattle.yettuvam_wgsl_names.proofs.NameLaws.{operator_law}
use Rattle.yettuvam_wgsl_names.proofs.laws.operators_are_inverse.Goals as goal

pub returns : goal.returns
returns c = operator_law
