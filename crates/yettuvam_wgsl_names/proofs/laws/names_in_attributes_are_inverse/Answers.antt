use Rattle.yettuvam_wgsl_names.proofs.NameLaws.{context_law}
use Rattle.yettuvam_wgsl_names.proofs.laws.names_in_attributes_are_inverse.Goals as goal

pub returns : goal.returns
returns c = context_law
