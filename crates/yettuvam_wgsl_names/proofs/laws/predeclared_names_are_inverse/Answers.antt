use Rattle.yettuvam_wgsl_names.proofs.NameLaws.{predeclared_law}
use Rattle.yettuvam_wgsl_names.proofs.laws.predeclared_names_are_inverse.Goals as goal

pub returns : goal.returns
returns c = predeclared_law
