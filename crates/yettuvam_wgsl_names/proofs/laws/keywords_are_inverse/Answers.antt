use Rattle.yettuvam_wgsl_names.proofs.NameLaws.{keyword_law}
use Rattle.yettuvam_wgsl_names.proofs.laws.keywords_are_inverse.Goals as goal

pub returns : goal.returns
returns c = keyword_law
