use Rattle.yettuvam_wgsl_names.proofs.NameLaws.{apart_law}
use Rattle.yettuvam_wgsl_names.proofs.laws.words_are_no_names.Goals as goal

pub returns : goal.returns
returns c = apart_law
