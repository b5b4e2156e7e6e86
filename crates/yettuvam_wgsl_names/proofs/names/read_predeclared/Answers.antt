use Rattle.yettuvam_wgsl_names.proofs.NameLaws.{order_law}
use Rattle.yettuvam_wgsl_names.proofs.names.read_predeclared.Goals as goal

pub find-requires : goal.find-requires
find-requires c = order_law.predeclared
