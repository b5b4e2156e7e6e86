use Rattle.yettuvam_wgsl_names.proofs.NameLaws.{order_law}
use Rattle.yettuvam_wgsl_names.proofs.laws.tables_are_ordered.Goals as goal

pub returns : goal.returns
returns c = order_law
