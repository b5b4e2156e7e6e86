use Rattle.yettuvam_wgsl_written_names_laws.proofs.Kept.{kept}
use Rattle.yettuvam_wgsl_written_names_laws.proofs.laws.free_names_stay.Goals as goal

pub returns : goal.returns
returns c = kept
