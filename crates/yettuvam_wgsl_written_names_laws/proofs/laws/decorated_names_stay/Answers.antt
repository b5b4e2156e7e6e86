use Rattle.yettuvam_wgsl_written_names_laws.proofs.Kept.{decorated}
use Rattle.yettuvam_wgsl_written_names_laws.proofs.laws.decorated_names_stay.Goals as goal

pub returns : goal.returns
returns c = decorated
