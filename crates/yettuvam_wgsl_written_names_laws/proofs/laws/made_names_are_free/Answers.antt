use Rattle.yettuvam_wgsl_written_names.proofs.Free.{fresh_is_free}
use Rattle.yettuvam_wgsl_written_names_laws.proofs.laws.made_names_are_free.Goals as goal

pub returns : goal.returns
returns c = fresh_is_free
