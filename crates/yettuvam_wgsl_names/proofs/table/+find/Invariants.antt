use Rattle.std.proofs.Common.{length}
use Rattle.yettuvam_wgsl_names.proofs.table.+find.Given as goal

-- proposed from what the function passes where it calls itself
abbrev pub decreases-find : goal.decreases-find
decreases-find g l = length l.table.now
