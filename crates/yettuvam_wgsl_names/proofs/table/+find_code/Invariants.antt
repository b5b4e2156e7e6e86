use Rattle.std.proofs.Common.{length}
use Rattle.yettuvam_wgsl_names.proofs.table.+find_code.Given as goal

-- proposed from what the function passes where it calls itself
abbrev pub decreases-find_code : goal.decreases-find_code
decreases-find_code g l = length l.table.now
