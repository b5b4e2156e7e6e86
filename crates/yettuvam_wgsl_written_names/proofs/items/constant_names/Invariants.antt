use Rattle.std.proofs.Common.{◌≡◌, length}
use Rattle.yettuvam_wgsl_written_names.specs.Items.{each, naming_of, constant_labels}
use Rattle.yettuvam_wgsl_written_names.proofs.items.constant_names.Given as goal

abbrev pub invariant-loop-rest : goal.invariant-loop-rest
invariant-loop-rest l = each (naming_of l.taken l.names.items) (constant_labels l.rest) ≡ each (naming_of l.fn.taken l.fn.names.items) (constant_labels l.of)

abbrev pub decreases-loop-rest : goal.decreases-loop-rest
decreases-loop-rest l = length l.rest
