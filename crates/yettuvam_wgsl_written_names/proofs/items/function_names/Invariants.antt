use Rattle.std.proofs.Common.{◌≡◌, length}
use Rattle.yettuvam_wgsl_written_names.specs.Items.{each, naming_of, function_labels}
use Rattle.yettuvam_wgsl_written_names.proofs.items.function_names.Given as goal

abbrev pub invariant-loop-rest : goal.invariant-loop-rest
invariant-loop-rest l = each (naming_of l.taken l.names.items) (function_labels l.rest) ≡ each (naming_of l.fn.taken l.fn.names.items) (function_labels l.of)

abbrev pub decreases-loop-rest : goal.decreases-loop-rest
decreases-loop-rest l = length l.rest
