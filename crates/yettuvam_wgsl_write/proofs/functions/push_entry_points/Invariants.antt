use Rattle.std.proofs.Common.{◌≡◌, length}
use Rattle.yettuvam_wgsl_write_items.specs.Text.{inputs, pieces_of}
use Rattle.yettuvam_wgsl_written_names.specs.Items.{texts}
use Rattle.yettuvam_wgsl_write.specs.Functions.{each_entry_point, entry_points}
use Rattle.yettuvam_wgsl_write.specs.Plans.{entries_value, plans_value}
use Rattle.yettuvam_wgsl_write.proofs.functions.push_entry_points.Given as goal

abbrev pub invariant-loop-rest : goal.invariant-loop-rest
invariant-loop-rest l =
    each_entry_point (inputs l.context l.known) (texts l.names) (plans_value l.plans) (entries_value l.rest) (pieces_of l.out)
    ≡ entry_points (inputs l.context l.known) (plans_value l.fn.plans) (entries_value l.of) (pieces_of l.fn.out)

abbrev pub decreases-loop-rest : goal.decreases-loop-rest
decreases-loop-rest l = length l.rest
