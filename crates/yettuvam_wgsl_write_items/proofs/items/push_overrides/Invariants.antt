use Rattle.std.proofs.Common.{◌≡◌, length}
use Rattle.yettuvam_wgsl_write_types.specs.Types.{override_rows}
use Rattle.yettuvam_wgsl_written_names.specs.Items.{texts}
use Rattle.yettuvam_wgsl_write_items.specs.Items.{each_override, put_overrides}
use Rattle.yettuvam_wgsl_write_items.specs.Text.{inputs, pieces_of}
use Rattle.yettuvam_wgsl_write_items.proofs.items.push_overrides.Given as goal

abbrev pub invariant-loop-rest : goal.invariant-loop-rest
invariant-loop-rest l = each_override (inputs l.context l.known) (texts l.names) (pieces_of l.out) (override_rows l.rest) ≡ put_overrides (inputs l.context l.known) (pieces_of l.fn.out)

abbrev pub decreases-loop-rest : goal.decreases-loop-rest
decreases-loop-rest l = length l.rest
