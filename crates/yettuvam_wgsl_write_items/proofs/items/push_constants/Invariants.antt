use Rattle.std.proofs.Common.{◌≡◌, length}
use Rattle.yettuvam_wgsl_write_expressions.specs.Context.{constant_rows}
use Rattle.yettuvam_wgsl_written_names.specs.Items.{texts}
use Rattle.yettuvam_wgsl_write_items.specs.Items.{each_constant, put_constants}
use Rattle.yettuvam_wgsl_write_items.specs.Text.{inputs, pieces_of}
use Rattle.yettuvam_wgsl_write_items.proofs.items.push_constants.Given as goal

abbrev pub invariant-loop-rest : goal.invariant-loop-rest
invariant-loop-rest l = each_constant (inputs l.context l.known) (texts l.names) (pieces_of l.out) (constant_rows l.rest) ≡ put_constants (inputs l.context l.known) (pieces_of l.fn.out)

abbrev pub decreases-loop-rest : goal.decreases-loop-rest
decreases-loop-rest l = length l.rest
