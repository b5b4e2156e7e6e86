use Rattle.std.proofs.Common.{◌≡◌, length, map}
use Rattle.yettuvam_wgsl_pieces.specs.Pieces.{piece_of}
use Rattle.yettuvam_wgsl_write_types.specs.Types.{values_of}
use Rattle.yettuvam_wgsl_write_expressions.specs.Operands.{arguments_from}
use Rattle.yettuvam_wgsl_write_expressions.proofs.operands.push_each_argument.Given as goal

abbrev pub invariant-loop-rest : goal.invariant-loop-rest
invariant-loop-rest l = arguments_from (map piece_of l.out.items) (values_of l.known) l.rest l.span ≡ arguments_from (map piece_of l.fn.out.items) (values_of l.known) l.arguments l.span

abbrev pub decreases-loop-rest : goal.decreases-loop-rest
decreases-loop-rest l = length l.rest
