use Rattle.std.proofs.Common.{map}
use Rattle.yettuvam_wgsl_pieces.specs.Pieces.{piece_of}
use Rattle.yettuvam_wgsl_write_types.specs.Types.{values_of}
use Rattle.yettuvam_wgsl_write_expressions.specs.Operands.{arguments_end}
use Rattle.yettuvam_wgsl_write_expressions.proofs.Following.{becomes_puts, from_end}
use Rattle.yettuvam_wgsl_write_expressions.proofs.operands.push_arguments_end.Goals as goal

pub returns : goal.returns
returns c =
    let known = values_of c.args.known.now in
    let old = map piece_of c.args.out.now.items in
    becomes_puts (arguments_end known c.args.arguments.now c.args.span) _ old (map piece_of c.push_each_argument.new.out.items) c.push_each_argument.result
    (from_end known c.args.arguments.now c.args.span old) c.push_each_argument.ensures
