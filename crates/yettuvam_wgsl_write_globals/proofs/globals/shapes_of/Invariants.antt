use Rattle.std.proofs.Common.{◌≡◌, length}
use Rattle.naga_oil_ir.specs.ModuleValue.{expression_values}
use Rattle.yettuvam_wgsl_write_expressions.specs.Context.{context_of}
use Rattle.yettuvam_wgsl_write_globals.specs.Globals.{each_shape, shapes, types_of}
use Rattle.yettuvam_wgsl_write_globals.proofs.globals.shapes_of.Given as goal

abbrev pub invariant-loop-rest : goal.invariant-loop-rest
invariant-loop-rest l = each_shape (context_of l.context) (types_of l.arguments) l.locals l.shapes.items (expression_values l.rest) ≡ shapes (context_of l.context) (types_of l.arguments) l.locals (expression_values l.of)

abbrev pub decreases-loop-rest : goal.decreases-loop-rest
decreases-loop-rest l = length l.rest
