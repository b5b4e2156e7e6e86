use Rattle.std.proofs.Common.{◌≡◌, [], length}
use Rattle.naga_oil_ir.specs.ModuleValue.{expression_values}
use Rattle.yettuvam_wgsl_write_types.specs.Types.{values_of}
use Rattle.yettuvam_wgsl_write_expressions.specs.Context.{context_of}
use Rattle.yettuvam_wgsl_write_globals.specs.Globals.{each_value}
use Rattle.yettuvam_wgsl_write_globals.proofs.globals.written_values.Given as goal

abbrev pub invariant-loop-rest : goal.invariant-loop-rest
invariant-loop-rest l = each_value (context_of l.context) l.shapes (values_of l.known.items) (expression_values l.rest) ≡ each_value (context_of l.context) l.shapes [] (expression_values l.of)

abbrev pub decreases-loop-rest : goal.decreases-loop-rest
decreases-loop-rest l = length l.rest
