use Rattle.std.proofs.Common.{◌≡◌, length}
use Rattle.naga_oil_ir.specs.ModuleValue.{expression_values, local_values}
use Rattle.yettuvam_wgsl_lines.specs.Line.{lines_value}
use Rattle.yettuvam_wgsl_counts.specs.Locals.{use_lines}
use Rattle.yettuvam_wgsl_counts.proofs.locals.use_lines.Given as goal

abbrev pub invariant-loop-rest : goal.invariant-loop-rest
invariant-loop-rest l =
    use_lines (expression_values l.expressions) (local_values l.variables) l.ends (lines_value l.lines) l.fn.locals
    ≡ use_lines (expression_values l.expressions) (local_values l.variables) l.ends (lines_value l.rest) l.locals

abbrev pub decreases-loop-rest : goal.decreases-loop-rest
decreases-loop-rest l = length l.rest
