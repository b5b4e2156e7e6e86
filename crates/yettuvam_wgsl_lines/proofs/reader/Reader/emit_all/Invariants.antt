use Rattle.std.proofs.Common.{◌≡◌, length}
use Rattle.naga_oil_ir.specs.ModuleValue.{expression_values, function_value}
use Rattle.yettuvam_wgsl_lines.specs.Reader.{emit_all, state_of}
use Rattle.yettuvam_wgsl_lines.proofs.reader.Reader.emit_all.Given as goal

abbrev pub invariant-loop-rest : goal.invariant-loop-rest
invariant-loop-rest l =
    emit_all (function_value l.of) l.at l.end (expression_values l.expressions) (state_of l.fn.self)
    ≡ emit_all (function_value l.of) l.at l.end (expression_values l.rest) (state_of l.self)

abbrev pub decreases-loop-rest : goal.decreases-loop-rest
decreases-loop-rest l = length l.rest
