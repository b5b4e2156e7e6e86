use Rattle.std.proofs.Common.{◌≡◌, ◌++◌, length}
use Rattle.naga_oil_ir.specs.ModuleValue.{expression_values}
use Rattle.yettuvam_wgsl_lines.specs.Line.{lines_value}
use Rattle.yettuvam_wgsl_uses.specs.Uses.{uses_value}
use Rattle.yettuvam_wgsl_requests.specs.Requests.{line_requests}
use Rattle.yettuvam_wgsl_requests.proofs.requests.line_requests.Given as goal

abbrev pub invariant-loop-rest : goal.invariant-loop-rest
invariant-loop-rest l =
    line_requests (uses_value l.uses) (expression_values l.expressions) (lines_value l.lines)
    ≡ l.requests.items ++ line_requests (uses_value l.uses) (expression_values l.expressions) (lines_value l.rest)

abbrev pub decreases-loop-rest : goal.decreases-loop-rest
decreases-loop-rest l = length l.rest
