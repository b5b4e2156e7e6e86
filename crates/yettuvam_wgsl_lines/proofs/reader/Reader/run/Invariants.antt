use Rattle.std.proofs.Common.{◌≡◌, length}
use Rattle.naga_oil_ir.specs.ModuleValue.{function_value}
use Rattle.yettuvam_wgsl_lines.specs.Reader.{run, state_of}
use Rattle.yettuvam_wgsl_lines.proofs.reader.Reader.run.Given as goal

abbrev pub invariant-loop-rest : goal.invariant-loop-rest
invariant-loop-rest l =
    run (function_value l.of) l.count l.tokens (state_of l.fn.self) ≡ run (function_value l.of) l.count l.rest (state_of l.self)

abbrev pub decreases-loop-rest : goal.decreases-loop-rest
decreases-loop-rest l = length l.rest
