use Rattle.std.proofs.Common.{◌≡◌, drop}
use Rattle.naga_oil_ir.specs.ModuleValue.{module_value}
use Rattle.yettuvam_wgsl_valid.specs.Calls.{wrong_from, wrong_call}
use Rattle.yettuvam_wgsl_valid.proofs.calls.wrong_call.Given as goal

abbrev pub invariant-loop-place : goal.invariant-loop-place
invariant-loop-place l =
    wrong_from (module_value l.of).functions l.span (drop l.place l.tokens)
    ≡ wrong_call (module_value l.of).functions l.tokens
