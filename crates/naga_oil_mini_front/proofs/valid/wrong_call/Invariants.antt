use Rattle.std.proofs.Common.{◌≡◌, drop}
use Rattle.naga_oil_ir.specs.ModuleValue.{module_value}
use Rattle.naga_oil_mini_front.specs.Valid.{wrong_from, wrong_call}
use Rattle.naga_oil_mini_front.proofs.valid.wrong_call.Given as goal

abbrev pub invariant-loop-place : goal.invariant-loop-place
invariant-loop-place l = wrong_from (module_value l.of) l.span (drop l.place l.tokens) ≡ wrong_call (module_value l.of) l.tokens
