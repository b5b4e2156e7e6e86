use Rattle.std.proofs.Common.{◌≡◌, map, take}
use Rattle.naga_oil_ir.specs.ModuleValue.{function_value}
use Rattle.naga_oil_build.specs.Writeback.{named_functions}
use Rattle.naga_oil_build.specs.WritebackView.{named_of}
use Rattle.naga_oil_build.proofs.writeback.named_functions.Given as goal

abbrev pub invariant-loop-function : goal.invariant-loop-function
invariant-loop-function l = map named_of l.items.items ≡ named_functions (map (λ e. (function_value e.0, e.1)) (take l.function-index l.of))
