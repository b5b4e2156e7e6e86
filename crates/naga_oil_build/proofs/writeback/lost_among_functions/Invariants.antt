use Rattle.std.proofs.Common.{◌≡◌, map, drop, []}
use Rattle.naga_oil_ir.specs.ModuleValue.{function_value}
use Rattle.naga_oil_words.specs.Texts.{texts}
use Rattle.naga_oil_build.specs.Writeback.{lost_among, named_functions}
use Rattle.naga_oil_build.specs.WritebackView.{held}
use Rattle.naga_oil_build.proofs.writeback.lost_among_functions.Given as goal

abbrev pub invariant-loop-function : goal.invariant-loop-function
invariant-loop-function l = lost_among (texts l.owned.keys) [] (held l.back) (named_functions (map (λ e. (function_value e.0, e.1)) (drop l.function-index l.functions))) ≡ lost_among (texts l.owned.keys) [] (held l.back) (named_functions (map (λ e. (function_value e.0, e.1)) l.functions))
