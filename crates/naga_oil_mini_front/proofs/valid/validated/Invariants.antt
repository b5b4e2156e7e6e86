use Rattle.std.proofs.Common.{◌≡◌, ◌++◌, drop, map}
use Rattle.naga_oil_ir.specs.ModuleValue.{module_value, entry_value}
use Rattle.naga_oil_mini_front.specs.Valid.{all_checked, bodies}
use Rattle.naga_oil_mini_writer.specs.Writer.{function_values}
use Rattle.naga_oil_mini_front.proofs.valid.validated.Given as goal

abbrev pub invariant-loop-function : goal.invariant-loop-function
invariant-loop-function l =
    all_checked (module_value l.of) (map (λ f. f.0.body) (function_values (drop l.function-index l.function-items)) ++ map (λ e. e.function.body) (map entry_value l.of.entry_points.items))
    ≡ all_checked (module_value l.of) (bodies (module_value l.of))

abbrev pub invariant-loop-entry_point : goal.invariant-loop-entry_point
invariant-loop-entry_point l =
    all_checked (module_value l.of) (map (λ e. e.function.body) (map entry_value (drop l.entry_point-index l.of.entry_points.items)))
    ≡ all_checked (module_value l.of) (bodies (module_value l.of))
