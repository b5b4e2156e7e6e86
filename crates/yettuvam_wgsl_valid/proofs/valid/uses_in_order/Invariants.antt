use Rattle.std.proofs.Common.{◌≡◌, ◌++◌, length, map}
use Rattle.naga_oil_ir.specs.ModuleValue.{module_value, function_value}
use Rattle.yettuvam_wgsl_valid.specs.Bindings.{uses_view}
use Rattle.yettuvam_wgsl_valid.specs.Valid.{uses_in_order, uses_each}
use Rattle.yettuvam_wgsl_valid.proofs.valid.uses_in_order.Given as goal

abbrev pub invariant-loop-rest : goal.invariant-loop-rest
invariant-loop-rest l =
    uses_in_order (module_value l.of)
    ≡ map uses_view l.uses.items ++ uses_each (map (λ e. (function_value e.0, e.1)) l.rest)

abbrev pub decreases-loop-rest : goal.decreases-loop-rest
decreases-loop-rest l = length l.rest
