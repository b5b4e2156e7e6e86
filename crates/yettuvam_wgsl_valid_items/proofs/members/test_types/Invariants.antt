use Rattle.std.proofs.Common.{◌≡◌, map}
use Rattle.naga_oil_ir.specs.ModuleValue.{module_value}
use Rattle.naga_oil_ir.specs.Rows.{type_row}
use Rattle.yettuvam_wgsl_valid_items.specs.Members.{types_valid}
use Rattle.yettuvam_wgsl_valid_items.proofs.members.test_types.Given as goal

abbrev pub invariant-loop-ty : goal.invariant-loop-ty
invariant-loop-ty l =
    types_valid (map (λ e. (type_row e.0, e.1)) l.ty-iterator) ≡ types_valid (module_value l.of).types
