-- All tests of a module's items.
use Rattle.naga_oil_ir.specs.ModuleValue.{ModuleValue}
use Rattle.yettuvam_wgsl_valid_items.specs.Constructors.{constructors_valid}
use Rattle.yettuvam_wgsl_valid_items.specs.Faults.{Outcome, and_then}
use Rattle.yettuvam_wgsl_valid_items.specs.Members.{types_valid}
use Rattle.yettuvam_wgsl_valid_items.specs.Variables.{overrides_valid, variables_valid}

-- the first fault of structs, overrides, variables, or the values of items
unfoldable pub items_valid : ModuleValue → Outcome
items_valid m =
    and_then (types_valid m.types)
    (and_then (overrides_valid m.types m.overrides)
    (and_then (variables_valid m.types m.global_variables)
    (constructors_valid m.types m.global_expressions)))
