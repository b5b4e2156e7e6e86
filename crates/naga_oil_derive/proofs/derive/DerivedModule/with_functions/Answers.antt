use Rattle.std.proofs.Common.{◌∙◌}
use Rattle.naga_oil_ir.specs.declared.module.Module.{Module}
use Rattle.naga_oil_derive.proofs.DeriveLemmas.{value_empty}
use Rattle.naga_oil_derive.proofs.DeriveCalls.{nothing_at}
use Rattle.naga_oil_derive.proofs.Derivations.{derived_nothing}
use Rattle.naga_oil_derive.proofs.derive.DerivedModule.with_functions.Goals as goal

pub invariant_of-made : goal.invariant_of-made
invariant_of-made c =
    let m : Module = record c.new-target.result { functions = c.from_items.result } in
    derived_nothing c.empty-maps.result m (value_empty m c.new-target.ensures.special c.new-target.ensures.items (c.from_items.ensures ∙ c.in_ok-room.ensures.items, c.new-target.ensures.functions.1) c.new-target.ensures.rest)

pub returns : goal.returns
returns c =
    let m : Module = record c.new-target.result { functions = c.from_items.result } in
    nothing_at c.empty-maps.result m c.in_ok-function_names.function_names.entries (value_empty m c.new-target.ensures.special c.new-target.ensures.items (c.from_items.ensures ∙ c.in_ok-room.ensures.items, c.new-target.ensures.functions.1) c.new-target.ensures.rest) c.in_ok-function_names.ensures.empty
