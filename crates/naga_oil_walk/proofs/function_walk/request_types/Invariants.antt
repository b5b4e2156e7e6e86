use Rattle.std.proofs.Common.{◌≡◌, ◌++◌, map, take}
use Rattle.naga_oil_ir.specs.declared.names.ItemPlace.TheVariants.{TypeItem}
use Rattle.naga_oil_walk.specs.declared.walk.Request.TheVariants.{Item}
use Rattle.naga_oil_walk.proofs.function_walk.request_types.Given as goal

abbrev pub invariant-loop-argument : goal.invariant-loop-argument
invariant-loop-argument l = l.requests.items ≡ l.fn.requests.items ++ map (λ a. Item (TypeItem a.ty)) (take l.argument-index l.argument-items)
