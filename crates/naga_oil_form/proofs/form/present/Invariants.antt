use Rattle.std.proofs.Common.{◌≡◌, take, option_to_list}
use Rattle.std.specs.List.{flat_map}
use Rattle.naga_oil_form.proofs.form.present.Given as goal

abbrev pub invariant-loop-operand : goal.invariant-loop-operand
invariant-loop-operand l = l.places.items ≡ flat_map option_to_list (take l.operand-index l.operands)
