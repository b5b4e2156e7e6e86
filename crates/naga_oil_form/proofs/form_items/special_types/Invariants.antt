use Rattle.std.proofs.Common.{◌≡◌, ◌++◌, option_to_list, take}
use Rattle.std.specs.List.{flat_map}
use Rattle.naga_oil_form.proofs.form_items.special_types.Given as goal

abbrev pub invariant-loop-ty : goal.invariant-loop-ty
invariant-loop-ty l = l.places.items ≡ flat_map option_to_list (take l.ty-index l.ty-items)

abbrev pub invariant-loop-ty-2 : goal.invariant-loop-ty-2
invariant-loop-ty-2 l = l.places.items ≡ l.initial.places.items ++ take l.ty-index l.ty-items
