use Rattle.std.proofs.Common.{◌≡◌, take}
use Rattle.naga_oil_form.specs.Links.{lists}
use Rattle.naga_oil_form.specs.ItemForm.{type_links}
use Rattle.naga_oil_form.proofs.form_items.type_links.Given as goal

abbrev pub invariant-loop-ty : goal.invariant-loop-ty
invariant-loop-ty l = lists l.links.items ≡ type_links (take l.ty-index l.types)
