use Rattle.std.proofs.Common.{◌≡◌, ℕ, ◌<◌, slice_get, Some}
use Rattle.naga_oil_form.specs.Links.{is_marked}
use Rattle.naga_oil_form.specs.ItemForm.{NamesWell}
use Rattle.naga_oil_form.proofs.form_items.items_name_well.Given as goal

abbrev pub invariant-loop-place : goal.invariant-loop-place
invariant-loop-place g l = (k : ℕ) (e : _) → k < l.place → slice_get l.items k ≡ Some e → NamesWell l.of (is_marked l.marks) (g.T.Names.row_of e)
