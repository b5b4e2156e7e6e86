use Rattle.std.proofs.Common.{◌≡◌, ℕ, ◌<◌, length}
use Rattle.naga_oil_form.specs.Links.{is_marked, reaches}
use Rattle.naga_oil_form.specs.ItemForm.{type_links, pending}
use Rattle.naga_oil_form.proofs.form_items.sized_types.Given as goal

abbrev pub invariant-loop-ty : goal.invariant-loop-ty
invariant-loop-ty l = record {
  long : length l.sized.items ≡ l.ty-index;
  so_far : (k : ℕ) → k < l.ty-index → is_marked l.sized.items k ≡ reaches (type_links l.types) (pending l.types) k;
}
