use Rattle.std.proofs.Common.{◌≡◌, ℕ, ◌||◌, length, take}
use Rattle.naga_oil_form.specs.Links.{is_marked, has}
use Rattle.naga_oil_form.proofs.links.mark_all.Given as goal

abbrev pub invariant-loop-place : goal.invariant-loop-place
invariant-loop-place l = record {
  long : length l.marks.items ≡ length l.fn.marks.items;
  marked : (k : ℕ) → is_marked l.marks.items k ≡ (is_marked l.fn.marks.items k || has (take l.place-index l.places) k);
}
