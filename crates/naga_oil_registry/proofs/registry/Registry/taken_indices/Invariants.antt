use Rattle.std.proofs.Common.{◌≡◌, ◌<◌, ◌≤◌, ◌-◌, ℕ, ◌||◌, eqb, false, length, get_or, drop}
use Rattle.std.specs.BTreeSet.{contains_text}
use Rattle.naga_oil_registry.specs.Registry.{standing, taken}
use Rattle.naga_oil_registry.proofs.registry.Registry.taken_indices.Given as goal

abbrev pub invariant-loop-place : goal.invariant-loop-place
invariant-loop-place l = record {
  in_range : l.place ≤ length l.self;
  len : length l.taken.items ≡ l.end;
  marks : (index : ℕ) → index < l.end → (get_or l.taken.items index false || taken (standing (contains_text l.gone) (drop l.place l.self)) index) ≡ (eqb index 0 || taken (standing (contains_text l.gone) l.self) index);
}

abbrev pub decreases-loop-place : goal.decreases-loop-place
decreases-loop-place l = length l.self - l.place
