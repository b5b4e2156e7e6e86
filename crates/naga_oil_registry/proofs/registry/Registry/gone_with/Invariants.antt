use Rattle.std.proofs.Common.{◌≡◌, ◌≤◌, ℕ, List, drop, length}
use Rattle.std.specs.BTreeSet.{contains_text}
use Rattle.naga_oil_registry.specs.Registry.{reaches}
use Rattle.naga_oil_registry.proofs.registry.Registry.gone_with.Given as goal

abbrev pub invariant-loop-at : goal.invariant-loop-at
invariant-loop-at l = record {
  in_range : l.at ≤ length l.self;
  gone : (other : List ℕ) → contains_text l.gone other ≡ reaches (drop l.at l.self) other l.name;
}

abbrev pub decreases-loop-at : goal.decreases-loop-at
decreases-loop-at l = l.at
