use Rattle.std.proofs.Common.{◌≡◌, ◌≤◌, ◌-◌, drop, length}
use Rattle.naga_oil_registry.specs.Registry.{module_indexed}
use Rattle.naga_oil_registry.proofs.registry.Registry.at_index.Given as goal

abbrev pub invariant-loop-place : goal.invariant-loop-place
invariant-loop-place l = record {
  in_range : l.place ≤ length l.self;
  same : module_indexed l.index (drop l.place l.self) ≡ module_indexed l.index l.self;
}

abbrev pub decreases-loop-place : goal.decreases-loop-place
decreases-loop-place l = length l.self - l.place
