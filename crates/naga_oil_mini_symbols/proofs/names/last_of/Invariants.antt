use Rattle.std.proofs.Common.{◌≡◌, ◌≤◌, length, take}
use Rattle.naga_oil_mini_symbols.specs.NameTable.{last_place, texts_of}
use Rattle.naga_oil_mini_symbols.proofs.names.last_of.Given as goal

abbrev pub invariant-loop-place : goal.invariant-loop-place
invariant-loop-place l = record {
  within : l.place ≤ length l.names;
  same : last_place l.name (texts_of (take l.place l.names)) ≡ last_place l.name (texts_of l.names);
}

abbrev pub decreases-loop-place : goal.decreases-loop-place
decreases-loop-place l = l.place
