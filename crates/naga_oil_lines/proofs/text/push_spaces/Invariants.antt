use Rattle.std.proofs.Common.{◌≡◌, ◌-◌, ◌≤◌, ◌++◌, replicate}
use Rattle.std.specs.String.{string_bytes}
use Rattle.naga_oil_lines.proofs.text.push_spaces.Given as goal

abbrev pub invariant-loop-left : goal.invariant-loop-left
invariant-loop-left l = record {
  within : l.left ≤ l.count;
  pushed : string_bytes l.out ≡ string_bytes l.initial.out ++ replicate (l.count - l.left) 32;
}

abbrev pub decreases-loop-left : goal.decreases-loop-left
decreases-loop-left l = l.left
