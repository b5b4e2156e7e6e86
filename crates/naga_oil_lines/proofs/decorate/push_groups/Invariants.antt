use Rattle.std.proofs.Common.{◌≡◌, ℕ, ◌≤◌, ◌++◌, List}
use Rattle.std.specs.String.{string_bytes}
use Rattle.naga_oil_lines.specs.Decorate.{bits, letters}
use Rattle.naga_oil_lines.proofs.decorate.push_groups.Given as goal

abbrev pub invariant-loop-left : goal.invariant-loop-left
invariant-loop-left l = record {
  pushed : (more : List ℕ) → string_bytes l.out ++ letters (bits l.left l.number ++ more) ≡ string_bytes l.fn.out ++ letters (bits l.count l.number ++ more);
  bound : l.left ≤ l.count;
}

abbrev pub decreases-loop-left : goal.decreases-loop-left
decreases-loop-left l = l.left
