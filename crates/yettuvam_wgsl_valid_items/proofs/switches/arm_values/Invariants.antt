use Rattle.std.proofs.Common.{◌≡◌, ◌≤◌, ◌+◌, ◌++◌, length}
use Rattle.yettuvam_wgsl_valid_items.specs.Switches.{arm_values}
use Rattle.yettuvam_wgsl_valid_items.proofs.switches.arm_values.Given as goal

abbrev pub invariant-loop-rest : goal.invariant-loop-rest
invariant-loop-rest l =
    (arm_values 0 l.tokens ≡ l.out.items ++ arm_values l.depth l.rest) × (l.depth + length l.rest ≤ length l.tokens)

abbrev pub decreases-loop-rest : goal.decreases-loop-rest
decreases-loop-rest l = length l.rest
