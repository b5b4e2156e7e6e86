use Rattle.std.proofs.Common.{◌≡◌, length}
use Rattle.yettuvam_wgsl_valid_items.specs.Switches.{switches_from, switches_valid}
use Rattle.yettuvam_wgsl_valid_items.proofs.switches.test_switches.Given as goal

abbrev pub invariant-loop-rest : goal.invariant-loop-rest
invariant-loop-rest l = switches_valid l.tokens ≡ switches_from l.span l.rest

abbrev pub decreases-loop-rest : goal.decreases-loop-rest
decreases-loop-rest l = length l.rest
