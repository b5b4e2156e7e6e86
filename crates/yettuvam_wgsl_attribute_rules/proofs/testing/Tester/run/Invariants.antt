-- The nodes that are left lead to the same state, and are fewer.
use Rattle.std.proofs.Common.{◌≡◌, length}
use Rattle.yettuvam_wgsl_machine.specs.Machine.{nodes_view}
use Rattle.yettuvam_wgsl_attribute_rules.specs.Testing.{run, state_of}
use Rattle.yettuvam_wgsl_attribute_rules.proofs.testing.Tester.run.Given as goal

abbrev pub invariant-loop-rest : goal.invariant-loop-rest
invariant-loop-rest l = run (nodes_view l.nodes) (state_of l.fn.self) ≡ run (nodes_view l.rest) (state_of l.self)

abbrev pub decreases-loop-rest : goal.decreases-loop-rest
decreases-loop-rest l = length l.rest
