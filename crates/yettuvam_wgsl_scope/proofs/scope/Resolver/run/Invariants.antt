use Rattle.std.proofs.Common.{◌≡◌, length}
use Rattle.yettuvam_wgsl_machine.specs.Machine.{nodes_view}
use Rattle.yettuvam_wgsl_scope.specs.Items.{items_view}
use Rattle.yettuvam_wgsl_scope.specs.Scope.{run, state_of}
use Rattle.yettuvam_wgsl_scope.proofs.scope.Resolver.run.Given as goal

abbrev pub invariant-loop-rest : goal.invariant-loop-rest
invariant-loop-rest l = run (nodes_view l.nodes) (items_view l.items) (state_of l.fn.self) ≡ run (nodes_view l.nodes) (items_view l.rest) (state_of l.self)

abbrev pub decreases-loop-rest : goal.decreases-loop-rest
decreases-loop-rest l = length l.rest
