use Rattle.std.proofs.Common.{◌≡◌, ◌-◌}
use Rattle.yettuvam_wgsl_scope.specs.Order.{run_from, state_of}
use Rattle.yettuvam_wgsl_scope.proofs.order.Sorter.run.Given as goal

abbrev pub invariant-loop-item : goal.invariant-loop-item
invariant-loop-item l = run_from l.turns l.count 0 (state_of l.fn.self) ≡ run_from l.turns (l.count - l.item) l.item (state_of l.self)
