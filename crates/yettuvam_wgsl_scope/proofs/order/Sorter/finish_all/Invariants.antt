use Rattle.std.proofs.Common.{◌≡◌, ◌-◌}
use Rattle.yettuvam_wgsl_scope.specs.Order.{finish_all, state_of}
use Rattle.yettuvam_wgsl_scope.proofs.order.Sorter.finish_all.Given as goal

abbrev pub invariant-loop-turn : goal.invariant-loop-turn
invariant-loop-turn l = finish_all l.turns (state_of l.fn.self) ≡ finish_all (l.turns - l._turn) (state_of l.self)
