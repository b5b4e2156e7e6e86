use Rattle.std.proofs.Common.{◌≡◌, Some, map, take}
use Rattle.naga_oil_redirect.specs.Level.{above, known}
use Rattle.naga_oil_redirect.proofs.order.level_above.Given as goal

abbrev pub invariant-loop-callee : goal.invariant-loop-callee
invariant-loop-callee l = above (map (known l.levels) (take l.callee-index l.callees)) ≡ Some l.above
