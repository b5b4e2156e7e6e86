use Rattle.std.proofs.Common.{◌≡◌, length, map}
use Rattle.yettuvam_wgsl_machine.specs.Machine.{first_fit}
use Rattle.yettuvam_wgsl_machine.proofs.symbol.first_fit.Given as goal

abbrev pub invariant-loop-left : goal.invariant-loop-left
invariant-loop-left l = first_fit (map (λ r. (r.0, r.1, r.2.now)) l.left) l.rule l.kind ≡ first_fit (map (λ r. (r.0, r.1, r.2.now)) l.rows) l.rule l.kind

abbrev pub decreases-loop-left : goal.decreases-loop-left
decreases-loop-left l = length l.left
