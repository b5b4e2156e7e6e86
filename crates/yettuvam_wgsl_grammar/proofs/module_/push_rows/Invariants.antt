use Rattle.std.proofs.Common.{◌≡◌, ◌++◌, length, map}
use Rattle.yettuvam_wgsl_machine.specs.Machine.{Row}
use Rattle.yettuvam_wgsl_grammar.proofs.module_.push_rows.Given as goal

abbrev pub invariant-loop-left : goal.invariant-loop-left
invariant-loop-left l = map {B = Row} (λ r. (r.0, r.1, r.2.now)) l.rows.items ++ map {B = Row} (λ r. (r.0, r.1, r.2.now)) l.left ≡ map {B = Row} (λ r. (r.0, r.1, r.2.now)) l.fn.rows.items ++ map {B = Row} (λ r. (r.0, r.1, r.2.now)) l.more

abbrev pub decreases-loop-left : goal.decreases-loop-left
decreases-loop-left l = length l.left
