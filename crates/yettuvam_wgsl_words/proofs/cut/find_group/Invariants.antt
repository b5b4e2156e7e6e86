use Rattle.std.proofs.Common.{◌≡◌, length, map}
use Rattle.yettuvam_wgsl_words.specs.Cut.{find_group}
use Rattle.yettuvam_wgsl_words.proofs.cut.find_group.Given as goal

abbrev pub invariant-loop-left : goal.invariant-loop-left
invariant-loop-left l = find_group (map (λ g. (g.0, map (λ e. (e.0.now, e.1)) g.1.now)) l.left) l.first ≡ find_group (map (λ g. (g.0, map (λ e. (e.0.now, e.1)) g.1.now)) l.groups) l.first

abbrev pub decreases-loop-left : goal.decreases-loop-left
decreases-loop-left l = length l.left
