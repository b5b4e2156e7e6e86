use Rattle.std.proofs.Common.{◌≡◌, length, map}
use Rattle.yettuvam_wgsl_words.specs.Cut.{find_sign}
use Rattle.yettuvam_wgsl_words.proofs.cut.find_sign.Given as goal

abbrev pub invariant-loop-entries : goal.invariant-loop-entries
invariant-loop-entries l = find_sign (map (λ e. (e.0, e.1.now, e.2)) l.entries) l.first l.text ≡ find_sign (map (λ e. (e.0, e.1.now, e.2)) l.table) l.first l.text

abbrev pub decreases-loop-entries : goal.decreases-loop-entries
decreases-loop-entries l = length l.entries
