use Rattle.std.proofs.Common.{◌≡◌, length, map}
use Rattle.yettuvam_wgsl_words.specs.Cut.{find}
use Rattle.yettuvam_wgsl_words.proofs.cut.find.Given as goal

abbrev pub invariant-loop-entries : goal.invariant-loop-entries
invariant-loop-entries l = find (map (λ e. (e.0.now, e.1)) l.entries) l.word ≡ find (map (λ e. (e.0.now, e.1)) l.group) l.word

abbrev pub decreases-loop-entries : goal.decreases-loop-entries
decreases-loop-entries l = length l.entries
