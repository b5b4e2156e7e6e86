use Rattle.std.proofs.Common.{◌≡◌, length}
use Rattle.yettuvam_wgsl_words.specs.Class.{after}
use Rattle.yettuvam_wgsl_words.proofs.class.after.Given as goal

abbrev pub invariant-loop-rest : goal.invariant-loop-rest
invariant-loop-rest l = after l.class l.rest ≡ after l.class l.text

abbrev pub decreases-loop-rest : goal.decreases-loop-rest
decreases-loop-rest l = length l.rest
