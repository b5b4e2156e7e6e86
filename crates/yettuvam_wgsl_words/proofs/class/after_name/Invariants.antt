use Rattle.std.proofs.Common.{◌≡◌, length}
use Rattle.yettuvam_wgsl_words.specs.Class.{after_name}
use Rattle.yettuvam_wgsl_words.proofs.class.after_name.Given as goal

abbrev pub invariant-loop-rest : goal.invariant-loop-rest
invariant-loop-rest l = after_name l.rest ≡ after_name l.text

abbrev pub decreases-loop-rest : goal.decreases-loop-rest
decreases-loop-rest l = length l.rest
