use Rattle.std.proofs.Common.{◌≡◌, false, length}
use Rattle.naga_oil_words.specs.Texts.{texts}
use Rattle.yettuvam_build.specs.Words.{is_request}
use Rattle.yettuvam_build.specs.declared.words.Awaited.TheVariants.{Nothing}
use Rattle.yettuvam_build.proofs.words.is_request.Given as goal

abbrev pub invariant-loop-rest : goal.invariant-loop-rest
invariant-loop-rest l = is_request false Nothing (texts l.words) ≡ is_request l.has_file l.awaited (texts l.rest)

abbrev pub decreases-loop-rest : goal.decreases-loop-rest
decreases-loop-rest l = length l.rest
