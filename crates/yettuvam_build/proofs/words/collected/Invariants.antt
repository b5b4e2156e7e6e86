use Rattle.std.proofs.Common.{◌≡◌, length}
use Rattle.naga_oil_words.specs.Texts.{texts}
use Rattle.yettuvam_build.specs.Words.{collected, no_request, request_view}
use Rattle.yettuvam_build.specs.declared.words.Awaited.TheVariants.{Nothing}
use Rattle.yettuvam_build.proofs.words.collected.Given as goal

abbrev pub invariant-loop-rest : goal.invariant-loop-rest
invariant-loop-rest l = collected no_request Nothing (texts l.words) ≡ collected (request_view l.request) l.awaited (texts l.rest)

abbrev pub decreases-loop-rest : goal.decreases-loop-rest
decreases-loop-rest l = length l.rest
