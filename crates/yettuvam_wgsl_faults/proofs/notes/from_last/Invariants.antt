-- What is left of the tokens has the same answer, and gets shorter.
use Rattle.std.proofs.Common.{◌≡◌, length}
use Rattle.yettuvam_wgsl_words.specs.Scan.{view}
use Rattle.yettuvam_wgsl_faults.specs.Notes.{from_last}
use Rattle.yettuvam_wgsl_faults.proofs.notes.from_last.Given as goal

abbrev pub invariant-loop-rest : goal.invariant-loop-rest
invariant-loop-rest l = from_last (view l.rest) l.place ≡ from_last (view l.tokens) l.place

abbrev pub decreases-loop-rest : goal.decreases-loop-rest
decreases-loop-rest l = length l.rest
