-- What is left of the table has the same answer, and gets shorter.
use Rattle.std.proofs.Common.{◌≡◌, length}
use Rattle.yettuvam_wgsl_faults.specs.Notes.{note_in}
use Rattle.yettuvam_wgsl_faults.specs.Tables.{text_rows}
use Rattle.yettuvam_wgsl_faults.proofs.notes.note_in.Given as goal

abbrev pub invariant-loop-rest : goal.invariant-loop-rest
invariant-loop-rest l = note_in (text_rows l.rest) l.word ≡ note_in (text_rows l.table) l.word

abbrev pub decreases-loop-rest : goal.decreases-loop-rest
decreases-loop-rest l = length l.rest
