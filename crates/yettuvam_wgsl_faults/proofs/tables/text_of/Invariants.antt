-- What is left of the table has the same answer, and gets shorter.
use Rattle.std.proofs.Common.{◌≡◌, length}
use Rattle.yettuvam_wgsl_faults.specs.Tables.{rows, text_in}
use Rattle.yettuvam_wgsl_faults.proofs.tables.text_of.Given as goal

abbrev pub invariant-loop-rest : goal.invariant-loop-rest
invariant-loop-rest g l = text_in g.K.PartialEq.eq (rows l.rest) l.key ≡ text_in g.K.PartialEq.eq (rows l.table) l.key

abbrev pub decreases-loop-rest : goal.decreases-loop-rest
decreases-loop-rest g l = length l.rest
