use Rattle.std.proofs.Common.{rules, subst, sym}
use Rattle.naga_oil_mini.specs.Extra.{IsListedFile, ShowsExtra, extra_of}
use Rattle.naga_oil_mini.specs.Files.{Reads}
use Rattle.naga_oil_mini.proofs.mini.program.answer_extra.Goals.{in-Help, in-Version, in-Metadata+in_ok-listed-in-Metadata}
use Rattle.naga_oil_mini.proofs.mini.program.answer_extra.Goals as goal

pub returns-in-Ok-clause-written : goal.returns-in-Ok-clause-written
returns-in-Ok-clause-written g c = elim c.match-asked.branch [
  | in-Help w ↦
      (w.as_bytes.result.now, subst (λ a. ShowsExtra (Reads (goal.F-step g) c.args.read) (extra_of a) w.as_bytes.result.now) (sym w.in-Help.is) w.as_bytes.ensures.value, search rules)
  | in-Version w ↦
      (w.as_bytes-in-Version.result.now, subst (λ a. ShowsExtra (Reads (goal.F-step g) c.args.read) (extra_of a) w.as_bytes-in-Version.result.now) (sym w.in-Version.is) w.as_bytes-in-Version.ensures.value, search rules)
  | in-Metadata+in_ok-listed-in-Metadata w ↦
      let listed = subst (λ t. IsListedFile (Reads (goal.F-step g) c.args.read) w.in-Metadata.file.now t) (sym w.as_slice.ensures.value) w.in_ok-listed-in-Metadata.ensures.ok in
      (w.as_slice.result.now, subst (λ a. ShowsExtra (Reads (goal.F-step g) c.args.read) (extra_of a) w.as_slice.result.now) (sym w.in-Metadata.is) listed, search rules)
]
