use Rattle.std.proofs.Common.{ℕ, length, arith, sym, ◌∙◌, refl}
use Rattle.std.proofs.lemmas.Bool.{false≢true, lt-ltb}
use Rattle.std.proofs.lemmas.Option.{slice_get_read}
use Rattle.naga_oil_walk.proofs.WalkLemmas.{noted_kept, noted_past}
use Rattle.naga_oil_walk.proofs.walk.note.Goals as goal
use Rattle.naga_oil_walk.proofs.walk.note.Goals.{then-start-end, else-start-end, else-start-len-via-then-start-len+else-is_none, else-start-len-via-else-start-len}

pub returns-else-start-len : goal.returns-else-start-len
returns-else-start-len c =
    let es = c.args.emitted.now.items in
    let r = c.args.range in
    let p : ℕ × ℕ = (c.args.begin, c.args.end) in
    let i = c.start-start.result in
    elim c.else-start-len.branch [ else-start-len-via-then-start-len+else-is_none w ↦ (elim w.if-start-end.branch [ then-start-end v ↦ absurd (false≢true (sym w.if-is_none.false ∙ v.value-is ∙ lt-ltb i w.end.result v.if-start-end.true)) | else-start-end v ↦ noted_kept es r p i v.index.result.now v.is_none.result (omega arith) c.start-start.ensures (slice_get_read es (length es) i v.index.result.now refl (omega arith) v.index.ensures) v.is_none.ensures (sym v.value-is ∙ w.if-is_none.false) ]) | else-start-len-via-else-start-len w ↦ noted_past es r p (omega arith) ]
