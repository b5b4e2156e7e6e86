use Rattle.std.proofs.Common.{◌∙◌, sym}
use Rattle.naga_oil_ir.specs.ModuleValue.{special_value}
use Rattle.naga_oil_derive.specs.World.{special_at}
use Rattle.naga_oil_derive.proofs.SpecialLoops.{keep_some, keep_none}
use Rattle.naga_oil_derive.proofs.special.keep_special.Goals as goal
use Rattle.naga_oil_derive.proofs.special.keep_special.Goals.{in-Some, in_default}

pub loop-key-preserved : goal.loop-key-preserved
loop-key-preserved c =
    let f = special_at (special_value c.args.target.now) in
    let es = c.args.entries.now in
    let x = c.loop-key-item.result in
    let k = c.loop-key.key-index in
    elim c.match-special_at.branch [ in-Some w ↦ keep_some f es k x c.args.types.now c.loop-key.types c.match-special_at.types w.in-Some.place w.index.result c.loop-key-test.true c.loop-key-item.is c.loop-key.invariant (sym c.special_at.ensures ∙ w.in-Some.is) w.index.ensures w.types-is | in_default w ↦ keep_none f es k x c.args.types.now c.loop-key.types c.match-special_at.types c.loop-key-test.true c.loop-key-item.is c.loop-key.invariant (λ q e. w.in_default.not-Some q (c.special_at.ensures ∙ e)) w.types-is ]
