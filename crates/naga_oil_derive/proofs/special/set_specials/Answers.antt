use Rattle.std.proofs.Common.{◌∙◌, ap}
use Rattle.naga_oil_ir.specs.ModuleValue.{special_value}
use Rattle.naga_oil_derive.specs.Copying.{handle_under}
use Rattle.naga_oil_derive.proofs.SpecialLoops.{set_some, set_none}
use Rattle.naga_oil_derive.proofs.special.set_specials.Goals as goal
use Rattle.naga_oil_derive.proofs.special.set_specials.Goals.{then-is_none+in_ok-set_special, else-is_none}

pub loop-key-preserved : goal.loop-key-preserved
loop-key-preserved c =
    let f = handle_under c.args.maps.now.types.items in
    let es = c.args.entries.now in
    let x = c.loop-key-item.result in
    let k = c.loop-key.key-index in
    let s = special_value c.args.special.now in
    let now = special_value c.loop-key.special in
    elim c.if-is_none.branch [ then-is_none+in_ok-set_special w ↦ set_some s f es k x now (special_value c.if-is_none.special) c.special_at.result c.is_none.result w.ty.result c.loop-key-test.true c.loop-key-item.is c.loop-key.invariant c.special_at.ensures c.is_none.ensures w.if-is_none.true w.ty.ensures (ap special_value w.special-is ∙ w.in_ok-set_special.ensures.set) | else-is_none w ↦ set_none s f es k x now (special_value c.if-is_none.special) c.special_at.result c.is_none.result c.loop-key-test.true c.loop-key-item.is c.loop-key.invariant c.special_at.ensures c.is_none.ensures w.if-is_none.false (ap special_value w.special-is) ]
