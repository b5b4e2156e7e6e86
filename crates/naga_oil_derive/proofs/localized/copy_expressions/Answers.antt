use Rattle.std.proofs.Common.{◌≡◌, ◌<◌, ◌∙◌, ap, length, arith, get_or, None}
use Rattle.std.proofs.lemmas.List.{get_or_default, length-replicate}
use Rattle.naga_oil_ir.specs.ModuleValue.{expression_values}
use Rattle.naga_oil_derive.specs.Went.{went}
use Rattle.naga_oil_derive.specs.CopiedFunction.{expression_state}
use Rattle.naga_oil_derive.proofs.FunctionCopies.{upto_start, upto_step, upto_all}
use Rattle.naga_oil_derive.proofs.localized.copy_expressions.Goals as goal

pub loop-at-init : goal.loop-at-init
loop-at-init c = record {
  room = ap length c.in_ok-nowhere.ensures ∙ length-replicate (length c.as_slice-source.result.now) None;
  state = upto_start (went c.args.names) c.as_slice-source.result.now c.args.walk.now.places.items c.args.walk.now.began c.in_ok-nowhere.field-0.items c.from_items.result c.in_ok-nowhere.ensures (c.from_items.ensures ∙ c.in_ok-room.ensures.items);
}

pub loop-at-preserved : goal.loop-at-preserved
loop-at-preserved c =
    let i = c.loop-at.invariant in
    let o = c.args.walk.now.places.items in
    let at = c.loop-at.at in
    let k = c.index.result.now in
    let l : at < length o = omega (arith, c.loop-at-test.true, c.len-at-end.ensures, c.args.walk.now.places.ok.0) in
    let is : k ≡ get_or o at 0 = c.index.ensures ∙ get_or_default o at k 0 l in
    record {
      room = c.copy_place.ensures.room ∙ i.room;
      state = upto_step (went c.args.names) (expression_values c.as_slice-source.result.now) o c.args.walk.now.began at k (expression_state c.loop-at.copies.table.items c.loop-at.copies.target) (expression_state c.copy_place.new.self.table.items c.copy_place.new.self.target) is i.state c.in_ok-copy_place.ensures.copied;
    }

pub returns : goal.returns
returns c = upto_all (went c.args.names) c.as_slice-source.result.now c.args.function.now.expressions c.args.walk.now.places.items c.args.walk.now.began c.loop-at.at (expression_state c.loop-at.copies.table.items c.loop-at.copies.target) c.as_slice-source.ensures (omega (arith, c.loop-at-test.false, c.loop-at.auto.at-end, c.len-at-end.ensures, c.args.walk.now.places.ok.0)) c.loop-at.invariant.state
