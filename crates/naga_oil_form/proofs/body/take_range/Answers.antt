use Rattle.std.proofs.Common.{◌∙◌, ◌<◌, sym, arith, length-set}
use Rattle.std.proofs.lemmas.Bool.{false≢true}
use Rattle.naga_oil_form.specs.Links.{lists}
use Rattle.naga_oil_form.proofs.LinkLemmas.{linked-at}
use Rattle.naga_oil_form.proofs.BodyFormLemmas.{IsEmitting-here, IsEmitting-step, emitted_same}
use Rattle.naga_oil_form.proofs.body.take_range.Goals as goal

pub returns-then-not-may_be_emitted-clause-fine : goal.returns-then-not-may_be_emitted-clause-fine
returns-then-not-may_be_emitted-clause-fine c =
    let lt : c.loop-place.place < c.args.range.1 = omega arith in
    let here = linked-at c.args.of.now.read.now.links.items c.loop-place.place c.index.result.now (omega arith) c.index.ensures in
    (λ h. absurd (false≢true h), λ a. sym c.if-not-may_be_emitted.true ∙ c.may_be_emitted.ensures.1 (emitted_same c.args.of.now.read.now.kinds.items c.args.of.now.started.now _ _ _ _ c.loop-place.place (sym c.deref.ensures.value) (here ∙ sym c.as_slice.ensures.value) (IsEmitting-here c.args.of.now.read.now.kinds.items (lists c.args.of.now.read.now.links.items) c.args.of.now.started.now c.args.done.now.items c.loop-place.done.items c.args.range c.loop-place.place c.loop-place.invariant.walk lt a.1.1)))

pub loop-place-preserved : goal.loop-place-preserved
loop-place-preserved c =
    let lt : c.loop-place.place < c.args.range.1 = omega arith in
    let here = linked-at c.args.of.now.read.now.links.items c.loop-place.place c.index.result.now (omega arith) c.index.ensures in
    record {
      long = simp length-set c.loop-place.invariant.long;
      walk = IsEmitting-step c.args.of.now.read.now.kinds.items (lists c.args.of.now.read.now.links.items) c.args.of.now.started.now c.args.done.now.items c.loop-place.done.items c.args.range c.loop-place.place c.loop-place.invariant.walk lt (emitted_same c.args.of.now.read.now.kinds.items c.args.of.now.started.now _ _ _ _ c.loop-place.place c.deref.ensures.value (c.as_slice.ensures.value ∙ sym here) (c.may_be_emitted.ensures.0 c.if-not-may_be_emitted.false));
    }
