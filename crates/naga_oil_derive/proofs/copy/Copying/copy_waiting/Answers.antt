use Rattle.std.proofs.Common.{◌≡◌, ◌∙◌, refl, ap, sym, subst, List}
use Rattle.naga_oil_derive.specs.World.{value_of}
use Rattle.naga_oil_derive.specs.Copying.{goes_under}
use Rattle.naga_oil_derive.specs.Copied.{copy_state}
use Rattle.naga_oil_derive.specs.Putting.{NothingPut}
use Rattle.naga_oil_derive.specs.Waiting.{AreItemsWaiting, finish_item, finish_items}
use Rattle.naga_oil_derive.specs.declared.copy.Waiting.{Waiting}
use Rattle.naga_oil_derive.proofs.PuttingLemmas.{putting_copying, putting_next}
use Rattle.naga_oil_derive.proofs.WaitingLemmas.{finish_last}
use Rattle.naga_oil_derive.proofs.copy.Copying.copy_waiting.Goals as goal

pub loop-top-init : goal.loop-top-init
loop-top-init c = record { state = refl; putting = NothingPut; offset = refl; waiting = c.requires.waiting }

pub copy_next-requires-clause-copying : goal.copy_next-requires-clause-copying
copy_next-requires-clause-copying c = putting_copying c.args.source.now c.args.self.now.target c.loop-top.self.target c.args.self.now.maps c.loop-top.self.maps c.requires.copying c.loop-top.invariant.putting

pub copy_next-requires-clause-waiting : goal.copy_next-requires-clause-waiting
copy_next-requires-clause-waiting c = subst (λ (ws : List Waiting). AreItemsWaiting c.args.source.now (goes_under c.loop-top.self.maps) ws) c.in-Some.ensures.items c.loop-top.invariant.waiting

pub loop-top-preserved : goal.loop-top-preserved
loop-top-preserved c =
    let i = c.loop-top.invariant in
    let m = value_of c.args.source.now in
    let d = c.args.self.now.maps.offset in
    let s = copy_state c.loop-top.self.maps c.loop-top.self.target in
    let u = copy_state c.copy_next.new.self.maps c.copy_next.new.self.target in
    let ws = c.pop.new.self.items in
    let vs = c.copy_next.new.waiting.items in
    let top = c.in-Some.top in
    let is = subst (λ z. finish_items m z u vs ≡ finish_items m z (finish_item m z s top) ws) i.offset c.in_ok-copy_next.ensures.copied in
    record {
      state = is ∙ sym (finish_last m d s ws top) ∙ ap (finish_items m d s) (sym c.in-Some.ensures.items) ∙ i.state;
      putting = putting_next i.offset i.putting c.in_ok-copy_next.ensures.putting;
      offset = c.in_ok-copy_next.ensures.offset ∙ i.offset;
      waiting = c.in_ok-copy_next.ensures.waiting;
    }

pub returns-in_err-copy_next-clause-putting : goal.returns-in_err-copy_next-clause-putting
returns-in_err-copy_next-clause-putting c = putting_next c.loop-top.invariant.offset c.loop-top.invariant.putting c.copy_next.ensures.putting
