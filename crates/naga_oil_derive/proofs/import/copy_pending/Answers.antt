use Rattle.std.proofs.Common.{◌≡◌, ◌∙◌, Some, refl, ap, sym, subst}
use Rattle.std.proofs.lemmas.List.Elements.{All-pop}
use Rattle.naga_oil_derive.specs.World.{value_of}
use Rattle.naga_oil_derive.specs.Answered.{import_state}
use Rattle.naga_oil_derive.specs.Pending.{IsPending, complete, complete_all}
use Rattle.naga_oil_derive.specs.Putting.{Adding, NothingAdded}
use Rattle.naga_oil_derive.proofs.AddingLemmas.{Adding-append, copying_added}
use Rattle.naga_oil_derive.proofs.PendingLemmas.{finish_last}
use Rattle.naga_oil_derive.proofs.import.copy_pending.Goals as goal

pub loop-top-init : goal.loop-top-init
loop-top-init c = record { value = refl; adding = NothingAdded; offset = refl; pending = c.requires.pending }

pub advance-requires-clause-copying : goal.advance-requires-clause-copying
advance-requires-clause-copying c =
    let old = c.args.copying.now in
    let now = c.loop-top.copying in
    copying_added c.args.source.now old.target now.target old.maps now.maps c.args.functions.now c.loop-top.functions old.maps.offset c.requires.copying c.loop-top.invariant.adding

pub advance-requires-clause-top : goal.advance-requires-clause-top
advance-requires-clause-top c = (All-pop (IsPending c.args.source.now c.loop-top.functions) c.loop-top.pending.items c.pop.new.self.items (Some c.in-Some.top) c.in-Some.ensures.items c.loop-top.invariant.pending).1

pub advance-requires-clause-pending : goal.advance-requires-clause-pending
advance-requires-clause-pending c = (All-pop (IsPending c.args.source.now c.loop-top.functions) c.loop-top.pending.items c.pop.new.self.items (Some c.in-Some.top) c.in-Some.ensures.items c.loop-top.invariant.pending).0

pub loop-top-preserved : goal.loop-top-preserved
loop-top-preserved c =
    let i = c.loop-top.invariant in
    let m = value_of c.args.source.now in
    let d = c.args.copying.now.maps.offset in
    let now = c.loop-top.copying in
    let new = c.advance.new.copying in
    let s = import_state now.maps now.target c.loop-top.functions in
    let u = import_state new.maps new.target c.advance.new.functions in
    let ps = c.pop.new.self.items in
    let qs = c.advance.new.pending.items in
    let top = c.in-Some.top in
    let is = subst (λ z. complete_all m z u qs ≡ complete_all m z (complete m z s top) ps) i.offset c.in_ok-advance.ensures.value in
    record {
      value = is ∙ sym (finish_last m d s ps top) ∙ ap (complete_all m d s) (sym c.in-Some.ensures.items) ∙ i.value;
      adding = Adding-append i.adding (subst (λ z. Adding m z s u) i.offset c.in_ok-advance.ensures.adding);
      offset = c.in_ok-advance.ensures.offset ∙ i.offset;
      pending = c.in_ok-advance.ensures.pending;
    }

pub returns-in_err-advance-clause-adding : goal.returns-in_err-advance-clause-adding
returns-in_err-advance-clause-adding c =
    let i = c.loop-top.invariant in
    let m = value_of c.args.source.now in
    let now = c.loop-top.copying in
    let new = c.advance.new.copying in
    let s = import_state now.maps now.target c.loop-top.functions in
    let u = import_state new.maps new.target c.advance.new.functions in
    Adding-append i.adding (subst (λ z. Adding m z s u) i.offset c.advance.ensures.adding)
