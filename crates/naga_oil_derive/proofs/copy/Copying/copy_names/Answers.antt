use Rattle.std.proofs.Common.{◌∙◌, ap, refl}
use Rattle.naga_oil_derive.specs.Copying.{IsBelowItem}
use Rattle.naga_oil_derive.specs.World.{value_of}
use Rattle.naga_oil_derive.specs.Copied.{copy_state, copy_item}
use Rattle.naga_oil_derive.specs.Putting.{NothingPut}
use Rattle.naga_oil_derive.proofs.CopyLemmas.{not_some, all_at}
use Rattle.naga_oil_derive.proofs.CopiedLemmas.{copied_none, copied_some, copied_all}
use Rattle.naga_oil_derive.proofs.PuttingLemmas.{putting_copying, putting_next}
use Rattle.naga_oil_derive.proofs.copy.Copying.copy_names.Goals as goal

pub loop-name-init : goal.loop-name-init
loop-name-init c = record { state = refl; putting = NothingPut; offset = refl }

pub loop-name-preserved-in_default : goal.loop-name-preserved-in_default
loop-name-preserved-in_default c =
    let i = c.loop-name.invariant in
    let is = not_some c.name-item.result c.in_default.not-Some in
    record {
      state = copied_none (copy_item (value_of c.args.source.now) c.args.self.now.maps.offset) (copy_state c.args.self.now.maps c.args.self.now.target) (copy_state c.loop-name.self.maps c.loop-name.self.target) c.args.list.now c.loop-name.name-index c.name-item.result c.loop-name-test.true c.name-item.is is i.state;
      putting = i.putting;
      offset = i.offset;
    }

pub copy_item-requires-clause-there : goal.copy_item-requires-clause-there
copy_item-requires-clause-there c =
    let b = all_at (IsBelowItem c.args.source.now c.args.item.now) c.args.list.now c.loop-name.name-index c.name-item.result c.loop-name-test.true c.name-item.is c.requires.below in
    (rw c.in-Some.is at b).0

pub copy_item-requires-clause-copying : goal.copy_item-requires-clause-copying
copy_item-requires-clause-copying c = putting_copying c.args.source.now c.args.self.now.target c.loop-name.self.target c.args.self.now.maps c.loop-name.self.maps c.requires.copying c.loop-name.invariant.putting

pub loop-name-preserved : goal.loop-name-preserved
loop-name-preserved c =
    let i = c.loop-name.invariant in
    let e = c.copy_item.ensures in
    record {
      state = copied_some (copy_item (value_of c.args.source.now) c.args.self.now.maps.offset) (copy_state c.args.self.now.maps c.args.self.now.target) (copy_state c.loop-name.self.maps c.loop-name.self.target) (copy_state c.copy_item.new.self.maps c.copy_item.new.self.target) c.args.list.now c.loop-name.name-index c.name-item.result _ c.loop-name-test.true c.name-item.is c.in-Some.is i.state (c.in_ok-copy_item.ensures.copied ∙ ap (λ d. copy_item (value_of c.args.source.now) d (copy_state c.loop-name.self.maps c.loop-name.self.target) c.in-Some.place) i.offset);
      putting = putting_next i.offset i.putting e.putting;
      offset = e.offset ∙ i.offset;
    }

pub returns-in_err-copy_item-clause-putting :
    goal.returns-in_err-copy_item-clause-putting
returns-in_err-copy_item-clause-putting c = putting_next c.loop-name.invariant.offset c.loop-name.invariant.putting c.copy_item.ensures.putting

pub returns-clause-copied : goal.returns-clause-copied
returns-clause-copied c = copied_all (copy_item (value_of c.args.source.now) c.args.self.now.maps.offset) (copy_state c.args.self.now.maps c.args.self.now.target) (copy_state c.loop-name.self.maps c.loop-name.self.target) c.args.list.now c.loop-name.name-index c.loop-name-test.false c.loop-name.invariant.state
