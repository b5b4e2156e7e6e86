use Rattle.std.proofs.Common.{◌<◌, ◌≤◌, ◌∙◌, ap, Some, subst, sym, refl}
use Rattle.naga_oil_ir.specs.declared.names.ItemPlace.TheVariants.{TypeItem}
use Rattle.naga_oil_derive.specs.World.{value_of}
use Rattle.naga_oil_derive.specs.Copying.{IsThere, special_names}
use Rattle.naga_oil_derive.specs.Copied.{copy_state, copy_item}
use Rattle.naga_oil_derive.specs.Putting.{NothingPut}
use Rattle.naga_oil_derive.proofs.CopiedLemmas.{copied_some, copied_all}
use Rattle.naga_oil_derive.proofs.PuttingLemmas.{putting_copying, putting_next}
use Rattle.naga_oil_derive.proofs.SpecialLoops.{names_length, name_get, entry_at}
use Rattle.naga_oil_derive.proofs.copy.Copying.copy_special.Goals as goal

pub loop-handle-init : goal.loop-handle-init
loop-handle-init c = record { state = refl; putting = NothingPut; offset = refl }

pub copy_item-requires-clause-there : goal.copy_item-requires-clause-there
copy_item-requires-clause-there c =
    entry_at (λ e. IsThere c.args.source.now (TypeItem e.1)) c.args.entries.now c.loop-handle.handle-index c.loop-handle-item.result c.loop-handle-test.true c.loop-handle-item.is c.requires.there

pub copy_item-requires-clause-copying : goal.copy_item-requires-clause-copying
copy_item-requires-clause-copying c = putting_copying c.args.source.now c.args.self.now.target c.loop-handle.self.target c.args.self.now.maps c.loop-handle.self.maps c.requires.copying c.loop-handle.invariant.putting

pub returns-in_err-copy_item-clause-putting : goal.returns-in_err-copy_item-clause-putting
returns-in_err-copy_item-clause-putting c = putting_next c.loop-handle.invariant.offset c.loop-handle.invariant.putting c.copy_item.ensures.putting

pub loop-handle-preserved : goal.loop-handle-preserved
loop-handle-preserved c =
    let i = c.loop-handle.invariant in
    let e = c.copy_item.ensures in
    let v = value_of c.args.source.now in
    let d = c.args.self.now.maps.offset in
    let s = copy_state c.args.self.now.maps c.args.self.now.target in
    let t = copy_state c.loop-handle.self.maps c.loop-handle.self.target in
    let es = c.args.entries.now in
    let ns = special_names es in
    let k = c.loop-handle.handle-index in
    let p = TypeItem c.loop-handle-item.result.1 in
    let l = subst (λ m. k < m) (sym (names_length es)) c.loop-handle-test.true in
    let g = name_get es k c.loop-handle-item.result c.loop-handle-test.true c.loop-handle-item.is in
    record {
      state = copied_some (copy_item v d) s t (copy_state c.copy_item.new.self.maps c.copy_item.new.self.target) ns k (Some p) p l g refl i.state (c.in_ok-copy_item.ensures.copied ∙ ap (λ x. copy_item v x t p) i.offset);
      putting = putting_next i.offset i.putting e.putting;
      offset = e.offset ∙ i.offset;
    }

pub returns-clause-copied : goal.returns-clause-copied
returns-clause-copied c =
    let es = c.args.entries.now in
    copied_all (copy_item (value_of c.args.source.now) c.args.self.now.maps.offset) (copy_state c.args.self.now.maps c.args.self.now.target) (copy_state c.loop-handle.self.maps c.loop-handle.self.target) (special_names es) c.loop-handle.handle-index (subst (λ m. m ≤ c.loop-handle.handle-index) (sym (names_length es)) c.loop-handle-test.false) c.loop-handle.invariant.state
