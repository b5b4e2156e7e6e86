use Rattle.std.proofs.Common.{◌<◌, ◌≤◌, ◌∙◌, ap, Some, subst, sym, refl}
use Rattle.std.proofs.lemmas.List.{length-map, get_or-map}
use Rattle.std.proofs.lemmas.List.Elements.{All-get_or}
use Rattle.naga_oil_ir.specs.declared.module.FunctionArgument.{FunctionArgument}
use Rattle.naga_oil_ir.specs.declared.names.ItemPlace.TheVariants.{TypeItem}
use Rattle.naga_oil_derive.specs.World.{value_of}
use Rattle.naga_oil_derive.specs.Copying.{IsThere}
use Rattle.naga_oil_derive.specs.Copied.{copy_state, copy_item}
use Rattle.naga_oil_derive.specs.Putting.{NothingPut}
use Rattle.naga_oil_derive.specs.Stubs.{argument_types}
use Rattle.naga_oil_derive.proofs.CopiedLemmas.{copied_some, copied_all}
use Rattle.naga_oil_derive.proofs.PuttingLemmas.{putting_copying, putting_next}
use Rattle.naga_oil_derive.proofs.copy.Copying.copy_arguments.Goals as goal

pub loop-argument-init : goal.loop-argument-init
loop-argument-init c = record { state = refl; putting = NothingPut; offset = refl }

pub copy_item-requires-clause-there : goal.copy_item-requires-clause-there
copy_item-requires-clause-there c =
    subst (λ (a : FunctionArgument). IsThere c.args.source.now (TypeItem a.ty)) (sym c.argument-item.is) (All-get_or (λ (a : FunctionArgument). IsThere c.args.source.now (TypeItem a.ty)) c.args.arguments.now c.loop-argument.argument-index c.argument-item.result c.loop-argument-test.true c.requires.there)

pub copy_item-requires-clause-copying : goal.copy_item-requires-clause-copying
copy_item-requires-clause-copying c = putting_copying c.args.source.now c.args.self.now.target c.loop-argument.self.target c.args.self.now.maps c.loop-argument.self.maps c.requires.copying c.loop-argument.invariant.putting

pub returns-in_err-copy_item-clause-putting : goal.returns-in_err-copy_item-clause-putting
returns-in_err-copy_item-clause-putting c = putting_next c.loop-argument.invariant.offset c.loop-argument.invariant.putting c.copy_item.ensures.putting

pub loop-argument-preserved : goal.loop-argument-preserved
loop-argument-preserved c =
    let i = c.loop-argument.invariant in
    let e = c.copy_item.ensures in
    let v = value_of c.args.source.now in
    let d = c.args.self.now.maps.offset in
    let s = copy_state c.args.self.now.maps c.args.self.now.target in
    let t = copy_state c.loop-argument.self.maps c.loop-argument.self.target in
    let xs = c.args.arguments.now in
    let k = c.loop-argument.argument-index in
    let x = c.argument-item.result in
    let p = TypeItem x.ty in
    let named = λ (a : FunctionArgument). Some (TypeItem a.ty) in
    let l = subst (λ m. k < m) (sym (length-map xs named)) c.loop-argument-test.true in
    let g = ap named c.argument-item.is ∙ sym (get_or-map named xs k x (Some p) c.loop-argument-test.true) in
    record {
      state = copied_some (copy_item v d) s t (copy_state c.copy_item.new.self.maps c.copy_item.new.self.target) (argument_types xs) k (Some p) p l g refl i.state (c.in_ok-copy_item.ensures.copied ∙ ap (λ z. copy_item v z t p) i.offset);
      putting = putting_next i.offset i.putting e.putting;
      offset = e.offset ∙ i.offset;
    }

pub returns-clause-copied : goal.returns-clause-copied
returns-clause-copied c =
    let xs = c.args.arguments.now in
    let long = length-map xs (λ (a : FunctionArgument). Some (TypeItem a.ty)) in
    copied_all (copy_item (value_of c.args.source.now) c.args.self.now.maps.offset) (copy_state c.args.self.now.maps c.args.self.now.target) (copy_state c.loop-argument.self.maps c.loop-argument.self.target) (argument_types xs) c.loop-argument.argument-index (subst (λ m. m ≤ c.loop-argument.argument-index) (sym long) c.loop-argument-test.false) c.loop-argument.invariant.state
