use Rattle.std.proofs.Common.{◌≡◌, ◌∙◌, ◌++◌, ◌∷◌, [], ap, sym, Some, Option, option_map, option_to_list}
use Rattle.naga_oil_ir.specs.declared.module.FunctionResult.{FunctionResult}
use Rattle.naga_oil_ir.specs.declared.names.ItemPlace.TheVariants.{TypeItem}
use Rattle.naga_oil_derive.specs.World.{value_of}
use Rattle.naga_oil_derive.specs.Copied.{CopyState, copy_state, copy_item, copy_all}
use Rattle.naga_oil_derive.specs.Stubs.{argument_types}
use Rattle.naga_oil_derive.proofs.CopiedLemmas.{copied_names-append}
use Rattle.naga_oil_derive.proofs.FoundLemmas.{ok_then}
use Rattle.naga_oil_derive.proofs.PuttingLemmas.{putting_copying, putting_next}
use Rattle.naga_oil_derive.proofs.copy.Copying.copy_signature.Goals as goal

pub copy_item-requires-clause-copying : goal.copy_item-requires-clause-copying
copy_item-requires-clause-copying c = putting_copying c.args.source.now c.args.self.now.target c.copy_arguments.new.self.target c.args.self.now.maps c.copy_arguments.new.self.maps c.requires.copying c.in_ok-copy_arguments.ensures.putting

pub returns-in-Some-clause-putting : goal.returns-in-Some-clause-putting
returns-in-Some-clause-putting c = putting_next c.in_ok-copy_arguments.ensures.offset c.in_ok-copy_arguments.ensures.putting c.copy_item.ensures.putting

pub returns-in-Some-clause-copied : goal.returns-in-Some-clause-copied
returns-in-Some-clause-copied c =
    let m = value_of c.args.source.now in
    let d = c.args.self.now.maps.offset in
    let s = copy_state c.args.self.now.maps c.args.self.now.target in
    let mid = c.copy_arguments.new.self in
    let types = argument_types c.args.function.now.arguments.items in
    let p = TypeItem c.in-Some.outcome.ty in
    let all = λ (o : Option FunctionResult). copy_all m d s (types ++ option_to_list (option_map (λ r. Some (TypeItem r.ty)) o)) in
    let e = c.in_ok-copy_arguments.ensures in
    let arguments = e.copied ∙ ap (λ xs. copy_all m d s (argument_types xs)) c.deref.ensures.value in
    let one : copy_item m mid.maps.offset (copy_state mid.maps mid.target) p ≡ all (Some c.in-Some.outcome) = ap (λ z. copy_item m z (copy_state mid.maps mid.target) p) e.offset ∙ ap (λ (t : CopyState). copy_item m d t p) arguments ∙ sym (copied_names-append (copy_item m d) s types (Some p ∷ [])) in
    ok_then c.copy_item.result (λ h. h ∙ one ∙ ap all (sym c.in-Some.is)) c.copy_item.ensures.copied
