use Rattle.std.proofs.Common.{◌∙◌, ◌||◌, ⊎_elim, ap, sym, arith, length, length-append}
use Rattle.std.specs.List.{filter_map, list_any}
use Rattle.std.proofs.lemmas.Bool.{cases_lt}
use Rattle.std.proofs.lemmas.List.{length-map}
use Rattle.naga_oil_form.specs.Links.{is_marked}
use Rattle.naga_oil_ir.specs.Rows.{type_row}
use Rattle.naga_oil_form.specs.ItemForm.{type_at, types_named, type_links, is_override, pending}
use Rattle.naga_oil_form.proofs.LinkLemmas.{linked-map, marked-map, marked_past, reaches-push, reaches-past}
use Rattle.naga_oil_form.proofs.FormLemmas.{at_place}
use Rattle.naga_oil_form.proofs.form_items.sized_types.Goals as goal

pub loop-ty-preserved : goal.loop-ty-preserved
loop-ty-preserved c =
    let types = c.args.types.now in
    let p = c.loop-ty.ty-index in
    let sized = c.loop-ty.sized.items in
    let at = at_place types p c.ty-item.result (omega arith) c.ty-item.is in
    let own = marked-map (λ t. list_any is_override (type_row t).names) types p c.ty-item.result at in
    let override = c.names_override.ensures ∙ ap (list_any is_override) (c.deref-in-loop-ty.ensures.value ∙ c.in_ok-names.ensures) ∙ sym own in
    let own_types = c.in_ok-types.ensures ∙ ap (filter_map type_at) (c.deref.ensures.value ∙ c.in_ok-names.ensures) in
    let named = c.any_marked.ensures ∙ ap (λ ms. list_any (is_marked ms) c.deref-in-loop-ty-3.result.now) c.deref-in-loop-ty-2.ensures.value ∙ ap (list_any (is_marked sized)) (c.deref-in-loop-ty-3.ensures.value ∙ own_types) in
    let pushed = c.in_ok-push.ensures.items in
    record {
      long = simp pushed (simp length-append (omega arith));
      so_far = λ k h. ap (λ ms. is_marked ms k) pushed ∙ reaches-push (type_links types) c.requires (pending types) sized p (c.names_override.result || c.any_marked.result) (types_named (type_row c.ty-item.result)) c.loop-ty.invariant.long (linked-map (λ t. types_named (type_row t)) types p c.ty-item.result at) (ap (λ b. b || c.any_marked.result) override ∙ ap (λ b. is_marked (pending types) p || b) named) c.loop-ty.invariant.so_far k h;
    }

pub returns : goal.returns
returns c =
    let types = c.args.types.now in
    let links = length-map types (λ t. types_named (type_row t)) in
    let marks = length-map types (λ t. list_any is_override (type_row t).names) in
    let long = c.loop-ty.invariant.long in
    λ k. ⊎_elim (λ l. c.loop-ty.invariant.so_far k (omega arith)) (λ g. marked_past c.loop-ty.sized.items k (omega arith) ∙ sym (reaches-past (type_links types) c.requires (pending types) (omega arith) k (omega arith))) (cases_lt k (length types))
