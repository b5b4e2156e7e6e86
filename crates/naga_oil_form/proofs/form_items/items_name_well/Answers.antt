use Rattle.std.proofs.Common.{◌∙◌, sym, ap, subst, List, Option, All, IfSome, arith}
use Rattle.std.specs.List.{filter_map, list_any}
use Rattle.std.proofs.lemmas.Bool.{false≢true}
use Rattle.naga_oil_form.specs.Links.{is_marked}
use Rattle.naga_oil_form.specs.ItemForm.{type_at, IsThere, NamesWell}
use Rattle.naga_oil_ir.specs.declared.names.ItemPlace.{ItemPlace}
use Rattle.naga_oil_form.proofs.FormLemmas.{at_fails, at_more, at_ends}
use Rattle.naga_oil_form.proofs.form_items.items_name_well.Goals as goal
use Rattle.naga_oil_form.proofs.form_items.items_name_well.Goals.{then-not-are_there-via-then-not-are_there, then-not-are_there-via-else-not-are_there+then-any_marked}

pub returns-then-not-are_there : goal.returns-then-not-are_there
returns-then-not-are_there g c =
    let P : g.row.T.Denot → Type 0 = λ e. NamesWell c.args.of.now (is_marked c.args.marks.now) (g.T.Names.row_of e) in
    let Q : List (Option ItemPlace) → Type 0 = All (λ o. IfSome o (IsThere c.args.of.now)) in
    let fails = at_fails P c.args.items.now c.loop-place.place c.index-items-place.result (omega arith) c.index-items-place.is in
    let types = c.in_ok-types.ensures ∙ ap (filter_map type_at) (c.deref.ensures.value ∙ c.in_ok-names.ensures) in
    elim c.then-not-are_there.branch [ then-not-are_there-via-then-not-are_there w ↦ fails (λ p. false≢true (sym w.if-not-are_there.true ∙ c.are_there.ensures.1 (subst Q (sym (c.deref-in-loop-place.ensures.value ∙ c.in_ok-names.ensures)) p.0))) | then-not-are_there-via-else-not-are_there+then-any_marked w ↦ fails (λ p. false≢true (sym p.1 ∙ sym (ap (list_any (is_marked c.args.marks.now)) (w.deref-else-not-are_there.ensures.value ∙ types)) ∙ sym w.any_marked.ensures ∙ w.if-any_marked.true)) ]

pub loop-place-preserved : goal.loop-place-preserved
loop-place-preserved g c =
    let P : g.row.T.Denot → Type 0 = λ e. NamesWell c.args.of.now (is_marked c.args.marks.now) (g.T.Names.row_of e) in
    let Q : List (Option ItemPlace) → Type 0 = All (λ o. IfSome o (IsThere c.args.of.now)) in
    let types = c.in_ok-types.ensures ∙ ap (filter_map type_at) (c.deref.ensures.value ∙ c.in_ok-names.ensures) in
    let there = subst Q (c.deref-in-loop-place.ensures.value ∙ c.in_ok-names.ensures) (c.are_there.ensures.0 c.if-not-are_there.false) in
    let unmarked = sym (ap (list_any (is_marked c.args.marks.now)) (c.deref-else-not-are_there.ensures.value ∙ types)) ∙ sym c.any_marked.ensures ∙ c.if-any_marked.false in
    at_more P c.args.items.now c.loop-place.place c.index-items-place.result (omega arith) c.index-items-place.is (there, unmarked) c.loop-place.invariant

pub returns : goal.returns
returns g c =
    let P : g.row.T.Denot → Type 0 = λ e. NamesWell c.args.of.now (is_marked c.args.marks.now) (g.T.Names.row_of e) in
    at_ends P c.args.items.now c.loop-place.place c.loop-place.invariant (omega arith)
