use Rattle.std.proofs.Common.{◌∙◌, ap, All}
use Rattle.naga_oil_form.specs.Links.{lists, AreEarlier}
use Rattle.naga_oil_form.specs.BodyForm.{kinds, operand_links}
use Rattle.naga_oil_form.specs.ItemForm.{StandAfter, IsGlobalKind}
use Rattle.naga_oil_form.proofs.FormLemmas.{and_decides, decides_by}
use Rattle.naga_oil_form.proofs.form_items.expressions_are_fine.Goals as goal

pub returns : goal.returns
returns c =
    let m = c.args.of.now in
    let items = c.as_slice-items.ensures in
    let earlier = decides_by AreEarlier _ (operand_links m.global_expressions) _ (ap lists c.deref.ensures.value ∙ c.in_ok-read.ensures.links ∙ ap operand_links items) c.are_earlier.ensures in
    let after = decides_by (StandAfter m) _ m.global_expressions _ items c.in_ok-after.ensures in
    let kinds = decides_by (All IsGlobalKind) _ (kinds m.global_expressions) _ (c.deref-2.ensures.value ∙ c.in_ok-read.ensures.kinds ∙ ap kinds items) c.are_global_kinds.ensures in
    let all = and_decides _ _ (and_decides _ _ earlier after) kinds in
    (λ h. let f = all.0 h in record { earlier_operands = f.0.0; after = f.0.1; kinds = f.1 }, λ r. all.1 ((r.earlier_operands, r.after), r.kinds))
