use Rattle.std.proofs.Common.{◌∙◌, ap}
use Rattle.naga_oil_form.specs.Links.{lists, AreEarlier}
use Rattle.naga_oil_form.specs.ItemForm.{type_links, types_of}
use Rattle.naga_oil_form.proofs.FormLemmas.{and_decides, decides_by}
use Rattle.naga_oil_form.proofs.form_items.items_are_fine.Goals as goal

pub returns : goal.returns
returns c =
    let earlier = decides_by AreEarlier _ (type_links (types_of c.args.of.now)) _ (ap lists c.deref.ensures.value ∙ c.in_ok-links.ensures ∙ ap type_links c.items-types.ensures.items) c.are_earlier.ensures in
    let all = and_decides _ _ (and_decides _ _ c.in_ok-names.ensures c.in_ok-expressions.ensures) c.in_ok-special.ensures in
    (λ h. let f = all.0 h in record { earlier_types = earlier.0 c.if-not-are_earlier.false; names = f.0.0; expressions = f.0.1; special = f.1 }, λ r. all.1 ((r.names, r.expressions), r.special))
