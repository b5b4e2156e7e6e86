use Rattle.std.proofs.Common.{All}
use Rattle.naga_oil_form.specs.BodyForm.{IsSpanFine}
use Rattle.naga_oil_form.proofs.FormLemmas.{and_decides, decides_by}
use Rattle.naga_oil_form.proofs.form_items.spans_are_fine.Goals as goal

pub returns : goal.returns
returns c =
    let m = c.args.of.now in
    let n = c.args.text_len in
    let constants = decides_by (All (λ e. IsSpanFine n e.1)) _ m.constants _ c.as_slice.ensures c.are_spans_fine.ensures in
    let overrides = decides_by (All (λ e. IsSpanFine n e.1)) _ m.overrides _ c.as_slice-2.ensures c.are_spans_fine-2.ensures in
    let globals = decides_by (All (λ e. IsSpanFine n e.1)) _ m.global_variables _ c.as_slice-3.ensures c.are_spans_fine-3.ensures in
    let expressions = decides_by (All (λ e. IsSpanFine n e.1)) _ m.global_expressions _ c.as_slice-4.ensures c.are_spans_fine-4.ensures in
    let functions = decides_by (All (λ e. IsSpanFine n e.1)) _ m.functions _ c.as_slice-5.ensures c.are_spans_fine-5.ensures in
    let all = and_decides _ _ (and_decides _ _ (and_decides _ _ (and_decides _ _ (and_decides _ _ c.are_type_spans_fine.ensures constants) overrides) globals) expressions) functions in
    (λ h. let f = all.0 h in record { types = f.0.0.0.0.0; constants = f.0.0.0.0.1; overrides = f.0.0.0.1; globals = f.0.0.1; expressions = f.0.1; functions = f.1 }, λ r. all.1 (((((r.types, r.constants), r.overrides), r.globals), r.expressions), r.functions))
