use Rattle.std.proofs.Common.{◌++◌, map, take, ap, sym, ◌∙◌, append_assoc, arith, string_bytes}
use Rattle.std.specs.List.{flat_map}
use Rattle.naga_oil_ir.specs.Backend.{labels}
use Rattle.yettuvam_faults.specs.Marks.{span_mark}
use Rattle.yettuvam_faults.specs.MarksView.{source_view}
use Rattle.yettuvam_report.specs.Report.{mark_of}
use Rattle.yettuvam_faults.proofs.MarkLemmas.{spans_more}
use Rattle.yettuvam_faults.proofs.marks.push_spans.Goals as goal

pub loop-span-preserved : goal.loop-span-preserved
loop-span-preserved c =
    let f = span_mark (source_view c.args.source) in
    let spans = c.args.spans.now in
    let i = c.loop-span.span-index in
    let x = c.loop-span-item.result in
    let before = map mark_of c.args.marks.now.items in
    c.in_ok-push_span.ensures
    ∙ (λ j. c.loop-span.invariant j ++ f (x.0, c.as_str.ensures.value j))
    ∙ append_assoc before (flat_map f (labels (take i spans))) (f (x.0, string_bytes x.1))
    ∙ ap (λ t. before ++ t) (sym (spans_more f spans i x (omega arith) c.loop-span-item.is))
