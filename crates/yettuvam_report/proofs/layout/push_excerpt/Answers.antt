use Rattle.std.proofs.Common.{◌++◌, ◌∙◌, ap, string_bytes}
use Rattle.std.proofs.lemmas.Result.{on_ok_weaker}
use Rattle.yettuvam_report.specs.Line.{line_view}
use Rattle.yettuvam_report.specs.Report.{bar_line, line_excerpt, mark_line, number_front, place_line, shown_line}
use Rattle.yettuvam_report.proofs.TextLemmas.{excerpt_written}
use Rattle.yettuvam_report.proofs.layout.push_excerpt.Goals as goal

pub returns : goal.returns
returns c =
    let l = line_view c.line_at-line.result in
    let gutter = c.args.gutter in
    let path = c.args.path.now in
    let old = string_bytes c.args.out.now in
    on_ok_weaker c.push_mark.result (λ h. h ∙ ap (λ t. old ++ t) (λ i. line_excerpt gutter path (c.line_at-line.ensures i) (c.as_str.ensures.value i)))
    (excerpt_written c.push_mark.result (string_bytes c.push_mark.new.out) (string_bytes c.push_text.new.out) (string_bytes c.push_number.new.out) (string_bytes c.push_bar.new.out) (string_bytes c.push_place.new.out) old
    (place_line gutter path l) (bar_line gutter) (number_front gutter l.number) (shown_line l) (mark_line gutter l c.as_str.result.now)
    c.in_ok-push_place.ensures c.in_ok-push_bar.ensures c.in_ok-push_number.ensures c.in_ok-push_text.ensures c.push_mark.ensures)
