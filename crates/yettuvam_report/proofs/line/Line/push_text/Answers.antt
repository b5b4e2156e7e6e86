use Rattle.std.proofs.Common.{string_bytes}
use Rattle.yettuvam_report.specs.Report.{shown}
use Rattle.yettuvam_report.proofs.TextLemmas.{line_written}
use Rattle.yettuvam_report.proofs.line.Line.push_text.Goals as goal

pub returns : goal.returns
returns c =
    line_written c.push_str.result (string_bytes c.push_str.new.self) (string_bytes c.push_shown-3.new.out) (string_bytes c.push_shown-2.new.out) (string_bytes c.push_shown.new.out) (string_bytes c.args.out.now) (shown c.args.self.front.now) (shown c.args.self.marked.now) (shown c.args.self.after.now)
    c.in_ok-push_shown.ensures c.in_ok-push_shown-2.ensures c.in_ok-push_shown-3.ensures c.push_str.ensures.bytes
