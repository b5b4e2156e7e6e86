use Rattle.std.proofs.Common.{◌≡◌, ◌-◌, ◌∙◌, length, rules, string_bytes}
use Rattle.yettuvam_report.proofs.TextLemmas.{number_written}
use Rattle.yettuvam_report.proofs.line.Line.push_number.Goals as goal

pub returns : goal.returns
returns c =
    let indent : c.saturating_sub.result ≡ c.args.gutter - length c.as_str.result.now = search rules in
    number_written c.push_str-2.result (string_bytes c.push_str-2.new.self) (string_bytes c.push_str.new.self) (string_bytes c.push_spaces.new.out) (string_bytes c.args.out.now) c.as_str.result.now c.args.gutter c.saturating_sub.result c.args.self.number
    (c.as_str.ensures.value ∙ c.in_ok-number.ensures.ok) indent c.in_ok-push_spaces.ensures c.in_ok-push_str.ensures.bytes c.push_str-2.ensures.bytes
