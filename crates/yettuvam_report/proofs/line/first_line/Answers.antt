use Rattle.std.proofs.Common.{Some, None, sym, ap, ◌∙◌}
use Rattle.yettuvam_report.specs.Line.{first_of}
use Rattle.yettuvam_report.proofs.LineLemmas.{lines_cut, first_cut, return_stripped}
use Rattle.yettuvam_report.proofs.line.first_line.Goals as goal

pub returns-in-Some : goal.returns-in-Some
returns-in-Some c =
    let cut = lines_cut c.args.text.now (Some (c.in-Some.line, c.in-Some._rest)) c.in-Some.ensures.cases in
    return_stripped c.in-Some.line c.unwrap_or.result c.strip_suffix.result c.strip_suffix.ensures.cases c.unwrap_or.ensures ∙ sym (first_cut c.args.text.now c.in-Some.line.now c.in-Some._rest.now cut)

pub returns-in-None : goal.returns-in-None
returns-in-None c = sym (ap first_of (lines_cut c.args.text.now None c.in-None.ensures.cases))
