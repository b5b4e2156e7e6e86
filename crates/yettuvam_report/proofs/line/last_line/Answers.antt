use Rattle.std.proofs.Common.{Some, None, length, sym, ap, ◌∙◌, rules, arith}
use Rattle.yettuvam_report.specs.Line.{last_of}
use Rattle.yettuvam_report.proofs.LineLemmas.{last_cut, lines_bound, lines_cut, some_line}
use Rattle.yettuvam_report.proofs.line.last_line.Goals as goal

pub overflow_add-number : goal.overflow_add-number
overflow_add-number c =
    let cut = lines_cut c.loop-line.rest.now (Some (c.in-Some._line, c.in-Some.more)) c.in-Some.ensures.cases in
    omega (arith, ap length cut, some_line c.in-Some.more.now, lines_bound c.args.text.now, c.loop-line.invariant.count)

pub loop-line-preserved : goal.loop-line-preserved
loop-line-preserved c =
    let cut = lines_cut c.loop-line.rest.now (Some (c.in-Some._line, c.in-Some.more)) c.in-Some.ensures.cases in
    record {
      text = search rules;
      count = omega (arith, ap length cut, c.loop-line.invariant.count);
      last = sym (last_cut c.loop-line.rest.now c.in-Some._line.now c.in-Some.more.now cut) ∙ c.loop-line.invariant.last;
    }

pub returns-clause-number : goal.returns-clause-number
returns-clause-number c =
    let cut = lines_cut c.loop-line.rest.now None c.in_default.ensures.cases in
    omega (arith, ap length cut, c.loop-line.invariant.count)

pub returns-clause-last : goal.returns-clause-last
returns-clause-last c =
    let cut = lines_cut c.loop-line.rest.now None c.in_default.ensures.cases in
    sym (ap last_of cut) ∙ c.loop-line.invariant.last
