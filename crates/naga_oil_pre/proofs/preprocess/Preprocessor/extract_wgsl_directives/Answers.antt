use Rattle.std.proofs.Common.{◌∙◌, ap, Ok, arith}
use Rattle.std.proofs.lemmas.Result.{err_from_is_err_and}
use Rattle.naga_oil_pre.proofs.ExtractedLemmas.{first_after, next_after, end_after, last_after, fails_after, line_shorter}
use Rattle.naga_oil_pre.proofs.preprocess.Preprocessor.extract_wgsl_directives.Goals as goal

pub loop-line-init : goal.loop-line-init
loop-line-init c = record {
  becomes = first_after _ _ _ _ c.in_ok-cleaned.ensures.bytes c.new-directives.ensures c.lines-lines.ensures.rest;
  fits = omega (arith, c.lines-lines.ensures.len);
}

pub returns-in_err-take_line : goal.returns-in_err-take_line
returns-in_err-take_line c =
    let p = err_from_is_err_and c.from_residual-in_err-take_line.result c.from_residual-in_err-take_line.ensures.1 in
    let first = c.in-Some.ensures.steps.0 in
    rw (p.1, p.2) (fails_after _ _ _ _ _ _ _ first.0 first.2 c.loop-line.invariant.becomes _ c.in_err-take_line.ensures.goes_on)

pub returns-then-not-branch : goal.returns-then-not-branch
returns-then-not-branch c =
    let first = c.in-Some.ensures.steps.0 in
    let ends = c.in_ok-take_line.ensures.goes_on ∙ ap Ok c.if-not-branch.true in
    end_after _ _ _ _ _ _ _ first.0 first.2 c.loop-line.invariant.becomes _ _ _ _ ends c.in_ok-push_line_end.ensures c.in_ok-take_line.ensures.text c.in_ok-take_line.ensures.found c.in_ok-push_lines.ensures

pub loop-line-preserved : goal.loop-line-preserved
loop-line-preserved c =
    let first = c.in-Some.ensures.steps.0 in
    let on = c.in_ok-take_line.ensures.goes_on ∙ ap Ok c.if-not-branch.false in
    record {
      becomes = next_after _ _ _ _ _ _ _ first.0 first.2 c.loop-line.invariant.becomes _ _ _ on c.in_ok-push_line_end.ensures c.in_ok-take_line.ensures.text c.in_ok-take_line.ensures.found;
      fits = omega (arith, c.loop-line.invariant.fits, line_shorter _ _ _ first.0 first.2);
    }

pub returns : goal.returns
returns c = last_after _ _ _ _ _ c.in_default.ensures.steps.0.0 c.loop-line.invariant.becomes
