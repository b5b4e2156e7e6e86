use Rattle.std.proofs.Common.{◌≡◌, ◌+◌, ◌-◌, sym, ap, ◌∙◌, arith, rules}
use Rattle.yettuvam_faults.specs.Lines.{from_line}
use Rattle.yettuvam_faults.proofs.LineLemmas.{line_passed}
use Rattle.yettuvam_faults.proofs.lines.from_line.Goals as goal

pub loop-passed-preserved : goal.loop-passed-preserved
loop-passed-preserved c =
    let left = c.args.index - (c.loop-passed._passed + 1) in
    record {
      text = search rules;
      value = ap (from_line left) c.next_line-rest.ensures.value ∙ sym (line_passed c.args.index c.loop-passed._passed c.loop-passed.rest.now (omega arith)) ∙ c.loop-passed.invariant.value;
      shorter = omega (arith, c.next_line-rest.ensures.shorter, c.loop-passed.invariant.shorter);
    }

pub returns-clause-value : goal.returns-clause-value
returns-clause-value c =
    let none : c.args.index - c.loop-passed._passed ≡ 0 = omega arith in
    ap (λ n. from_line n c.loop-passed.rest.now) (sym none) ∙ c.loop-passed.invariant.value
