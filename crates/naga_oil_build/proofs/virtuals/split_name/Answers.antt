use Rattle.std.proofs.Common.{◌≡◌, None, sym, rules}
use Rattle.naga_oil_build.proofs.SplitLemmas.{cut_name, cut_last, cut_none, ends_so, ends_not, no_end, no_mark, no_parts, has_parts, none_empty}
use Rattle.naga_oil_build.proofs.virtuals.split_name.Goals as goal

pub returns-clause-value : goal.returns-clause-value
returns-clause-value c =
    let end = ends_so c.args.name.now c.in_ok-marked.marked.now c.in_ok-marked.ensures.cases in
    let cut = cut_last _ _ c.in_ok-marked.marked.now c.in_ok-item.item.now c.in_ok-item.code.now c.in_ok-item.ensures.cases in
    sym (has_parts c.args.name.now c.in_ok-marked.marked.now c.in_ok-item.item.now c.in_ok-item.code.now end cut (sym c.if-not-are_parts.ensures))

pub returns-clause-parts : goal.returns-clause-parts
returns-clause-parts c =
    let end = c.in_ok-marked.ensures.cases in
    let cut = c.in_ok-item.ensures.cases in
    record {
      parts = cut_name c.args.name.now c.in_ok-marked.marked.now c.in_ok-item.item.now c.in_ok-item.code.now end.0 cut.0 cut.1 end.1.0 end.2 end.1.1 cut.2.1.split cut.3 cut.4;
      named = (none_empty c.in_ok-item.item.now c.in_ok-item.code.now (sym c.if-not-are_parts.ensures)).0;
      coded = (none_empty c.in_ok-item.item.now c.in_ok-item.code.now (sym c.if-not-are_parts.ensures)).1;
    }

pub returns-in_err-marked-clause-value : goal.returns-in_err-marked-clause-value
returns-in_err-marked-clause-value c =
    let none : c.from_residual.result ≡ None = search rules in
    rw none (sym (no_end c.args.name.now (ends_not c.args.name.now c.in_err-marked.ensures.cases)))

pub returns-in_err-item-clause-value : goal.returns-in_err-item-clause-value
returns-in_err-item-clause-value c =
    let none : c.from_residual-in_err-item.result ≡ None = search rules in
    let end = ends_so c.args.name.now c.in_ok-marked.marked.now c.in_ok-marked.ensures.cases in
    rw none (sym (no_mark c.args.name.now c.in_ok-marked.marked.now end (cut_none _ _ c.in_ok-marked.marked.now c.in_err-item.ensures.cases)))

pub returns-then-not-are_parts-clause-value : goal.returns-then-not-are_parts-clause-value
returns-then-not-are_parts-clause-value c =
    let end = ends_so c.args.name.now c.in_ok-marked.marked.now c.in_ok-marked.ensures.cases in
    let cut = cut_last _ _ c.in_ok-marked.marked.now c.in_ok-item.item.now c.in_ok-item.code.now c.in_ok-item.ensures.cases in
    sym (no_parts c.args.name.now c.in_ok-marked.marked.now c.in_ok-item.item.now c.in_ok-item.code.now end cut (sym c.if-not-are_parts.ensures))
