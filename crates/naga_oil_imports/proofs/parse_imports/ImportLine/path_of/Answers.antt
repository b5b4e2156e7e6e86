use Rattle.std.proofs.Common.{◌≡◌, ◌<◌, ◌++◌, ◌∙◌, length, get_or, ap, sym, subst}
use Rattle.naga_oil_imports.proofs.PartLemmas.{concat_more}
use Rattle.naga_oil_imports.proofs.parse_imports.ImportLine.path_of.Goals as goal

pub loop-head-preserved : goal.loop-head-preserved
loop-head-preserved c =
    let items = c.args.self.now.heads.items in
    let at = c.loop-head.head-index in
    let same : c.deref-head-items.result.now ≡ items = c.deref-head-items.ensures.value in
    let is : c.head-item.result ≡ get_or items at c.head-item.result = c.head-item.is ∙ ap (λ xs. get_or xs at c.head-item.result) same in
    c.in_ok-push_str.ensures.bytes ∙ (λ j. c.loop-head.invariant j ++ c.as_str.ensures.value j)
    ∙ sym (concat_more items at c.head-item.result (subst (λ xs. at < length xs) same c.loop-head-test.true) is)
