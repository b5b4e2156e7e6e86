use Rattle.std.proofs.Common.{◌++◌, append-nil, sym, ap, ◌∙◌}
use borrow.Author.Tests.{eqb-true}
use Rattle.std.proofs.lemmas.List.{nil_from_length}
use Rattle.naga_oil_words.specs.Texts.{texts}
use Rattle.naga_oil_build.specs.Writeback.{lost_by}
use Rattle.naga_oil_build.specs.WritebackView.{named_of, held}
use Rattle.naga_oil_build.proofs.writeback.lost_at.Goals as goal

pub returns-then-is_empty : goal.returns-then-is_empty
returns-then-is_empty c =
    let names = texts c.args.owned.now.keys in
    let name = c.args.item.now.name.now in
    let nothing = nil_from_length c.args.decoration.now (eqb-true _ 0 (sym c.is_empty.ensures ∙ c.if-is_empty.true)) in
    c.lost_by.ensures ∙ ap (λ n. lost_by names n (held c.args.back.now) (named_of c.args.item.now)) (sym (append-nil name) ∙ ap (λ d. name ++ d) (sym nothing))

pub returns : goal.returns
returns c =
    let names = texts c.args.owned.now.keys in
    c.lost_by-2.ensures ∙ ap (λ n. lost_by names n (held c.args.back.now) (named_of c.args.item.now)) (c.as_str.ensures.value ∙ c.in_ok-decorated.ensures.ok)
