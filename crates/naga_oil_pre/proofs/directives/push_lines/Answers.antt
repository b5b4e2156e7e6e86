use Rattle.std.proofs.Common.{◌∙◌, ◌++◌, ap, sym, lit<, string_bytes, append-nil}
use Rattle.std.specs.Str.Iter.{lines_rest}
use Rattle.std.specs.Str.Lines.{lines}
use Rattle.std.proofs.lemmas.List.{nil_from_length}
use Rattle.naga_oil_pre.proofs.ExtractedLemmas.{followed, followed_more}
use Rattle.naga_oil_pre.proofs.directives.push_lines.Goals as goal

pub loop-line-preserved : goal.loop-line-preserved
loop-line-preserved c =
    let next = c.in-Some.ensures.steps.0 in
    followed_more _ _ _ _ _ next.0 next.2 (c.in_ok-push_str.ensures.bytes ∙ ap (λ v. v ++ c.in-Some.line.now) (c.in_ok-push.ensures.bytes ∙ ap (λ v. string_bytes c.loop-line.out ++ v) (c.in_ok-push.ensures.ascii (lit< tt))))
    ∙ c.loop-line.invariant

pub returns : goal.returns
returns c =
    let none = nil_from_length _ c.in-None.ensures.steps.0.0 in
    sym (append-nil _) ∙ ap (λ v. string_bytes c.loop-line.out ++ followed (lines v)) (sym none) ∙ c.loop-line.invariant ∙ ap (λ v. string_bytes c.args.out.now ++ followed (lines (lines_rest v))) c.into_iter-line-iterator.ensures.into_iter_gives
