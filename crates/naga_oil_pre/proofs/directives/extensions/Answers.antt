use Rattle.std.proofs.Common.{◌∙◌, ap, not, map, rules, lit<}
use Rattle.std.specs.Str.{trim}
use Rattle.std.specs.List.{filter}
use Rattle.std.proofs.Common.{length, ◌==◌}
use Rattle.std.proofs.lemmas.Iterator.Splits.{YieldsList-from_str_split}
use Rattle.std.proofs.lemmas.Iterator.Consumers.{YieldsList-at, YieldsList-end}
use Rattle.naga_oil_pre.proofs.ExtensionLemmas.{name_taken, name_left_out}
use Rattle.naga_oil_pre.proofs.directives.extensions.Goals as goal

pub loop-part-preserved-in_ok-push : goal.loop-part-preserved-in_ok-push
loop-part-preserved-in_ok-push c = name_taken _ _ _ _ c.loop-part.invariant c.trim-name.ensures.trim _ _ c.in_ok-push.ensures.items c.in_ok-from_str.ensures.ok (search rules)

pub loop-part-preserved : goal.loop-part-preserved
loop-part-preserved c = name_left_out _ _ _ _ c.loop-part.invariant c.trim-name.ensures.trim (search rules)

pub returns : goal.returns
returns c =
    let split = YieldsList-from_str_split 44 c.args.list.now (lit< tt) c.split-part-items.ensures.text c.split-part-items.ensures.has_more c.split-part-items.ensures.pattern in
    let all = YieldsList-end (YieldsList-at c.into_iter-part-iterator.ensures.into_iter_gives split) c.loop-part.yielded _ c.loop-part.yielded_by _ _ c.in-None.is c.next.ensures.steps in
    c.loop-part.invariant ∙ ap (λ parts. filter (λ name. not (length name == 0)) (map trim parts)) all.0
