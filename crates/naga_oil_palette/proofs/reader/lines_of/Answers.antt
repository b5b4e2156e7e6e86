use Rattle.std.proofs.Common.{◌∙◌, ap, lit<}
use Rattle.std.proofs.lemmas.Iterator.Splits.{YieldsList-from_str_split}
use Rattle.std.proofs.lemmas.Iterator.Consumers.{YieldsList-at, YieldsList-end}
use Rattle.naga_oil_palette.specs.Reader.{texts}
use Rattle.naga_oil_palette.proofs.reader.lines_of.Goals as goal

pub returns : goal.returns
returns c =
    let split = YieldsList-from_str_split 10 c.args.text.now (lit< tt) c.split-line-items.ensures.text c.split-line-items.ensures.has_more c.split-line-items.ensures.pattern in
    let all = YieldsList-end (YieldsList-at c.into_iter-line-iterator.ensures.into_iter_gives split) c.loop-line.yielded _ c.loop-line.yielded_by _ _ c.in-None.is c.next.ensures.steps in
    ap texts c.loop-line.invariant ∙ all.0
