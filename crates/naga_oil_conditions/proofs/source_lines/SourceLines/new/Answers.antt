use Rattle.std.proofs.Common.{rules}
use Rattle.std.specs.Str.Iter.{lines_rest}
use Rattle.naga_oil_conditions.proofs.SourceLemmas.{source_even, source_fits}
use Rattle.naga_oil_conditions.proofs.source_lines.SourceLines.new.Goals as goal

pub invariant_of-result : goal.invariant_of-result
invariant_of-result c =
    let text = lines_rest c.args.lines.now in
    rw (c.replace_comments.ensures.texts, c.replace_comments.ensures.covers) (source_fits text (search rules), (source_even text, tt))
