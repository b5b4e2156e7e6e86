use Rattle.naga_oil_lines.proofs.CoverLengthLemmas.{length-cover}
use Rattle.naga_oil_lines.proofs.comment_strip_iter.equal_lengths.Goals as goal

pub returns : goal.returns
returns c = length-cover
