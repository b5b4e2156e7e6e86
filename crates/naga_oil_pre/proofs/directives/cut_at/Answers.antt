use Rattle.naga_oil_pre.proofs.DirectiveLemmas.{cut_is}
use Rattle.naga_oil_pre.proofs.directives.cut_at.Goals as goal

pub returns : goal.returns
returns c = cut_is _ _ _ (c.split_once.ensures.byte c.requires (λ w o h. h))
