use Rattle.naga_oil_lines.proofs.DecorateLemmas.{one_item_and_module}
use Rattle.naga_oil_lines.proofs.decorate.one_decoration.Goals as goal

pub returns : goal.returns
returns c = one_item_and_module
