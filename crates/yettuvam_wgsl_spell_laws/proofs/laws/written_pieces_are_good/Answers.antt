use Rattle.yettuvam_wgsl_spell_laws.proofs.Names.{good_law}
use Rattle.yettuvam_wgsl_spell_laws.proofs.laws.written_pieces_are_good.Goals as goal

pub returns : goal.returns
returns c = good_law
