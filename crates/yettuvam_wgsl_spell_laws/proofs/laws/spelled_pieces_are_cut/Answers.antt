use Rattle.yettuvam_wgsl_spell_laws.proofs.Scanned.{cut_law}
use Rattle.yettuvam_wgsl_spell_laws.proofs.laws.spelled_pieces_are_cut.Goals as goal

pub returns : goal.returns
returns c = cut_law
