use Rattle.yettuvam_wgsl_spell_laws.proofs.Neighbours.{neighbours_law}
use Rattle.yettuvam_wgsl_spell_laws.proofs.laws.written_neighbours_stand_apart.Goals as goal

pub returns : goal.returns
returns c = neighbours_law
