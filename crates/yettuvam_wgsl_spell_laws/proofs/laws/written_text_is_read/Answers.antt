use Rattle.yettuvam_wgsl_spell_laws.proofs.Found.{read_law}
use Rattle.yettuvam_wgsl_spell_laws.proofs.laws.written_text_is_read.Goals as goal

pub returns : goal.returns
returns c = read_law
