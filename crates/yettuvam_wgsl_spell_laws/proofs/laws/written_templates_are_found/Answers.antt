use Rattle.yettuvam_wgsl_spell_laws.proofs.Found.{templates_law}
use Rattle.yettuvam_wgsl_spell_laws.proofs.laws.written_templates_are_found.Goals as goal

pub returns : goal.returns
returns c = templates_law
