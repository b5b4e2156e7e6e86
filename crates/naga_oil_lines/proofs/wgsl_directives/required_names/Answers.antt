use Rattle.std.proofs.Common.{arith}
use Rattle.std.proofs.lemmas.Grind.{common_steps}
use Rattle.naga_oil_words.specs.Texts.{in_order}
use Rattle.naga_oil_lines.proofs.wgsl_directives.required_names.Goals as goal

pub returns : goal.returns
unfolding in_order
returns c = grind (arith, common_steps)
