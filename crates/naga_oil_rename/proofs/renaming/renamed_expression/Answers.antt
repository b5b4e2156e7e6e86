use Rattle.std.proofs.Common.{arith}
use Rattle.std.proofs.lemmas.Grind.{common_steps}
use Rattle.naga_oil_rename.proofs.RenamingLemmas.{map-Some-map}
use Rattle.naga_oil_rename.proofs.renaming.renamed_expression.Goals as goal

pub returns-in_ok-renamed_list-in-Compose : goal.returns-in_ok-renamed_list-in-Compose
returns-in_ok-renamed_list-in-Compose g c = grind (arith, common_steps, map-Some-map)
