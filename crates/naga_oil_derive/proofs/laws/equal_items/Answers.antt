use Rattle.naga_oil_derive.proofs.EqualLemmas.{row_eq-decides, parts_eq-decides}
use Rattle.naga_oil_derive.proofs.laws.equal_items.Goals as goal

pub returns-clause-rows : goal.returns-clause-rows
returns-clause-rows c = λ a b. row_eq-decides a b

pub returns-clause-parts : goal.returns-clause-parts
returns-clause-parts c = λ a b. parts_eq-decides a b
