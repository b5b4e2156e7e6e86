use Rattle.naga_oil_imports.proofs.PartLemmas.{last_found, none_found}
use Rattle.naga_oil_imports.proofs.parse_imports.last_segment.Goals as goal

pub returns-in-Some : goal.returns-in-Some
returns-in-Some c = let e = c.in-Some.ensures.cases in last_found c.args.name.now c.in-Some.last.now e.0 e.1 e.2 e.4

pub returns-in-None : goal.returns-in-None
returns-in-None c = none_found c.args.name.now c.in-None.ensures.cases
