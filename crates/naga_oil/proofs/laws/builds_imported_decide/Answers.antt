use Rattle.naga_oil.proofs.LocalLemmas.{import_alike, links_alike}
use Rattle.naga_oil.proofs.laws.builds_imported_decide.Goals as goal

pub returns-clause-import : goal.returns-clause-import
returns-clause-import c = λ of_headers bs cs s i. import_alike of_headers bs cs s i

pub returns-clause-link : goal.returns-clause-link
returns-clause-link c = links_alike
