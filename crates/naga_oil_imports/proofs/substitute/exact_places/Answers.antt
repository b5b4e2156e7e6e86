use Rattle.naga_oil_imports.proofs.SitePlaceLemmas.{sites_count}
use Rattle.naga_oil_imports.proofs.substitute.exact_places.Goals as goal

pub returns : goal.returns
returns c = sites_count
