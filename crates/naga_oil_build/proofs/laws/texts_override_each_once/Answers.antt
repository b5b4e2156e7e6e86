use Rattle.naga_oil_build.proofs.WholeTextLemmas.{whole_text}
use Rattle.naga_oil_build.proofs.laws.texts_override_each_once.Goals as goal

pub returns : goal.returns
returns c = whole_text
