use Rattle.naga_oil_faithful_laws.proofs.Answered.{answers}
use Rattle.naga_oil_faithful_laws.proofs.laws.small_make_answers.Goals as goal

pub returns : goal.returns
returns c = answers
