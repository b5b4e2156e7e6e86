use Rattle.naga_oil_front_laws.proofs.MiniTexts.{mini_shape, front_shape}
use Rattle.naga_oil_front_laws.proofs.laws.texts_have_their_shape.Goals as goal

pub returns : goal.returns
returns c = record { text = mini_shape; front_end = front_shape }
