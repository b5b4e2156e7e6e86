use Rattle.naga_oil_front_laws.proofs.PaletteTexts.{palette_shape, palette_front_shape}
use Rattle.naga_oil_front_laws.proofs.laws.palettes_have_their_shape.Goals as goal

pub returns : goal.returns
returns c = record { text = palette_shape; front_end = palette_front_shape }
