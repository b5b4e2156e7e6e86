use Rattle.std.proofs.Common.{ap, sym, ◌∙◌}
use Rattle.naga_oil_palette.proofs.PaletteLemmas.{shape_at_value, shape_or_other}
use Rattle.naga_oil_palette.proofs.writer.shape_at.Goals as goal

pub returns-in-Some : goal.returns-in-Some
returns-in-Some c = c.shape_of.ensures ∙ ap shape_or_other c.in-Some.ensures ∙ sym (shape_at_value c.args.expressions.now c.args.place)

pub returns-in-None : goal.returns-in-None
returns-in-None c = ap shape_or_other c.in-None.ensures ∙ sym (shape_at_value c.args.expressions.now c.args.place)
