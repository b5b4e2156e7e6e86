use Rattle.std.proofs.Common.{option_map, ap, sym, ◌∙◌}
use Rattle.std.specs.Prelude.{slice_get}
use Rattle.naga_oil_mini_writer.proofs.BodyReaderLemmas.{shape_at_value, shape_or_other}
use Rattle.naga_oil_mini_writer.proofs.body_reader.shape_at.Goals as goal

pub returns-in-Some : goal.returns-in-Some
returns-in-Some c =
    let es = c.args.expressions.now in
    c.shape_of.ensures ∙ ap shape_or_other c.in-Some.ensures ∙ ap (λ k. shape_or_other (option_map (λ e. e.0) (slice_get es k))) c.new.ensures ∙ sym (shape_at_value es c.args.place)
