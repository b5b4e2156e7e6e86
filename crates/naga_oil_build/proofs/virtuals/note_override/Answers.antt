use Rattle.std.proofs.Common.{◌+◌, length, ap, ◌∙◌}
use Rattle.std.proofs.lemmas.Result.{on_ok_weaker}
use Rattle.naga_oil_words.specs.Marks.{override_mark}
use Rattle.naga_oil_registry.specs.Keywords.{put}
use Rattle.naga_oil_build.proofs.virtuals.note_override.Goals as goal

pub returns-clause-edits : goal.returns-clause-edits
returns-clause-edits c =
    on_ok_weaker c.add_override.result (λ noted. c.in_ok-edit-2.ensures ∙ ap (λ e. put e (c.args.of.now.place + length c.args.item.now) override_mark) c.in_ok-edit.ensures) c.add_override.ensures
