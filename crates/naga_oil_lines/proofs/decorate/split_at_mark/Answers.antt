use Rattle.std.proofs.Common.{ap, ◌∙◌}
use Rattle.std.specs.Str.{chars}
use Rattle.naga_oil_lines.specs.Undecorate.{mark_code}
use Rattle.naga_oil_lines.proofs.UndecorateLemmas.{no_split, no_split_after, a_split, text_before_rest, spelled_module_mark}
use Rattle.naga_oil_lines.proofs.decorate.split_at_mark.Goals as goal

pub returns-in_err-at-clause-parts : goal.returns-in_err-at-clause-parts
returns-in_err-at-clause-parts c = rw c.from_residual.ensures (no_split (chars c.args.run.now) c.in_err-at.ensures.chars)

pub returns-in_err-code-clause-parts : goal.returns-in_err-code-clause-parts
returns-in_err-code-clause-parts c =
    rw c.from_residual-in_err-code.ensures (no_split_after (chars c.args.run.now) (chars c.in_ok-at.at.now) c.in_ok-at.ensures.chars
    (c.in_err-code.ensures.found ∙ ap (λ m. mark_code m (chars c.in_ok-at.at.now)) spelled_module_mark))

pub returns-clause-parts : goal.returns-clause-parts
returns-clause-parts c =
    a_split (chars c.args.run.now) (chars c.in_ok-at.at.now) c.text_before.result.now c.in_ok-code.code.now (chars c.in_ok-code.following.now) c.in_ok-at.ensures.chars
    (c.in_ok-code.ensures.found ∙ ap (λ m. mark_code m (chars c.in_ok-at.at.now)) spelled_module_mark)
    (text_before_rest c.args.run.now c.text_before.result.now c.in_ok-at.at.now c.text_before.ensures c.text_before.utf8)
