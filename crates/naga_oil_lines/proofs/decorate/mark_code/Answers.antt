use Rattle.std.proofs.Common.{ap, ◌∙◌}
use Rattle.std.specs.Str.{chars}
use Rattle.naga_oil_lines.specs.Text.{past_word}
use Rattle.naga_oil_lines.proofs.UndecorateLemmas.{no_mark, no_code, no_end, a_mark, text_before_rest, spelled_x}
use Rattle.naga_oil_lines.proofs.decorate.mark_code.Goals as goal

pub returns-in_err-rest-clause-found : goal.returns-in_err-rest-clause-found
returns-in_err-rest-clause-found c = rw c.from_residual.ensures (no_mark (chars c.args.mark.now) (chars c.args.text.now) c.in_err-rest.ensures.chars)

pub returns-in_err-end-clause-found : goal.returns-in_err-end-clause-found
returns-in_err-end-clause-found c = rw c.from_residual-in_err-end.ensures (no_code (chars c.args.mark.now) (chars c.args.text.now) (chars c.in_ok-rest.rest.now) c.in_ok-rest.ensures.chars c.in_err-end.ensures.chars)

pub returns-in_err-following-clause-found : goal.returns-in_err-following-clause-found
returns-in_err-following-clause-found c =
    rw c.from_residual-in_err-following.ensures (no_end (chars c.args.mark.now) (chars c.args.text.now) (chars c.in_ok-rest.rest.now) (chars c.in_ok-end.end.now) c.in_ok-rest.ensures.chars c.in_ok-end.ensures.chars
    (c.in_err-following.ensures.chars ∙ ap (λ w. past_word w (chars c.in_ok-end.end.now)) spelled_x))

pub returns-clause-found : goal.returns-clause-found
returns-clause-found c =
    a_mark (chars c.args.mark.now) (chars c.args.text.now) (chars c.in_ok-rest.rest.now) (chars c.in_ok-end.end.now) (chars c.in_ok-following.following.now) c.text_before.result.now
    c.in_ok-rest.ensures.chars c.in_ok-end.ensures.chars (c.in_ok-following.ensures.chars ∙ ap (λ w. past_word w (chars c.in_ok-end.end.now)) spelled_x)
    (text_before_rest c.in_ok-rest.rest.now c.text_before.result.now c.in_ok-end.end.now c.text_before.ensures c.text_before.utf8)
