use Rattle.std.proofs.Common.{Some, None, refl}
use Rattle.std.specs.Str.{chars, encode_utf8_all}
use Rattle.naga_oil_conditions.specs.LineKinds.{run, is_operator_char}
use Rattle.naga_oil_conditions.proofs.LineKindLemmas.{text_of, compared_by}
use Rattle.naga_oil_conditions.proofs.line_kind.operation_at.Goals as goal

pub returns-in_err-value : goal.returns-in_err-value
returns-in_err-value c =
    rw c.from_residual.ensures (compared_by _ _ _ _ (encode_utf8_all (run is_operator_char (chars c.after_whitespace-start.result.now))) None
    c.after_whitespace-start.ensures.chars c.past_run.ensures.chars c.after_whitespace-following.ensures.chars refl c.in_err-value.ensures)

pub returns : goal.returns
returns c =
    compared_by _ _ _ _ _ (Some c.in_ok-value.value.now) c.after_whitespace-start.ensures.chars c.past_run.ensures.chars c.after_whitespace-following.ensures.chars
    (text_of _ _ c.run.utf8 c.run.ensures) c.in_ok-value.ensures
