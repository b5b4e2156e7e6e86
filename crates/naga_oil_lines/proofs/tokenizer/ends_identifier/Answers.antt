use Rattle.std.proofs.Common.{◌<◌, get_or, ap, sym, subst, ◌∙◌, arith}
use Rattle.naga_oil_lines.specs.Words.{ends_identifier}
use Rattle.naga_oil_lines.proofs.ClassLemmas.{ends_by_class}
use Rattle.naga_oil_lines.proofs.tokenizer.ends_identifier.Goals as goal

pub returns-in-len1-up : goal.returns-in-len1-up
returns-in-len1-up c =
    let value = c.as_bytes.ensures.value in
    ends_by_class c.as_bytes.result.now c.in-len1-up.len_at_least (subst (λ bs. get_or bs 0 0 < 256) (sym value) (omega (arith, c.type_inv.text 0))) ∙ ap ends_identifier value
