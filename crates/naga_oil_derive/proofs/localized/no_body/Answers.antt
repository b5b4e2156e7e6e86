use Rattle.std.proofs.Common.{ap, ◌∙◌}
use Rattle.std.specs.List.{flat_map}
use Rattle.naga_oil_ir.specs.Body.{spanned_tokens}
use Rattle.naga_oil_ir.proofs.BodyLemmas.{block_tokens-roll}
use Rattle.naga_oil_derive.proofs.localized.no_body.Goals as goal

pub returns : goal.returns
returns c =
    let f = block_tokens-roll record { body = c.new-body.result } in
    f ∙ ap (flat_map spanned_tokens) c.new-body.ensures.items
