use Rattle.std.proofs.lemmas.Result.{IfOk-weaker}
use Rattle.naga_oil_derive.specs.World.{value_of}
use Rattle.naga_oil_redirect.proofs.TurnForm.{in_turn_made}
use Rattle.naga_oil_redirect.proofs.redirect.in_order.Goals as goal

pub returns : goal.returns
returns c =
    let v = value_of c.args.source.now in
    IfOk-weaker c.into_module_with_entrypoints.result _ _ (λ m made. in_turn_made v (value_of m) c.new-derived.result c.import_in_turn.new.derived c.args.order.now c.new-derived.ensures c.in_ok-import_in_turn.ensures.value made) c.into_module_with_entrypoints.ensures.value
