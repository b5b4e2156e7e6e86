use Rattle.std.proofs.Common.{◌≡◌, Ok, Err, ap, sym, ◌∙◌}
use Rattle.std.proofs.lemmas.Result.{err_from_is_err_and}
use Rattle.naga_oil_ir.specs.ModuleValue.{module_value}
use Rattle.naga_oil_redirect.specs.PutInOrder.{put_in_order}
use Rattle.naga_oil_link.specs.BuiltModule.{overriding_of}
use Rattle.naga_oil.specs.Chain.{all_sent_down, put_in_order_as, chain_all}
use Rattle.naga_oil.proofs.ChainLemmas.{fault_then, refused_redirection, not_all_sent, sent_and_ordered}
use Rattle.naga_oil.proofs.StageFormLemmas.{formed_redirectable}
use Rattle.naga_oil.proofs.compose.chain.chain_all.Goals as goal

pub new-redirector-requires : goal.new-redirector-requires
new-redirector-requires c = formed_redirectable c.args.whole c.requires

pub returns-in_err-send_all_down : goal.returns-in_err-send_all_down
returns-in_err-send_all_down c =
    let all = overriding_of c.args.all.now in
    let m = module_value c.args.whole in
    let p = err_from_is_err_and c.from_residual.result c.from_residual.ensures.1 in
    rw (p.1, p.2) (fault_then c.in_err-send_all_down.field-0.0 (λ f. all_sent_down c.new-redirector.result all ≡ Err f) (λ f. chain_all all m ≡ Err f)
    (λ f e. not_all_sent all m f (ap (λ v. all_sent_down v all) (sym c.new-redirector.ensures.value) ∙ e)) c.in_err-send_all_down.ensures)

pub returns-in_err-into_module : goal.returns-in_err-into_module
returns-in_err-into_module c =
    let all = overriding_of c.args.all.now in
    let m = module_value c.args.whole in
    let sent = c.send_all_down.new.redirector in
    let down : all_sent_down m all ≡ Ok sent = ap (λ v. all_sent_down v all) (sym c.new-redirector.ensures.value) ∙ c.in_ok-send_all_down.ensures in
    let whole : chain_all all m ≡ put_in_order_as (put_in_order sent) = sent_and_ordered all m sent down in
    let p = err_from_is_err_and c.from_residual-in_err-into_module.result c.from_residual-in_err-into_module.ensures.1 in
    rw (p.1, p.2) (refused_redirection c.in_err-into_module.field-0.0 (put_in_order sent) (chain_all all m) (λ f e. whole ∙ ap put_in_order_as e) c.in_err-into_module.ensures.order)

pub returns : goal.returns
returns c =
    let all = overriding_of c.args.all.now in
    let m = module_value c.args.whole in
    let sent = c.send_all_down.new.redirector in
    let down : all_sent_down m all ≡ Ok sent = ap (λ v. all_sent_down v all) (sym c.new-redirector.ensures.value) ∙ c.in_ok-send_all_down.ensures in
    sent_and_ordered all m sent down ∙ ap put_in_order_as c.in_ok-into_module.ensures.order
