use Rattle.std.proofs.Common.{◌∙◌, get_or, arith}
use Rattle.naga_oil_ir.specs.ModuleValue.{function_value}
use Rattle.naga_oil_words.specs.Texts.{texts}
use Rattle.naga_oil_link.specs.Owned.{owned_function, with_owned}
use Rattle.naga_oil_link.proofs.OwnedLemmas.{changed-more, folded-more, function_owned}
use Rattle.naga_oil_link.proofs.items.own_functions.Goals as goal

pub loop-item-preserved : goal.loop-item-preserved
loop-item-preserved c = record {
  items = changed-more (λ e. (function_value e.0, e.1)) (owned_function c.args.suffix.now) c.loop-item.item-items c.loop-item.item-index c.item-item.result _ (omega arith) (function_owned c.args.suffix.now (get_or c.loop-item.item-items c.loop-item.item-index c.item-item.result) c.own_text.new.name c.in_ok-own_text.ensures.name) ∙ c.loop-item.invariant.items;
  owned = folded-more (λ e. (function_value e.0, e.1)) (λ e. e.0.name) (with_owned c.args.suffix.now) c.loop-item.item-items c.loop-item.item-index c.item-item.result _ (texts c.loop-item.owned.keys) (texts c.own_text.new.owned.keys) (omega arith) c.in_ok-own_text.ensures.owned ∙ c.loop-item.invariant.owned;
}
