use Rattle.std.proofs.Common.{[], ◌∙◌, ap, sym, fold, arith}
use Rattle.std.proofs.lemmas.List.{drop_all}
use Rattle.naga_oil_ir.specs.ModuleValue.{function_value}
use Rattle.naga_oil_words.specs.Texts.{with_name, texts}
use Rattle.naga_oil_link.specs.Owned.{function_names, function_values, with_text}
use Rattle.naga_oil_link.proofs.OwnedLemmas.{named-more, names-begin}
use Rattle.naga_oil_link.proofs.items.function_names.Goals as goal

pub loop-item-init : goal.loop-item-init
loop-item-init c =
    ap (λ ks. fold with_name (texts ks) (function_names (function_values c.as_slice-item-items.result.now))) c.new-names.ensures.empty
    ∙ ap (λ fs. fold with_name (texts []) (function_names (function_values fs))) c.as_slice-item-items.ensures
    ∙ names-begin (function_names (function_values c.args.functions.now))

pub loop-item-preserved : goal.loop-item-preserved
loop-item-preserved c = named-more (λ e. (function_value e.0, e.1)) c.as_slice-item-items.result.now c.loop-item.item-index c.item-item.result (texts c.loop-item.names.keys) (texts c.note.new.names.keys) (omega arith) (c.in_ok-note.ensures ∙ ap (with_text (texts c.loop-item.names.keys)) c.named.ensures ∙ ap (λ e. with_text (texts c.loop-item.names.keys) (function_value e.0).name) c.item-item.is) ∙ c.loop-item.invariant

pub returns : goal.returns
returns c = sym (ap (λ fs. fold with_name (texts c.loop-item.names.keys) (function_names (function_values fs))) (drop_all c.loop-item.item-index c.as_slice-item-items.result.now c.loop-item-test.false)) ∙ c.loop-item.invariant
