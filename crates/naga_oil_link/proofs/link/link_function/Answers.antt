use Rattle.std.proofs.Common.{◌≡◌, List, Some, option_map, slice_get, ap, sym, ◌∙◌}
use Rattle.std.proofs.lemmas.Option.{slice_get-get_or, slice_get-map}
use Rattle.naga_oil_ir.specs.ModuleValue.{FunctionValue, function_value}
use Rattle.naga_oil_ir.specs.declared.module.Function.{Function}
use Rattle.naga_oil_ir.specs.declared.span.Span.{Span}
use Rattle.naga_oil_words.specs.Texts.{is_among}
use Rattle.naga_oil_link.specs.BuiltModule.{built_of}
use Rattle.naga_oil_link.specs.Linked.{passes, link_function}
use Rattle.naga_oil_link.proofs.LinkedLemmas.{made_there, same_test}
use Rattle.naga_oil_link.proofs.SourceLemmas.{can_import, from_keeps_functions}
use Rattle.naga_oil_link.proofs.link.link_function.Goals as goal

pub import_function_if_new-requires : goal.import_function_if_new-requires
import_function_if_new-requires c =
    let k = c.args.at in
    let f = c.in-Some.item.now in
    let at : slice_get c.args.source.now.functions k ≡ Some f = ap (λ (fs : List (Function × Span)). slice_get fs k) (sym c.as_slice.ensures) ∙ slice_get-get_or c.as_slice.result.now k f c.in-Some.ensures.lookup.3.0 ∙ ap Some (sym c.in-Some.ensures.lookup.1) in
    can_import _ _ c.requires.copies _ (k, at)

pub returns-in_err-import_function_if_new-clause-source : goal.returns-in_err-import_function_if_new-clause-source
returns-in_err-import_function_if_new-clause-source c = from_keeps_functions _ _ _ c.requires.copies c.import_function_if_new.ensures.keeps

pub returns-clause-source : goal.returns-clause-source
returns-clause-source c = from_keeps_functions _ _ _ c.requires.copies c.import_function_if_new.ensures.keeps

pub returns-clause-value : goal.returns-clause-value
returns-clause-value c =
    let view : Function × Span → FunctionValue × Span = λ x. (function_value x.0, x.1) in
    let names = (built_of c.args.of.now).functions in
    let k = c.args.at in
    let f = c.in-Some.item.now in
    let at : slice_get c.args.source.now.functions k ≡ Some f = ap (λ (fs : List (Function × Span)). slice_get fs k) (sym c.as_slice.ensures) ∙ slice_get-get_or c.as_slice.result.now k f c.in-Some.ensures.lookup.3.0 ∙ ap Some (sym c.in-Some.ensures.lookup.1) in
    let own = same_test names (view f).0.name ∙ sym c.has_name_next.ensures.told ∙ c.if-not-has_name_next.false in
    made_there (λ (g : FunctionValue × Span). passes (is_among names) g.0.name) link_function c.args.into.now _ (view f) (slice_get-map view c.args.source.now.functions k ∙ ap (option_map view) at) own c.import_function_if_new.new.self c.in_ok-import_function_if_new.ensures.value
