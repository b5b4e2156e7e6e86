use Rattle.std.proofs.Common.{◌≡◌, List, Some, map, option_map, slice_get, ap, sym, ◌∙◌}
use Rattle.std.proofs.lemmas.Option.{slice_get-map, slice_get-get_or}
use Rattle.naga_oil_ir.specs.ModuleValue.{FunctionValue, function_value, module_value}
use Rattle.naga_oil_ir.specs.declared.module.Function.{Function}
use Rattle.naga_oil_ir.specs.declared.span.Span.{Span}
use Rattle.naga_oil_link.specs.ByName.{text_at, listed_names}
use Rattle.naga_oil_link.specs.Places.{name_at}
use Rattle.naga_oil_link.specs.declared.by_name.Listed.{Listed}
use Rattle.naga_oil_link.proofs.ByNameLemmas.{text_there}
use Rattle.naga_oil_link.proofs.by_name.Listed.name.Goals as goal

pub returns-in_ok-get-in-Functions : goal.returns-in_ok-get-in-Functions
returns-in_ok-get-in-Functions c =
    let view : Function × Span → FunctionValue × Span = λ x. (function_value x.0, x.1) in
    let of = c.in-Functions.of.now in
    let k = c.args.at in
    let fs = c.as_slice.result.now in
    let x = c.in_ok-get-in-Functions.field-0.now in
    let here : slice_get fs k ≡ Some x = slice_get-get_or fs k x c.in_ok-get-in-Functions.ensures.lookup.3.0 ∙ ap Some (sym c.in_ok-get-in-Functions.ensures.lookup.1) in
    let there : slice_get (map view of.functions) k ≡ Some (view x) = ap (λ (gs : List (Function × Span)). slice_get (map view gs) k) (sym c.as_slice.ensures) ∙ slice_get-map view fs k ∙ ap (option_map view) here in
    c.named.ensures ∙ sym (text_there (λ (f : FunctionValue × Span). f.0.name) (map view of.functions) k (view x) there) ∙ ap (λ (l : Listed). text_at (listed_names l) k) (sym c.in-Functions.is)

pub returns-in_ok-get-in-Items : goal.returns-in_ok-get-in-Items
returns-in_ok-get-in-Items c =
    let name = name_at (module_value c.in-Items.of.now) in
    let k = c.args.at in
    let ps = c.in-Items.places.now in
    let x = c.in_ok-get-in-Items.field-0.now in
    let here : slice_get ps k ≡ Some x = slice_get-get_or ps k x c.in_ok-get-in-Items.ensures.lookup.3.0 ∙ ap Some (sym c.in_ok-get-in-Items.ensures.lookup.1) in
    c.name_at.ensures ∙ sym (text_there name ps k x here) ∙ ap (λ (l : Listed). text_at (listed_names l) k) (sym c.in-Items.is)
