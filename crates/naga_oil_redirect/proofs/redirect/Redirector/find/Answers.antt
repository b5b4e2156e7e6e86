use Rattle.std.proofs.Common.{◌∙◌, ap, sym}
use Rattle.naga_oil_ir.specs.ModuleValue.{ModuleValue}
use Rattle.naga_oil_redirect.specs.Redirected.{function_values, found}
use Rattle.naga_oil_redirect.proofs.RedirectLemmas.{found_more, found_here}
use Rattle.naga_oil_redirect.proofs.redirect.Redirector.find.Goals as goal

pub loop-place-preserved : goal.loop-place-preserved
loop-place-preserved c =
    let other = sym c.is_named.ensures ∙ c.if-is_named.false in
    found_more c.args.name.now c.as_slice-functions.result.now c.loop-place.place c.index-functions-place.result c.loop-place-test.true c.index-functions-place.is other c.loop-place.invariant

pub returns-then-is_named-clause-found : goal.returns-then-is_named-clause-found
returns-then-is_named-clause-found c =
    let here = sym c.is_named.ensures ∙ c.if-is_named.true in
    let values = ap (λ (m : ModuleValue). m.functions) (sym c.self.view_is) ∙ ap function_values (sym c.as_slice-functions.ensures) in
    ap (found c.args.name.now) values ∙ found_here c.args.name.now c.as_slice-functions.result.now c.loop-place.place c.index-functions-place.result c.loop-place-test.true c.index-functions-place.is here c.loop-place.invariant
