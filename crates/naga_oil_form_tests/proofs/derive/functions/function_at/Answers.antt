use Rattle.std.proofs.Common.{◌∙◌, ℕ, [], slice_get, option_map, ap, sym}
use Rattle.naga_oil_ir.specs.declared.module.Function.{Function}
use Rattle.naga_oil_ir.specs.declared.span.Span.{Span}
use Rattle.naga_oil_derive.proofs.CopyOneLemmas.{found}
use Rattle.naga_oil_form_tests.proofs.SourceLemmas.{own_source, form_import}
use Rattle.naga_oil_form_tests.proofs.derive.functions.function_at.Goals as goal

pub returns-in-Some-try_get : goal.returns-in-Some-try_get
returns-in-Some-try_get c =
    let own = own_source c.in-Some.source _ c.args.derived.now c.source.ensures c.in-Some.is in
    let source = c.in-Some.source in
    let at = sym (found _ _ c.in-Some-try_get.function c.try_get.ensures c.in-Some-try_get.is) ∙ ap (λ (k : ℕ). option_map (λ (e : Function × Span). e.0) (slice_get source.now.functions k)) c.new.ensures in
    form_import source.now c.args.derived.now own [] 1000 c.args.place c.in-Some-try_get.function.now c.in_ok-check_form.ensures.ok at
