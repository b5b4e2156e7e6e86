use Rattle.std.proofs.Common.{◌≡◌, ◌∙◌, ap, sym, length}
use Rattle.std.proofs.lemmas.List.{length-map}
use Rattle.naga_oil_form.specs.Links.{lists}
use Rattle.naga_oil_ir.specs.ModuleValue.{function_value}
use Rattle.naga_oil_ir.specs.declared.module.Function.{Function}
use Rattle.naga_oil_ir.specs.declared.span.Span.{Span}
use Rattle.naga_oil_redirect.specs.Level.{levels, without_level}
use Rattle.naga_oil_redirect.specs.Ordered.{calls_of}
use Rattle.naga_oil_redirect.specs.Redirected.{function_values}
use Rattle.naga_oil_redirect.proofs.CycleLemmas.{ordered_cycle, low_levels, without_within}
use Rattle.naga_oil_redirect.proofs.order.ordered.Goals as goal

pub returns-in_err-calls-clause-cycle : goal.returns-in_err-calls-clause-cycle
returns-in_err-calls-clause-cycle c = ordered_cycle (function_values c.args.functions.now) c.requires

pub returns-in_err-levels-clause-cycle : goal.returns-in_err-levels-clause-cycle
returns-in_err-levels-clause-cycle c = ordered_cycle (function_values c.args.functions.now) c.requires

pub returns-in_err-circular-clause-cycle : goal.returns-in_err-circular-clause-cycle
returns-in_err-circular-clause-cycle c = ordered_cycle (function_values c.args.functions.now) c.requires

pub by_level-requires : goal.by_level-requires
by_level-requires c =
    let calls = calls_of (function_values c.args.functions.now) in
    let found : c.in_ok-levels.levels.items ≡ levels calls = c.in_ok-levels.ensures ∙ ap (λ vs. levels (lists vs)) c.deref.ensures.value ∙ ap levels c.in_ok-calls.ensures in
    low_levels calls c.deref-then-is_empty.result.now (c.deref-then-is_empty.ensures.value ∙ found)

pub returns-in_err-by_level-clause-cycle : goal.returns-in_err-by_level-clause-cycle
returns-in_err-by_level-clause-cycle c = ordered_cycle (function_values c.args.functions.now) c.requires

pub returns-then-is_empty-clause-cycle : goal.returns-then-is_empty-clause-cycle
returns-then-is_empty-clause-cycle c = ordered_cycle (function_values c.args.functions.now) c.requires

pub names_at-requires : goal.names_at-requires
names_at-requires c =
    let fs = c.args.functions.now in
    let calls = calls_of (function_values fs) in
    let found : c.in_ok-levels.levels.items ≡ levels calls = c.in_ok-levels.ensures ∙ ap (λ vs. levels (lists vs)) c.deref.ensures.value ∙ ap levels c.in_ok-calls.ensures in
    without_within (function_values fs) (length fs) c.deref-3.result.now (sym (length-map fs (λ (e : Function × Span). (function_value e.0, e.1)))) (c.deref-3.ensures.value ∙ c.in_ok-circular.ensures ∙ ap without_level (c.deref-2.ensures.value ∙ found))

pub returns-in_err-names-clause-cycle : goal.returns-in_err-names-clause-cycle
returns-in_err-names-clause-cycle c = ordered_cycle (function_values c.args.functions.now) c.requires

pub returns-clause-cycle : goal.returns-clause-cycle
returns-clause-cycle c = ordered_cycle (function_values c.args.functions.now) c.requires
