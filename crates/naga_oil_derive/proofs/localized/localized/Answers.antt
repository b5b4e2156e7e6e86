use Rattle.std.proofs.Common.{arith, ◌≡◌, ◌≤◌, ◌-◌, List, length, map, ap, sym, ◌∙◌, subst}
use Rattle.naga_oil_ir.specs.ModuleValue.{argument_value, local_values}
use Rattle.naga_oil_ir.specs.declared.module.FunctionArgument.{FunctionArgument}
use Rattle.naga_oil_ir.specs.declared.types.LocalVariable.{LocalVariable}
use Rattle.naga_oil_ir.specs.declared.span.Span.{Span}
use Rattle.naga_oil_derive.specs.Went.{went}
use Rattle.naga_oil_derive.specs.Copies.{Table, under_table, range_under, FitIn}
use Rattle.naga_oil_derive.specs.Functions.{argument_under, local_under}
use Rattle.naga_oil_derive.specs.CopiedFunction.{expression_state}
use Rattle.naga_oil_derive.proofs.LocalSteps.{began_within, counted, local_fits}
use Rattle.naga_oil_derive.proofs.FunctionCopies.{function_same}
use Rattle.naga_oil_derive.proofs.localized.localized.Goals as goal

pub overflow_sub-copied : goal.overflow_sub-copied
overflow_sub-copied c =
    let b = began_within c.args.function.now c.args.walk.now c.requires in
    omega (arith, b, c.len-2.ensures, c.args.walk.now.places.ok.0)

pub overflow_sub-copied-2 : goal.overflow_sub-copied-2
overflow_sub-copied-2 c =
    let target = c.in_ok-target.field-0 in
    let n = counted (went c.args.names) c.args.function.now c.args.walk.now target.table.items target.target c.requires c.in_ok-target.ensures in
    omega (arith, n, c.len.ensures, c.len-2.ensures, c.args.walk.now.places.ok.0)

pub invariant_of-copied : goal.invariant_of-copied
invariant_of-copied c =
    let f = c.args.function.now in
    let w = c.args.walk.now in
    let target = c.in_ok-target.field-0 in
    let m = c.len.result - (c.len-2.result - w.began) in
    let k = c.len-3.result in
    let n = counted (went c.args.names) f w target.table.items target.target c.requires c.in_ok-target.ensures in
    let less : length w.places.items - w.began ≤ k = omega (arith, n, c.len-3.ensures) in
    let same : m ≡ k - (length w.places.items - w.began) = omega (arith, c.len.ensures, c.len-2.ensures, c.len-3.ensures, w.places.ok.0) in
    record { fits = subst (FitIn w.began m k) (sym c.deref-2.ensures.value) (local_fits f w m k c.requires less same) }

pub returns : goal.returns
returns c =
    let f = c.args.function.now in
    let w = c.args.walk.now in
    let r = went c.args.names in
    let t = c.deref.result.now in
    let target = c.in_ok-target.field-0.target in
    let m = c.len.result - (c.len-2.result - w.began) in
    let n = c.len-3.result in
    let at : t ≡ c.in_ok-target.field-0.table.items = c.deref.ensures.value in
    let copied = ap (λ (u : Table). expression_state u target) at ∙ c.in_ok-target.ensures in
    let range = range_under c.deref-2.result.now w.began m n in
    function_same r f w t target c.deref-2.result.now m n _ _ _ _ _ _ c.requires copied c.deref-2.ensures.value (omega (arith, c.len.ensures, c.len-2.ensures, w.places.ok.0)) c.len-3.ensures c.in_ok-copied_name.ensures (c.in_ok-renamed_arguments.ensures ∙ ap (λ (xs : List FunctionArgument). map (argument_under r) (map argument_value xs)) c.deref-3.ensures.value) c.renamed_result.ensures (c.in_ok-locals.ensures ∙ ap (λ (ls : List (LocalVariable × Span)). map (local_under (under_table r t range)) (local_values ls)) c.as_slice.ensures) c.in_ok-named.ensures c.in_ok-renamed_block.ensures
