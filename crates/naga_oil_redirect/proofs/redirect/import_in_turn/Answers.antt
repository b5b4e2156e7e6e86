use Rattle.std.proofs.Common.{◌≡◌, ◌<◌, ℕ, List, length, get_or, take_all, ap, sym, subst, arith, rules}
use Rattle.naga_oil_ir.specs.declared.module.Function.{Function}
use Rattle.naga_oil_ir.specs.declared.span.Span.{Span}
use Rattle.naga_oil_derive.specs.World.{value_of}
use Rattle.naga_oil_derive.specs.DerivedValue.{set_source}
use Rattle.std.proofs.lemmas.List.{length-map}
use Rattle.naga_oil_redirect.specs.Redirected.{function_values}
use Rattle.naga_oil_derive.proofs.FormFunctions.{function_named}
use Rattle.naga_oil_derive.proofs.FunctionValues.{seen}
use Rattle.naga_oil_redirect.proofs.TurnLemmas.{order_within}
use Rattle.naga_oil_redirect.proofs.TurnForm.{AreKnown, source_kept, none_known, known_more, turn_import, turn_entries, source_set, entry_of, value_entry, in_turn_more, order_value}
use Rattle.naga_oil_redirect.proofs.redirect.import_in_turn.Goals as goal

pub loop-place-init : goal.loop-place-init
loop-place-init c =
    let v = value_of c.args.source.now in
    let e = c.set_shader_source.new.self in
    let set = c.in_ok-set_shader_source.ensures.value in
    record {
      source = source_set v 0 c.args.derived.now e set;
      value = set;
      known = none_known v e;
    }

pub offset_bounds-functions-place : goal.offset_bounds-functions-place
offset_bounds-functions-place c =
    let fs = c.args.source.now.functions in
    let l = order_within (function_values fs) c.args.order.now (length fs) c.requires.order (sym (length-map fs seen)) c.loop-place.place-index 0 (omega (arith, c.loop-place-test.true)) in
    let within : get_or c.args.order.now c.loop-place.place-index 0 < length c.as_slice-functions.result.now = omega (arith, l, ap length c.as_slice-functions.ensures) in
    search rules

pub bounds-functions-place : goal.bounds-functions-place
bounds-functions-place c =
    let fs = c.args.source.now.functions in
    let l = order_within (function_values fs) c.args.order.now (length fs) c.requires.order (sym (length-map fs seen)) c.loop-place.place-index 0 (omega (arith, c.loop-place-test.true)) in
    omega (arith, l, ap length c.as_slice-functions.ensures)

pub import_function-requires : goal.import_function-requires
import_function-requires c =
    let m = c.args.source.now in
    let os = c.args.order.now in
    let i = c.loop-place.place-index in
    let e = c.index-functions-place.result in
    let l = order_within (function_values m.functions) os (length m.functions) c.requires.order (sym (length-map m.functions seen)) i 0 (omega (arith, c.loop-place-test.true)) in
    let at = entry_of m.functions (get_or os i 0) e l (subst (λ (fs : List (Function × Span)). e ≡ get_or fs (get_or os i 0) e) c.as_slice-functions.ensures c.index-functions-place.is) in
    turn_import m c.loop-place.derived os i e c.requires.source c.loop-place.invariant.source (order_value m os c.requires.order) c.loop-place-test.true at c.loop-place.invariant.known

pub loop-place-preserved : goal.loop-place-preserved
loop-place-preserved c =
    let m = c.args.source.now in
    let v = value_of m in
    let os = c.args.order.now in
    let i = c.loop-place.place-index in
    let x = c.index-functions-place.result in
    let d = c.loop-place.derived in
    let e = c.import_function.new.self in
    let keeps = c.import_function.ensures.keeps in
    let imported = c.in_ok-import_function.ensures.value in
    let own = c.loop-place.invariant.source in
    let l = order_within (function_values m.functions) os (length m.functions) c.requires.order (sym (length-map m.functions seen)) i 0 (omega (arith, c.loop-place-test.true)) in
    let stands = entry_of m.functions (get_or os i 0) x l (subst (λ (fs : List (Function × Span)). x ≡ get_or fs (get_or os i 0) x) c.as_slice-functions.ensures c.index-functions-place.is) in
    let at = value_entry m (get_or os i 0) x stands in
    let named = function_named m (get_or os i 0) x stands c.requires.source.names.named in
    record {
      source = source_kept v d e keeps own;
      value = in_turn_more v (set_source c.args.derived.now v 0) d e os i (seen x) c.loop-place-test.true c.loop-place.invariant.value at imported;
      known = known_more v d e os i (seen x) c.loop-place-test.true c.loop-place.invariant.known at keeps own named imported;
    }

pub returns-clause-entries : goal.returns-clause-entries
returns-clause-entries c =
    let m = c.args.source.now in
    let os = c.args.order.now in
    let d = c.loop-place.derived in
    let known = subst (λ (ks : List ℕ). AreKnown (value_of m) ks d) (take_all c.loop-place.place-index os c.loop-place-test.false) c.loop-place.invariant.known in
    turn_entries m d os c.requires.source c.loop-place.invariant.source (order_value m os c.requires.order) known
