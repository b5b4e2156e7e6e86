use Rattle.std.proofs.Common.{◌≡◌, ◌∙◌, ◌+◌, [], List, Ok, map, drop, sym, ap, subst, refl, false, true, rules, arith}
use Rattle.std.specs.Arc.{arc_value}
use Rattle.std.proofs.Math.ListN.{drop_of_length-le}
use Rattle.naga_oil_imports.specs.Uses.{use_of, import_of}
use Rattle.naga_oil_imports.specs.declared.import_definition.ImportDefWithOffset.{ImportDefWithOffset}
use Rattle.naga_oil_imports.specs.declared.import_definition.ImportDefinition.{ImportDefinition}
use Rattle.naga_oil_pre.specs.KnownView.{output_of}
use Rattle.naga_oil_registry.specs.Registered.{definition_of}
use Rattle.naga_oil_link.specs.BuiltModule.{Builds, built_of, builds_of}
use Rattle.naga_oil.specs.MakeView.{settings_by, defs_in, builds_in, kept_in, modules_in, rule_of, unreached_of, Reaches}
use Rattle.naga_oil.specs.Outcome.{Outcome}
use Rattle.naga_oil.specs.Reach.{Unreached, is_built, builds_with, reach, reach_each}
use Rattle.naga_oil.specs.StoreLaw.{reach_imports}
use Rattle.naga_oil.specs.StoreView.{key_of}
use Rattle.naga_oil.specs.declared.compose.reach.Unreached.{Unreached as CodeUnreached}
use Rattle.naga_oil.proofs.EnsureLemmas.{reaching_from, more_on, keeps_more, AtUse, use_refused, use_allowed, use_ended, use_reached, AtImport, import_ended, import_reached, imports_over, HasKept, reached_kept, kept_unreached, HasRead, uses_unreached, module_entered, module_kept}
use Rattle.naga_oil.proofs.KeepsLemmas.{keeps_kept, nothing_wrong}
use Rattle.naga_oil.proofs.PlacesLemmas.{few_modules, none_from, first_from, next_import}
use Rattle.naga_oil.proofs.ReachLemmas.{built_found, built_before, as_missing, ends, module_unread, each_none, next_use}
use Rattle.naga_oil.proofs.StoreReachLemmas.{stands_at}
use Rattle.naga_oil.proofs.StoreStepLemmas.{kept_reached}
use Rattle.naga_oil.proofs.compose.make.Maker.+ensure.Goals as goal

pub ensure-returns-then-contains_key-clause-reached : goal.ensure-returns-then-contains_key-clause-reached
ensure-returns-then-contains_key-clause-reached g t c =
    let m = c.args.self.now in
    let name = c.args.name.now in
    let there : is_built (builds_in m) name ≡ true = sym (built_found _ name (λ a. refl) m.builder.builds.entries) ∙ sym c.contains_key.ensures ∙ c.if-contains_key.true in
    built_before (reach (settings_by g.B.Backend.front m) (defs_in m) (drop c.args.from (modules_in m))) name (builds_in m) there

pub ensure-returns-in_default-clause-reached : goal.ensure-returns-in_default-clause-reached
ensure-returns-in_default-clause-reached g t c =
    let m = c.args.self.now in
    let name = c.args.name.now in
    let absent : is_built (builds_in m) name ≡ false = sym (built_found _ name (λ a. refl) m.builder.builds.entries) ∙ sym c.contains_key.ensures ∙ c.if-contains_key.false in
    as_missing c.missing.result name 0 _ (none_from (settings_by g.B.Backend.front m) (defs_in m) name (builds_in m) absent (modules_in m) c.args.from c.in_default.ensures.none) c.missing.ensures

pub ensure-returns-in-Some-2-clause-reached : goal.ensure-returns-in-Some-2-clause-reached
ensure-returns-in-Some-2-clause-reached g t c =
    let m = c.args.self.now in
    let name = c.args.name.now in
    let absent : is_built (builds_in m) name ≡ false = sym (built_found _ name (λ a. refl) m.builder.builds.entries) ∙ sym c.contains_key.ensures ∙ c.if-contains_key.false in
    let first = first_from (settings_by g.B.Backend.front m) (defs_in m) name (builds_in m) absent (modules_in m) c.args.from c.in-Some.place (definition_of c.in-Some.of.now) c.in-Some.ensures.place c.in-Some.ensures.some in
    subst (λ (v : Outcome (Unit {0}) Unreached). Reaches (λ done. done) c.ensure_kept.result c.ensure_kept.new.self v) (sym first) c.ensure_kept.ensures.reached

pub ensure-returns-in-None-clause-reached : goal.ensure-returns-in-None-clause-reached
ensure-returns-in-None-clause-reached g t c =
    let m = c.args.self.now in
    let name = c.args.name.now in
    let absent : is_built (builds_in m) name ≡ false = sym (built_found _ name (λ a. refl) m.builder.builds.entries) ∙ sym c.contains_key.ensures ∙ c.if-contains_key.false in
    let first = first_from (settings_by g.B.Backend.front m) (defs_in m) name (builds_in m) absent (modules_in m) c.args.from c.in-Some.place (definition_of c.in-Some.of.now) c.in-Some.ensures.place c.in-Some.ensures.some in
    subst (λ (v : Outcome (Unit {0}) Unreached). Reaches (λ done. done) c.ensure_built.result c.ensure_built.new.self v) (sym first) c.ensure_built.ensures.reached

pub ensure_each-loop-import-preserved : goal.ensure_each-loop-import-preserved
ensure_each-loop-import-preserved g t c =
    let i = c.loop-import.import-index in
    let x = c.import-item.result in
    let inv = c.loop-import.invariant in
    let at : AtUse g.B.Backend.front c.args.self.now c.loop-import.self c.args.rule c.args.from c.args.uses.now i x = record { next = next_use c.args.uses.now i x c.loop-import-test.true c.import-item.is; rest = inv.rest; reached = inv.reached } in
    let called : c.as_str.result.now ≡ (use_of x).import.import = c.as_str.ensures.value ∙ ap (λ i. i.import) c.definition.ensures in
    record {
      rest = more_on c.args.self.now c.loop-import.self c.ensure.new.self inv.rest c.ensure.ensures.rest;
      reached = use_reached at (use_allowed at c.refuse.result c.in_default.is c.refuse.ensures) c.as_str.result.now called c.ensure.new.self c.in_ok-ensure.ensures.reached;
      keeps = keeps_more g.B.Backend.front c.args.self.now c.loop-import.self c.ensure.new.self (nothing_wrong CodeUnreached) inv.rest inv.keeps c.in_ok-ensure.ensures.keeps;
    }

pub ensure_each-returns-in-Some-clause-reached : goal.ensure_each-returns-in-Some-clause-reached
ensure_each-returns-in-Some-clause-reached g t c =
    let i = c.loop-import.import-index in
    let x = c.import-item.result in
    let inv = c.loop-import.invariant in
    let at : AtUse g.B.Backend.front c.args.self.now c.loop-import.self c.args.rule c.args.from c.args.uses.now i x = record { next = next_use c.args.uses.now i x c.loop-import-test.true c.import-item.is; rest = inv.rest; reached = inv.reached } in
    use_refused at c.in-Some.why c.in-Some.ensures

pub ensure_each-returns-in_err-ensure-clause-reached : goal.ensure_each-returns-in_err-ensure-clause-reached
ensure_each-returns-in_err-ensure-clause-reached g t c =
    let i = c.loop-import.import-index in
    let x = c.import-item.result in
    let inv = c.loop-import.invariant in
    let at : AtUse g.B.Backend.front c.args.self.now c.loop-import.self c.args.rule c.args.from c.args.uses.now i x = record { next = next_use c.args.uses.now i x c.loop-import-test.true c.import-item.is; rest = inv.rest; reached = inv.reached } in
    let called : c.as_str.result.now ≡ (use_of x).import.import = c.as_str.ensures.value ∙ ap (λ i. i.import) c.definition.ensures in
    let may = use_allowed at c.refuse.result c.in_default.is c.refuse.ensures in
    ends (λ done. done) (λ done. done) unreached_of c.in_err-ensure.field-0.0 c.from_residual.result (builds_in c.ensure.new.self) _ _ (λ w h. use_ended at may c.as_str.result.now called c.ensure.new.self w h) c.in_err-ensure.ensures.reached c.from_residual.ensures.1

pub ensure_each-returns-clause-reached : goal.ensure_each-returns-clause-reached
ensure_each-returns-clause-reached g t c =
    let m = c.args.self.now in
    let mid = builds_in c.loop-import.self in
    let rule = rule_of (modules_in m) (defs_in m) c.args.rule in
    let reaching = reaching_from g.B.Backend.front m c.args.from in
    let none : drop c.loop-import.import-index c.args.uses.now ≡ [] = drop_of_length-le c.args.uses.now (omega arith) in
    sym c.loop-import.invariant.reached ∙ ap (λ (js : List ImportDefWithOffset). reach_each rule reaching (map use_of js) mid) none ∙ each_none rule reaching mid

pub ensure_built-overflow_add-place : goal.ensure_built-overflow_add-place
ensure_built-overflow_add-place g t c =
    let few = few_modules c.args.self.now.modules.now c.requires.ready.registry in
    let within = c.requires.ready.within in
    omega (arith, few, within)

pub ensure_built-returns-in_err-output-clause-reached : goal.ensure_built-returns-in_err-output-clause-reached
ensure_built-returns-in_err-output-clause-reached g t c =
    let m = c.args.self.now in
    let d = definition_of c.args.of.now in
    let reaching = reaching_from g.B.Backend.front m (c.args.place + 1) in
    ends output_of (λ done. done) unreached_of c.in_err-output.field-0.0 c.from_residual.result (builds_in m) _ _ (λ w h. module_unread (settings_by g.B.Backend.front m) (defs_in m) d reaching (builds_in m) w h) c.in_err-output.ensures c.from_residual.ensures.1

pub ensure_built-returns-in_err-ensure_each-clause-reached : goal.ensure_built-returns-in_err-ensure_each-clause-reached
ensure_built-returns-in_err-ensure_each-clause-reached g t c =
    let n = c.ensure_each.new.self in
    let read : HasRead c.args.self.now (definition_of c.args.of.now) (output_of c.in_ok-output.output) (map use_of c.deref.result.now) = record { read = c.in_ok-output.ensures; uses = ap (λ (is : List ImportDefWithOffset). map use_of is) c.deref.ensures.value } in
    ends (λ done. done) (λ done. done) unreached_of c.in_err-ensure_each.field-0.0 c.from_residual-in_err-ensure_each.result (builds_in n) _ _ (λ w h. uses_unreached g.B.Backend.front c.args.place read n w h) c.in_err-ensure_each.ensures.reached c.from_residual-in_err-ensure_each.ensures.1

pub ensure_built-enter_build-requires : goal.ensure_built-enter_build-requires
ensure_built-enter_build-requires g t c = (stands_at c.args.self.now.modules.now c.args.place (definition_of c.args.of.now) c.requires.ready.registry c.requires.at).follows.small

pub ensure_built-returns-clause-reached : goal.ensure_built-returns-clause-reached
ensure_built-returns-clause-reached g t c =
    let read : HasRead c.args.self.now (definition_of c.args.of.now) (output_of c.in_ok-output.output) (map use_of c.deref.result.now) = record { read = c.in_ok-output.ensures; uses = ap (λ (is : List ImportDefWithOffset). map use_of is) c.deref.ensures.value } in
    module_entered g.B.Backend.front c.args.place read c.ensure_each.new.self c.in_ok-ensure_each.ensures.reached c.ensure_each.ensures.rest c.enter_build.result c.enter_build.new.self c.enter_build.ensures.entered

pub ensure_built-returns-clause-keeps : goal.ensure_built-returns-clause-keeps
ensure_built-returns-clause-keeps g t c =
    let read : HasRead c.args.self.now (definition_of c.args.of.now) (output_of c.in_ok-output.output) (map use_of c.deref.result.now) = record { read = c.in_ok-output.ensures; uses = ap (λ (is : List ImportDefWithOffset). map use_of is) c.deref.ensures.value } in
    module_kept g.B.Backend.front c.args.place read c.ensure_each.new.self c.in_ok-ensure_each.ensures.reached c.ensure_each.ensures.rest c.enter_build.result c.enter_build.new.self c.enter_build.ensures.entered
    (key_of c.args.key) c.requires.key c.requires.ready c.requires.at c.in_ok-ensure_each.ensures.keeps c.enter_build.ensures.kept c.enter_build.ensures.refused

pub ensure_kept-overflow_add-place : goal.ensure_kept-overflow_add-place
ensure_kept-overflow_add-place g t c =
    let few = few_modules c.args.self.now.modules.now c.requires.ready.registry in
    let within = c.requires.ready.within in
    omega (arith, few, within)

pub ensure_kept-loop-import-preserved : goal.ensure_kept-loop-import-preserved
ensure_kept-loop-import-preserved g t c =
    let us = c.as_slice-imports.result.now in
    let i = c.loop-import.import-index in
    let x = c.import-item.result in
    let inv = c.loop-import.invariant in
    let at : AtImport g.B.Backend.front c.args.self.now c.loop-import.self (c.args.place + 1) us i x = record { next = next_import us i x c.loop-import-test.true c.import-item.is; rest = inv.rest; reached = inv.reached } in
    record {
      rest = more_on c.args.self.now c.loop-import.self c.ensure.new.self inv.rest c.ensure.ensures.rest;
      reached = import_reached at c.as_str.result.now c.as_str.ensures.value c.ensure.new.self c.in_ok-ensure.ensures.reached;
      keeps = keeps_more g.B.Backend.front c.args.self.now c.loop-import.self c.ensure.new.self (nothing_wrong CodeUnreached) inv.rest inv.keeps c.in_ok-ensure.ensures.keeps;
    }

pub ensure_kept-returns-in_err-ensure-clause-reached : goal.ensure_kept-returns-in_err-ensure-clause-reached
ensure_kept-returns-in_err-ensure-clause-reached g t c =
    let m = c.args.self.now in
    let b = built_of (arc_value c.args.kept) in
    let us = c.as_slice-imports.result.now in
    let i = c.loop-import.import-index in
    let x = c.import-item.result in
    let inv = c.loop-import.invariant in
    let new = c.ensure.new.self in
    let kept : HasKept g.B.Backend.front m c.args.place (definition_of c.args.of.now) b = record { ready = c.requires.ready; at = c.requires.at; found = c.requires.found } in
    let at : AtImport g.B.Backend.front m c.loop-import.self (c.args.place + 1) us i x = record { next = next_import us i x c.loop-import-test.true c.import-item.is; rest = inv.rest; reached = inv.reached } in
    let same : us ≡ (arc_value c.args.kept).imports.items = search rules in
    let begun = ap (λ (js : List ImportDefinition). reach_imports (reaching_from g.B.Backend.front m (c.args.place + 1)) (map import_of js) (builds_in m)) (sym same) in
    ends (λ done. done) (λ done. done) unreached_of c.in_err-ensure.field-0.0 c.from_residual.result (builds_in new) _ _ (λ w h. kept_unreached kept new w (begun ∙ import_ended at c.as_str.result.now c.as_str.ensures.value new w h)) c.in_err-ensure.ensures.reached c.from_residual.ensures.1

pub ensure_kept-returns-clause-reached : goal.ensure_kept-returns-clause-reached
ensure_kept-returns-clause-reached g t c =
    let m = c.args.self.now in
    let d = definition_of c.args.of.now in
    let b = built_of (arc_value c.args.kept) in
    let reaching = reaching_from g.B.Backend.front m (c.args.place + 1) in
    let us = c.as_slice-imports.result.now in
    let mid = builds_in c.loop-import.self in
    let kept : HasKept g.B.Backend.front m c.args.place d b = record { ready = c.requires.ready; at = c.requires.at; found = c.requires.found } in
    let same : us ≡ (arc_value c.args.kept).imports.items = search rules in
    let none : drop c.loop-import.import-index us ≡ [] = drop_of_length-le us (omega arith) in
    let imported = imports_over reaching (builds_in m) mid us c.loop-import.import-index (arc_value c.args.kept).imports.items same none c.loop-import.invariant.reached in
    let grown = c.in_ok-enter.ensures.ok ∙ ap (λ n. builds_with mid n b) c.as_str-name.ensures.value in
    reached_kept kept ∙ kept_reached reaching d.name b (builds_in m) mid imported ∙ ap (λ (bs : Builds). record { builds = bs; result = Ok tt }) (sym grown)

pub ensure_kept-returns-clause-keeps : goal.ensure_kept-returns-clause-keeps
ensure_kept-returns-clause-keeps g t c =
    let m = c.args.self.now in
    let d = definition_of c.args.of.now in
    let b = built_of (arc_value c.args.kept) in
    let reaching = reaching_from g.B.Backend.front m (c.args.place + 1) in
    let us = c.as_slice-imports.result.now in
    let m0 = c.loop-import.self in
    let mid = builds_in m0 in
    let same : us ≡ (arc_value c.args.kept).imports.items = search rules in
    let none : drop c.loop-import.import-index us ≡ [] = drop_of_length-le us (omega arith) in
    let imported = imports_over reaching (builds_in m) mid us c.loop-import.import-index (arc_value c.args.kept).imports.items same none c.loop-import.invariant.reached in
    let grown = c.in_ok-enter.ensures.ok ∙ ap (λ n. builds_with mid n b) c.as_str-name.ensures.value in
    keeps_kept (settings_by g.B.Backend.front m) (modules_in m) (defs_in m) c.requires.ready.registry c.args.place d c.requires.at (builds_in m) mid (kept_in m) (kept_in m0) b (builds_of c.enter.new.builds) c.requires.ready.stand c.requires.found imported c.loop-import.invariant.keeps grown
