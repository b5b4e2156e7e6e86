use Rattle.std.proofs.Common.{◌≡◌, ◌++◌, ◌∷◌, ◌∙◌, List, [], ap, sym, map, fold, length, refl, arith}
use Rattle.std.proofs.lemmas.Bool.Decides.{nat_tests}
use Rattle.std.specs.List.{flat_map}
use Rattle.std.specs.Vec.Iter.{into_iter_items}
use Rattle.naga_oil_ir.specs.ModuleValue.{entry_value}
use Rattle.naga_oil_words.specs.Texts.{with_name, texts}
use Rattle.naga_oil_link.specs.Owned.{demoted, function_names, function_values}
use Rattle.naga_oil_link.proofs.OwnedLemmas.{demoted-last, demoted-more, demoted-noted, demoted-in_order}
use Rattle.naga_oil_link.proofs.items.demote_all.Goals as goal

none : {X : Type 0} (xs : List X) → length xs ≡ 0 → xs ≡ []
none [] e = refl
none (x ∷ xs) e = absurd (omega arith)

pub returns-then-is_empty-clause-functions : goal.returns-then-is_empty-clause-functions
returns-then-is_empty-clause-functions c =
    let f = demoted c.args.decoration.now (function_names (function_values c.args.functions.now)) in
    let no_entry : length c.args.entry_points.items ≡ 0 = grind (arith, nat_tests) in
    demoted-last f (function_values c.args.functions.now) (map entry_value c.args.entry_points.items) (ap (map entry_value) (none _ no_entry))

pub returns-then-is_empty-clause-owned : goal.returns-then-is_empty-clause-owned
returns-then-is_empty-clause-owned c =
    let f = demoted c.args.decoration.now (function_names (function_values c.args.functions.now)) in
    let no_entry : length c.args.entry_points.items ≡ 0 = grind (arith, nat_tests) in
    sym (ap (λ es. fold with_name (texts c.args.owned.now.keys) (function_names (flat_map f (map entry_value es)))) (none _ no_entry))

pub loop-entry_point-init : goal.loop-entry_point-init
loop-entry_point-init c =
    let all = c.into_iter-entry_point-iterator.ensures.into_iter_gives.0 in
    let f = demoted c.args.decoration.now (texts c.in_ok-names.names.keys) in
    record {
      same = c.into_iter-entry_point-iterator.ensures.into_iter_gives.1 ∙ c.args.entry_points.ok.0 ∙ ap length (sym all);
      functions = ap (λ es. function_values c.args.functions.now ++ flat_map f (map entry_value es)) all;
      owned = ap (λ es. fold with_name (texts c.args.owned.now.keys) (function_names (flat_map f (map entry_value es)))) all;
    }

pub loop-entry_point-preserved : goal.loop-entry_point-preserved
loop-entry_point-preserved c =
    let kept = c.loop-entry_point.invariant in
    let steps = c.in-Some.ensures.steps in
    let fewer = ap length steps.0 in
    let f = demoted c.args.decoration.now (texts c.in_ok-names.names.keys) in
    record {
      same = omega (arith, steps.1, fewer, kept.same);
      functions = demoted-more f _ _ _ _ _ (ap (map entry_value) steps.0) c.in_ok-demote_one.ensures.functions ∙ kept.functions;
      owned = demoted-noted f _ _ _ _ _ (ap (map entry_value) steps.0) c.in_ok-demote_one.ensures.owned ∙ kept.owned;
    }

pub returns-clause-functions : goal.returns-clause-functions
returns-clause-functions c =
    let names = function_names (function_values c.args.functions.now) in
    let es = map entry_value c.args.entry_points.items in
    let ended : length (into_iter_items c.loop-entry_point.entry_point-iterator) ≡ 0 = omega (arith, c.in-None.ensures.steps.0, c.loop-entry_point.invariant.same) in
    demoted-last (demoted c.args.decoration.now (texts c.in_ok-names.names.keys)) (function_values c.loop-entry_point.functions) (map entry_value (into_iter_items c.loop-entry_point.entry_point-iterator)) (ap (map entry_value) (none _ ended))
    ∙ c.loop-entry_point.invariant.functions
    ∙ ap (λ ns. function_values c.args.functions.now ++ flat_map (demoted c.args.decoration.now ns) es) c.in_ok-names.ensures
    ∙ ap (λ fs. function_values c.args.functions.now ++ fs) (demoted-in_order c.args.decoration.now names es)

pub returns-clause-owned : goal.returns-clause-owned
returns-clause-owned c =
    let names = function_names (function_values c.args.functions.now) in
    let es = map entry_value c.args.entry_points.items in
    let ended : length (into_iter_items c.loop-entry_point.entry_point-iterator) ≡ 0 = omega (arith, c.in-None.ensures.steps.0, c.loop-entry_point.invariant.same) in
    sym (ap (λ xs. fold with_name (texts c.loop-entry_point.owned.keys) (function_names (flat_map (demoted c.args.decoration.now (texts c.in_ok-names.names.keys)) (map entry_value xs)))) (none _ ended))
    ∙ c.loop-entry_point.invariant.owned
    ∙ ap (λ ns. fold with_name (texts c.args.owned.now.keys) (function_names (flat_map (demoted c.args.decoration.now ns) es))) c.in_ok-names.ensures
    ∙ ap (λ fs. fold with_name (texts c.args.owned.now.keys) (function_names fs)) (demoted-in_order c.args.decoration.now names es)
