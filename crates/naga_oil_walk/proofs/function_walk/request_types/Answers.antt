use Rattle.std.proofs.Common.{◌≡◌, ◌∙◌, ◌++◌, List, Option, Some, None, map, option_map, option_to_list, ap, sym}
use Rattle.std.proofs.lemmas.List.{append_assoc, append-nil, take_all}
use Rattle.naga_oil_ir.specs.declared.module.FunctionArgument.{FunctionArgument}
use Rattle.naga_oil_ir.specs.declared.module.FunctionResult.{FunctionResult}
use Rattle.naga_oil_ir.specs.declared.names.ItemPlace.TheVariants.{TypeItem}
use Rattle.naga_oil_walk.specs.declared.walk.Request.{Request}
use Rattle.naga_oil_walk.specs.declared.walk.Request.TheVariants.{Item}
use Rattle.naga_oil_walk.proofs.OptionLemmas.{none_if}
use Rattle.naga_oil_walk.proofs.function_walk.request_types.Goals as goal

abbrev asked : List FunctionArgument → List Request
asked xs = map (λ a. Item (TypeItem a.ty)) xs

-- the types of arguments, and then of the result
both : (s t u : List Request) (f : List FunctionArgument) (o q : Option FunctionResult) → t ≡ s ++ asked f → o ≡ q → u ≡ t ++ option_to_list (option_map (λ (r : FunctionResult). Item (TypeItem r.ty)) o) → u ≡ s ++ (asked f ++ option_to_list (option_map (λ (r : FunctionResult). Item (TypeItem r.ty)) q))
both s t u f o q e is g =
    let rest = λ (x : Option FunctionResult). option_to_list (option_map (λ (r : FunctionResult). Item (TypeItem r.ty)) x) in
    g ∙ ap (λ (x : Option FunctionResult). t ++ rest x) is ∙ ap (λ (xs : List Request). xs ++ rest q) e ∙ append_assoc s (asked f) (rest q)

pub returns-in_ok-push-2 : goal.returns-in_ok-push-2
returns-in_ok-push-2 c =
    let f = c.args.function.now in
    let s = c.args.requests.now.items in
    let xs = c.deref-argument-items.result.now in
    let all = take_all c.loop-argument.argument-index xs c.loop-argument-test.false ∙ c.deref-argument-items.ensures.value in
    both s c.loop-argument.requests.items c.push-in-Some.new.self.items f.arguments.items (Some c.in-Some.outcome) f.result (c.loop-argument.invariant ∙ ap (λ (ys : List FunctionArgument). s ++ asked ys) all) (sym c.in-Some.is) c.in_ok-push-2.ensures.items

pub returns-in_default : goal.returns-in_default
returns-in_default c =
    let f = c.args.function.now in
    let s = c.args.requests.now.items in
    let t = c.loop-argument.requests.items in
    let xs = c.deref-argument-items.result.now in
    let all = take_all c.loop-argument.argument-index xs c.loop-argument-test.false ∙ c.deref-argument-items.ensures.value in
    both s t t f.arguments.items None f.result (c.loop-argument.invariant ∙ ap (λ (ys : List FunctionArgument). s ++ asked ys) all) (sym (none_if f.result c.in_default.not-Some)) (sym (append-nil t))
