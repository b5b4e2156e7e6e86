use Rattle.std.proofs.Common.{◌≡◌, ℕ, [], ◌∷◌, fold, slice_get, refl, ap, ◌∙◌}
use Rattle.std.proofs.lemmas.Map.Iter.{rest_more, rest_all}
use Rattle.std.specs.List.{flat_map}
use Rattle.naga_oil_ir.specs.ModuleValue.{FunctionValue, module_value}
use Rattle.naga_oil_ir.specs.declared.span.Span.{Span}
use Rattle.naga_oil_derive.specs.Derived.{Derived}
use Rattle.naga_oil_words.specs.Texts.{texts, is_among}
use Rattle.naga_oil_link.specs.BuiltModule.{built_of}
use Rattle.naga_oil_link.specs.ByName.{names_of_functions, places_named, with_places}
use Rattle.naga_oil_link.specs.Linked.{asked_names, passes, is_wanted_function, link_function}
use Rattle.naga_oil_link.specs.LinkView.{link_own_function}
use Rattle.naga_oil_link.specs.declared.link.Linker.{Linker}
use Rattle.naga_oil_link.proofs.ByNameLemmas.{functions_wanted}
use Rattle.naga_oil_link.proofs.NamesLemmas.{all_among}
use Rattle.naga_oil_link.proofs.LinkedLemmas.{fold_step, fold_end, folded_where}
use Rattle.naga_oil_link.proofs.link.Linker.link_functions.Goals as goal

pub loop-at-init : goal.loop-at-init
loop-at-init c = record { among = all_among _ _ c.iter-next.ensures.rest c.iter-next.ensures.found; source = c.requires.source; value = refl; rest = refl }

pub link_function-requires-clause-copies : goal.link_function-requires-clause-copies
link_function-requires-clause-copies c = c.loop-at.invariant.source

pub link_function-requires-clause-among : goal.link_function-requires-clause-among
link_function-requires-clause-among c = c.loop-at.invariant.among

pub loop-at-preserved : goal.loop-at-preserved
loop-at-preserved c =
    let b = built_of c.args.of.of.now in
    let fs = (module_value c.args.of.from.now).functions in
    let k = c.in-Some.at.now in
    let next : c.loop-at.at-iterator ≡ k ∷ c.next.new.self = rest_more (λ x. x.now) _ _ _ _ c.in-Some.is c.next.ensures.steps in
    record {
      among = c.link_function.ensures.among;
      source = c.link_function.ensures.source;
      value = fold_step (λ (e : Derived) (k : ℕ). link_own_function b e (slice_get fs k)) c.loop-at.self.derived c.link_function.new.into k c.next.new.self c.loop-at.at-iterator _ next c.in_ok-link_function.ensures.value c.loop-at.invariant.value;
      rest = ap (λ (s : Linker). record s { derived = c.link_function.new.into }) c.loop-at.invariant.rest;
    }

pub returns-clause-value : goal.returns-clause-value
returns-clause-value c =
    let b = built_of c.args.of.of.now in
    let from = c.args.of.from.now in
    let m = module_value from in
    let d = c.args.self.now.derived in
    let asked = asked_names c.args.asked in
    let none : c.loop-at.at-iterator ≡ [] = rest_all (λ x. x.now) _ _ _ c.in-None.is c.next.ensures.steps in
    let names = names_of_functions m in
    let others = texts c.in_ok-overriding.overriding.keys in
    let wanted = c.in_ok-add_named.ensures ∙ ap (λ ks. with_places ks (flat_map (places_named names) others)) c.in_ok-places.ensures ∙ functions_wanted b asked names others c.in_ok-overriding.ensures in
    let keys = c.into_iter-at-iterator.ensures.into_iter_gives ∙ c.iter-at-items.ensures.rest ∙ wanted in
    fold_end _ c.loop-at.self.derived c.loop-at.at-iterator _ none c.loop-at.invariant.value
    ∙ ap (fold (λ (e : Derived) (k : ℕ). link_own_function b e (slice_get m.functions k)) d) keys
    ∙ folded_where (λ (f : FunctionValue × Span). passes (is_among b.functions) f.0.name) link_function (λ (f : FunctionValue × Span). f.0.name) (is_wanted_function b asked) m.functions d
