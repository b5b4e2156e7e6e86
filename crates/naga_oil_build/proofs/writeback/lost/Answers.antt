use Rattle.std.proofs.Common.{map, refl, sym, ap, ◌∙◌}
use Rattle.std.proofs.lemmas.List.{take-map}
use Rattle.naga_oil_ir.specs.ModuleValue.{module_value, function_value}
use Rattle.naga_oil_link.specs.Owned.{function_values}
use Rattle.naga_oil_build.specs.Writeback.{named_functions}
use Rattle.naga_oil_link.specs.BuiltModule.{built_of}
use Rattle.naga_oil_link.specs.OwnPlaces.{own_of}
use Rattle.naga_oil_words.specs.Texts.{texts}
use Rattle.naga_oil_build.specs.WritebackView.{named_of}
use Rattle.naga_oil_build.proofs.WritebackLemmas.{seen, same_value, same_among, some_first, none_first, lost-is}
use Rattle.naga_oil_build.proofs.writeback.lost.Goals as goal

pub returns-then-is_some : goal.returns-then-is_some
returns-then-is_some c =
    let types = c.in_ok-lost.ensures ∙ same_among (texts c.args.built.now.owned_types.keys) c.as_str-decoration.ensures.value (ap (map named_of) c.deref-2.ensures.value ∙ c.in_ok-theirs.ensures) (ap (map named_of) c.deref.ensures.value ∙ c.in_ok-ours.ensures) in
    some_first c.in_ok-lost.lost _ _ types (sym c.is_some.ensures ∙ c.if-is_some.true)
    ∙ sym (lost-is (module_value c.args.source.now) (own_of c.args.own.now) (module_value c.args.back.now) (built_of c.args.built.now) c.args.functions)

pub returns-then-is_some-2 : goal.returns-then-is_some-2
returns-then-is_some-2 c =
    let types = c.in_ok-lost.ensures ∙ same_among (texts c.args.built.now.owned_types.keys) c.as_str-decoration.ensures.value (ap (map named_of) c.deref-2.ensures.value ∙ c.in_ok-theirs.ensures) (ap (map named_of) c.deref.ensures.value ∙ c.in_ok-ours.ensures) in
    let constants = c.in_ok-lost-2.ensures ∙ same_among (texts c.args.built.now.owned_constants.keys) refl (ap (map named_of) c.deref-4.ensures.value ∙ c.in_ok-theirs-2.ensures) (ap (map named_of) c.deref-3.ensures.value ∙ c.in_ok-ours-2.ensures) in
    some_first c.in_ok-lost-2.lost _ _ constants (sym c.is_some-2.ensures ∙ c.if-is_some-2.true)
    ∙ none_first c.in_ok-lost.lost _ _ types (sym c.is_some.ensures ∙ c.if-is_some.false)
    ∙ sym (lost-is (module_value c.args.source.now) (own_of c.args.own.now) (module_value c.args.back.now) (built_of c.args.built.now) c.args.functions)

pub returns-then-is_some-3 : goal.returns-then-is_some-3
returns-then-is_some-3 c =
    let types = c.in_ok-lost.ensures ∙ same_among (texts c.args.built.now.owned_types.keys) c.as_str-decoration.ensures.value (ap (map named_of) c.deref-2.ensures.value ∙ c.in_ok-theirs.ensures) (ap (map named_of) c.deref.ensures.value ∙ c.in_ok-ours.ensures) in
    let constants = c.in_ok-lost-2.ensures ∙ same_among (texts c.args.built.now.owned_constants.keys) refl (ap (map named_of) c.deref-4.ensures.value ∙ c.in_ok-theirs-2.ensures) (ap (map named_of) c.deref-3.ensures.value ∙ c.in_ok-ours-2.ensures) in
    let globals = c.in_ok-lost-3.ensures ∙ same_among (texts c.args.built.now.owned_vars.keys) refl (ap (map named_of) c.deref-6.ensures.value ∙ c.in_ok-theirs-3.ensures) (ap (map named_of) c.deref-5.ensures.value ∙ c.in_ok-ours-3.ensures) in
    some_first c.in_ok-lost-3.lost _ _ globals (sym c.is_some-3.ensures ∙ c.if-is_some-3.true)
    ∙ none_first c.in_ok-lost-2.lost _ _ constants (sym c.is_some-2.ensures ∙ c.if-is_some-2.false)
    ∙ none_first c.in_ok-lost.lost _ _ types (sym c.is_some.ensures ∙ c.if-is_some.false)
    ∙ sym (lost-is (module_value c.args.source.now) (own_of c.args.own.now) (module_value c.args.back.now) (built_of c.args.built.now) c.args.functions)

pub returns : goal.returns
returns c =
    let types = c.in_ok-lost.ensures ∙ same_among (texts c.args.built.now.owned_types.keys) c.as_str-decoration.ensures.value (ap (map named_of) c.deref-2.ensures.value ∙ c.in_ok-theirs.ensures) (ap (map named_of) c.deref.ensures.value ∙ c.in_ok-ours.ensures) in
    let constants = c.in_ok-lost-2.ensures ∙ same_among (texts c.args.built.now.owned_constants.keys) refl (ap (map named_of) c.deref-4.ensures.value ∙ c.in_ok-theirs-2.ensures) (ap (map named_of) c.deref-3.ensures.value ∙ c.in_ok-ours-2.ensures) in
    let globals = c.in_ok-lost-3.ensures ∙ same_among (texts c.args.built.now.owned_vars.keys) refl (ap (map named_of) c.deref-6.ensures.value ∙ c.in_ok-theirs-3.ensures) (ap (map named_of) c.deref-5.ensures.value ∙ c.in_ok-ours-3.ensures) in
    let all = c.args.source.now.functions in
    let first = ap (λ fs. named_functions (function_values fs)) c.first_functions-ours.ensures ∙ ap named_functions (sym (take-map (λ e. (function_value e.0, e.1)) c.args.functions all)) in
    let functions = same_among (texts c.args.built.now.owned_functions.keys) refl (ap (map named_of) c.deref-7.ensures.value ∙ c.in_ok-theirs-4.ensures) first in
    let told = functions ∙ none_first c.in_ok-lost-3.lost _ _ globals (sym c.is_some-3.ensures ∙ c.if-is_some-3.false) ∙ none_first c.in_ok-lost-2.lost _ _ constants (sym c.is_some-2.ensures ∙ c.if-is_some-2.false) ∙ none_first c.in_ok-lost.lost _ _ types (sym c.is_some.ensures ∙ c.if-is_some.false) in
    same_value seen c.lost_among_functions.result _ _ (told ∙ sym (lost-is (module_value c.args.source.now) (own_of c.args.own.now) (module_value c.args.back.now) (built_of c.args.built.now) c.args.functions)) c.lost_among_functions.ensures
