use Rattle.std.proofs.Common.{◌≡◌, ◌&&◌, ◌∷◌, true, false, map, sym, ap, ◌∙◌, bytes_eq, rules}
use Rattle.std.proofs.lemmas.Map.Iter.{rest_more}
use Rattle.std.specs.Cmp.Lexicographic.{pointwise}
use Rattle.std.specs.String.{string_bytes}
use Rattle.naga_oil_words.specs.Texts.{is_among}
use Rattle.naga_oil_registry.specs.Registered.{definition_of, defs_of}
use Rattle.naga_oil_registry.proofs.NamesLemmas.{among_texts}
use Rattle.naga_oil.specs.Store.{project, same_def}
use Rattle.naga_oil.specs.StoreView.{def_of, key_of}
use Rattle.naga_oil.proofs.StoreCodeLemmas.{depends, depends_not, and_refused, none_left}
use Rattle.naga_oil.proofs.compose.store.has_projection.Goals as goal

pub loop-name-preserved-then-not-contains : goal.loop-name-preserved-then-not-contains
loop-name-preserved-then-not-contains c =
    let d = definition_of c.args.of.now in
    let name = string_bytes c.in-Some.name.now in
    let value = c.in-Some.value.now in
    let kept = map def_of c.loop-name.kept.now in
    let step : c.loop-name.name-iterator ≡ (c.in-Some.name.now, value) ∷ c.next.new.self = rest_more (λ x. (x.0.now, x.1.now)) _ _ _ _ c.in-Some.is c.next.ensures.steps in
    let among : is_among d.effective name ≡ false = sym (ap (is_among d.effective) c.as_str.ensures.value) ∙ sym (among_texts c.args.of.now.effective_defs.keys c.as_str.result.now) ∙ sym c.contains.ensures ∙ c.if-not-contains.true in
    ap (λ es. pointwise same_def es kept) (sym (depends_not d (name, value) (map def_of c.next.new.self) among)) ∙ ap (λ es. pointwise same_def (project d (map def_of es)) kept) (sym step) ∙ c.loop-name.invariant

pub returns-in_default : goal.returns-in_default
returns-in_default c =
    let d = definition_of c.args.of.now in
    let key = key_of c.args.key.now in
    let defs = defs_of c.args.defs.now in
    let name = string_bytes c.in-Some.name.now in
    let value = c.in-Some.value.now in
    let step : c.loop-name.name-iterator ≡ (c.in-Some.name.now, value) ∷ c.next.new.self = rest_more (λ x. (x.0.now, x.1.now)) _ _ _ _ c.in-Some.is c.next.ensures.steps in
    let among : is_among d.effective name ≡ true = sym (ap (is_among d.effective) c.as_str.ensures.value) ∙ sym (among_texts c.args.of.now.effective_defs.keys c.as_str.result.now) ∙ sym c.contains.ensures ∙ c.if-not-contains.false in
    let none = none_left c.loop-name.kept.now (search rules) in
    let all = ap (λ es. pointwise same_def (project d (map def_of es)) (map def_of c.loop-name.kept.now)) step ∙ ap (λ es. pointwise same_def es (map def_of c.loop-name.kept.now)) (depends d (name, value) (map def_of c.next.new.self) among)
    ∙ ap (λ ks. pointwise same_def ((name, value) ∷ project d (map def_of c.next.new.self)) (map def_of ks)) none in
    and_refused (bytes_eq d.name key.name) (pointwise same_def (project d defs) key.defs) (sym c.loop-name.invariant ∙ all)

pub returns-then-not-defines : goal.returns-then-not-defines
returns-then-not-defines c =
    let d = definition_of c.args.of.now in
    let key = key_of c.args.key.now in
    let defs = defs_of c.args.defs.now in
    let name = string_bytes c.in-Some.name.now in
    let value = c.in-Some.value.now in
    let first = c.in-Some-split_first.first.now in
    let rest = c.in-Some-split_first.rest.now in
    let step : c.loop-name.name-iterator ≡ (c.in-Some.name.now, value) ∷ c.next.new.self = rest_more (λ x. (x.0.now, x.1.now)) _ _ _ _ c.in-Some.is c.next.ensures.steps in
    let among : is_among d.effective name ≡ true = sym (ap (is_among d.effective) c.as_str.ensures.value) ∙ sym (among_texts c.args.of.now.effective_defs.keys c.as_str.result.now) ∙ sym c.contains.ensures ∙ c.if-not-contains.false in
    let split : c.loop-name.kept.now ≡ first ∷ rest = search rules in
    let other : same_def (name, value) (def_of first) ≡ false = sym c.defines.ensures ∙ c.if-not-defines.true in
    let all = ap (λ es. pointwise same_def (project d (map def_of es)) (map def_of c.loop-name.kept.now)) step ∙ ap (λ es. pointwise same_def es (map def_of c.loop-name.kept.now)) (depends d (name, value) (map def_of c.next.new.self) among)
    ∙ ap (λ ks. pointwise same_def ((name, value) ∷ project d (map def_of c.next.new.self)) (map def_of ks)) split
    ∙ ap (λ q. q && pointwise same_def (project d (map def_of c.next.new.self)) (map def_of rest)) other in
    and_refused (bytes_eq d.name key.name) (pointwise same_def (project d defs) key.defs) (sym c.loop-name.invariant ∙ all)

pub loop-name-preserved : goal.loop-name-preserved
loop-name-preserved c =
    let d = definition_of c.args.of.now in
    let name = string_bytes c.in-Some.name.now in
    let value = c.in-Some.value.now in
    let first = c.in-Some-split_first.first.now in
    let rest = c.in-Some-split_first.rest.now in
    let step : c.loop-name.name-iterator ≡ (c.in-Some.name.now, value) ∷ c.next.new.self = rest_more (λ x. (x.0.now, x.1.now)) _ _ _ _ c.in-Some.is c.next.ensures.steps in
    let among : is_among d.effective name ≡ true = sym (ap (is_among d.effective) c.as_str.ensures.value) ∙ sym (among_texts c.args.of.now.effective_defs.keys c.as_str.result.now) ∙ sym c.contains.ensures ∙ c.if-not-contains.false in
    let split : c.loop-name.kept.now ≡ first ∷ rest = search rules in
    let same : same_def (name, value) (def_of first) ≡ true = sym c.defines.ensures ∙ c.if-not-defines.false in
    let all = ap (λ es. pointwise same_def (project d (map def_of es)) (map def_of c.loop-name.kept.now)) step ∙ ap (λ es. pointwise same_def es (map def_of c.loop-name.kept.now)) (depends d (name, value) (map def_of c.next.new.self) among)
    ∙ ap (λ ks. pointwise same_def ((name, value) ∷ project d (map def_of c.next.new.self)) (map def_of ks)) split
    ∙ ap (λ q. q && pointwise same_def (project d (map def_of c.next.new.self)) (map def_of rest)) same in
    sym all ∙ c.loop-name.invariant
