use Rattle.std.proofs.Common.{◌≡◌, [], ◌∷◌, ◌++◌, true, false, map, sym, ap, ◌∙◌, append_assoc, append-nil, rules}
use Rattle.std.proofs.lemmas.List.{map-append}
use Rattle.std.proofs.lemmas.Map.Iter.{rest_more, rest_all}
use Rattle.std.specs.String.{string_bytes}
use Rattle.naga_oil_words.specs.Texts.{is_among}
use Rattle.naga_oil_registry.specs.Registered.{definition_of, defs_of}
use Rattle.naga_oil_registry.proofs.NamesLemmas.{among_texts}
use Rattle.naga_oil.specs.Store as spec
use Rattle.naga_oil.specs.StoreView.{def_of}
use Rattle.naga_oil.proofs.StoreCodeLemmas.{depends, depends_not, key_made}
use Rattle.naga_oil.proofs.compose.store.project.Goals as goal

pub loop-name-preserved-then-not-contains : goal.loop-name-preserved-then-not-contains
loop-name-preserved-then-not-contains c =
    let d = definition_of c.args.of.now in
    let name = string_bytes c.in-Some.name.now in
    let value = c.in-Some.value.now in
    let kept = map def_of c.loop-name.projected.items in
    let step : c.loop-name.name-iterator ≡ (c.in-Some.name.now, value) ∷ c.next.new.self = rest_more (λ x. (x.0.now, x.1.now)) _ _ _ _ c.in-Some.is c.next.ensures.steps in
    let among : is_among d.effective name ≡ false = sym (ap (is_among d.effective) c.as_str.ensures.value) ∙ sym (among_texts c.args.of.now.effective_defs.keys c.as_str.result.now) ∙ sym c.contains.ensures ∙ c.if-not-contains.true in
    ap (λ ds. kept ++ ds) (sym (depends_not d (name, value) (map def_of c.next.new.self) among)) ∙ ap (λ es. kept ++ spec.project d (map def_of es)) (sym step) ∙ c.loop-name.invariant

pub loop-name-preserved : goal.loop-name-preserved
loop-name-preserved c =
    let d = definition_of c.args.of.now in
    let name = string_bytes c.in-Some.name.now in
    let value = c.in-Some.value.now in
    let kept = map def_of c.loop-name.projected.items in
    let rest = map def_of c.next.new.self in
    let step : c.loop-name.name-iterator ≡ (c.in-Some.name.now, value) ∷ c.next.new.self = rest_more (λ x. (x.0.now, x.1.now)) _ _ _ _ c.in-Some.is c.next.ensures.steps in
    let among : is_among d.effective name ≡ true = sym (ap (is_among d.effective) c.as_str.ensures.value) ∙ sym (among_texts c.args.of.now.effective_defs.keys c.as_str.result.now) ∙ sym c.contains.ensures ∙ c.if-not-contains.false in
    let same : string_bytes c.in_ok-clone.field-0 ≡ name = search rules in
    let more : map def_of c.push.new.self.items ≡ kept ++ (name, value) ∷ [] = ap (map def_of) c.in_ok-push.ensures.items ∙ map-append def_of c.loop-name.projected.items ((c.in_ok-clone.field-0, value) ∷ []) ∙ ap (λ n. kept ++ (n, value) ∷ []) same in
    ap (λ ds. ds ++ spec.project d rest) more ∙ append_assoc kept ((name, value) ∷ []) (spec.project d rest) ∙ ap (λ ds. kept ++ ds) (sym (depends d (name, value) rest among)) ∙ ap (λ es. kept ++ spec.project d (map def_of es)) (sym step) ∙ c.loop-name.invariant

pub returns : goal.returns
returns c =
    let d = definition_of c.args.of.now in
    let none : c.loop-name.name-iterator ≡ [] = rest_all (λ x. (x.0.now, x.1.now)) _ _ _ c.in-None.is c.next.ensures.steps in
    let kept = map def_of c.loop-name.projected.items in
    let all = sym (append-nil kept) ∙ ap (λ es. kept ++ spec.project d (map def_of es)) (sym none) ∙ c.loop-name.invariant in
    let named : string_bytes c.in_ok-name.name ≡ d.name = search rules in
    key_made d (defs_of c.args.defs.now) (string_bytes c.in_ok-name.name) kept named all
