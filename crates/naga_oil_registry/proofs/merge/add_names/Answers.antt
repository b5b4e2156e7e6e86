use Rattle.std.proofs.Common.{◌≡◌, ◌∷◌, fold, sym, ap, ◌∙◌, rules}
use Rattle.std.specs.String.{string_bytes}
use Rattle.std.proofs.lemmas.Map.Iter.{rest_more}
use Rattle.naga_oil_words.specs.Texts.{with_name, texts}
use Rattle.naga_oil_registry.proofs.MergedLemmas.{bytes-insert}
use Rattle.naga_oil_registry.proofs.merge.add_names.Goals as goal

pub loop-name-preserved : goal.loop-name-preserved
loop-name-preserved c =
    let step : c.loop-name.name-iterator ≡ c.in-Some.name.now ∷ c.next.new.self = rest_more (λ x. x.now) _ _ _ _ c.in-Some.is c.next.ensures.steps in
    let same : string_bytes c.in_ok-clone.field-0 ≡ string_bytes c.in-Some.name.now = search rules in
    let more : texts c.insert.new.self.keys ≡ with_name (texts c.loop-name.names.keys) (string_bytes c.in-Some.name.now) = ap texts c.in_ok-insert.ensures.keys ∙ bytes-insert c.loop-name.names.keys c.in_ok-clone.field-0 ∙ ap (with_name (texts c.loop-name.names.keys)) same in
    ap (λ ns. fold with_name ns (texts c.next.new.self)) more ∙ ap (λ ks. fold with_name (texts c.loop-name.names.keys) (texts ks)) (sym step) ∙ c.loop-name.invariant
