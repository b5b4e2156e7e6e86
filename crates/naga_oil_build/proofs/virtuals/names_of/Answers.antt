use Rattle.std.proofs.Common.{◌≡◌, ◌+◌, ◌∷◌, map, drop, fold, sym, ap, ◌∙◌, arith}
use Rattle.std.proofs.lemmas.List.{at_drop_more}
use Rattle.naga_oil_words.specs.Texts.{with_name, texts}
use Rattle.naga_oil_registry.specs.KeywordsView.{marked_of}
use Rattle.naga_oil_registry.proofs.MergedLemmas.{bytes-insert}
use Rattle.naga_oil_build.proofs.virtuals.names_of.Goals as goal

pub loop-function-preserved : goal.loop-function-preserved
loop-function-preserved c =
    let i = c.loop-function.function-index in
    let functions = c.args.functions.now in
    let names = texts c.loop-function.names.keys in
    let f = c.function-item.result in
    let more : texts c.insert.new.self.keys ≡ with_name names f.name.now = ap texts c.in_ok-insert.ensures.keys ∙ bytes-insert c.loop-function.names.keys c.in_ok-from_str.field-0 ∙ ap (with_name names) c.in_ok-from_str.ensures.ok in
    ap (λ ns. fold with_name ns (map (λ f. f.name) (map marked_of (drop (i + 1) functions)))) more
    ∙ ap (λ x. fold with_name names (map (λ f. f.name) (map marked_of (x ∷ drop (i + 1) functions)))) c.function-item.is
    ∙ sym (at_drop_more (λ fs. fold with_name names (map (λ f. f.name) (map marked_of fs))) functions i f (omega arith)) ∙ c.loop-function.invariant
