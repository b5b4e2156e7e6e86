use Rattle.std.proofs.Common.{◌≡◌, ◌+◌, List, ◌∷◌, drop, fold, sym, ap, ◌∙◌, rules, String, Global}
use Rattle.std.specs.String.{string_bytes}
use Rattle.naga_oil_words.specs.Texts.{with_name, texts}
use Rattle.naga_oil_link.proofs.LinkedLemmas.{next_item}
use Rattle.naga_oil_link.proofs.NamesLemmas.{bytes-insert}
use Rattle.naga_oil_link.proofs.link.add_names.Goals as goal

pub loop-name-preserved : goal.loop-name-preserved
loop-name-preserved c =
    let rest = drop (c.loop-name.name-index + 1) c.args.others.now in
    let step : drop c.loop-name.name-index c.args.others.now ≡ c.name-item.result ∷ rest = next_item c.args.others.now c.loop-name.name-index c.name-item.result c.loop-name-test.true c.name-item.is in
    let same : string_bytes c.in_ok-clone.field-0 ≡ string_bytes c.name-item.result = search rules in
    let more : texts c.insert.new.self.keys ≡ with_name (texts c.loop-name.names.keys) (string_bytes c.name-item.result) = ap texts c.in_ok-insert.ensures.keys ∙ bytes-insert c.loop-name.names.keys c.in_ok-clone.field-0 ∙ ap (with_name (texts c.loop-name.names.keys)) same in
    ap (λ ns. fold with_name ns (texts rest)) more ∙ ap (λ (is : List (String Global)). fold with_name (texts c.loop-name.names.keys) (texts is)) (sym step) ∙ c.loop-name.invariant
