use Rattle.std.proofs.Common.{◌≡◌, ap, sym, ◌∙◌, option_map, string_bytes, rules}
use Rattle.naga_oil_words.specs.Texts.{with_name, texts}
use Rattle.naga_oil_link.specs.Owned.{with_text}
use Rattle.naga_oil_link.proofs.NamesLemmas.{bytes-insert}
use Rattle.naga_oil_link.proofs.items.note.Goals as goal

pub returns-in_ok-insert : goal.returns-in_ok-insert
returns-in_ok-insert c =
    let same : string_bytes c.in_ok-from_str.field-0 ≡ c.in-Some.name.now = search rules in
    ap texts c.in_ok-insert.ensures.keys ∙ bytes-insert c.args.names.now.keys c.in_ok-from_str.field-0 ∙ ap (with_name (texts c.args.names.now.keys)) same ∙ ap (λ n. with_text (texts c.args.names.now.keys) (option_map (λ x. x.now) n)) (sym c.in-Some.is)
