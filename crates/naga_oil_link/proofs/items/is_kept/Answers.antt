use Rattle.std.proofs.Common.{◌||◌, ap, ◌∙◌}
use Rattle.naga_oil_words.specs.Texts.{is_among, texts}
use Rattle.naga_oil_link.proofs.NamesLemmas.{among_texts}
use Rattle.naga_oil_link.proofs.items.is_kept.Goals as goal

pub returns : goal.returns
returns c =
    ap (λ b. b || c.has_module_mark.result) (c.contains.ensures ∙ among_texts c.args.special.now.keys c.args.name.now)
    ∙ ap (λ b. is_among (texts c.args.special.now.keys) c.args.name.now || b) c.has_module_mark.ensures
