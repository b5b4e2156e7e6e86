use Rattle.std.proofs.Common.{◌||◌, sym, ap, ◌∙◌}
use Rattle.naga_oil_words.specs.Texts.{is_among}
use Rattle.naga_oil_link.specs.BuiltModule.{built_of}
use Rattle.naga_oil_registry.proofs.NamesLemmas.{among_texts}
use Rattle.naga_oil_build.proofs.virtuals.may_override.Goals as goal

pub returns-else-any : goal.returns-else-any
returns-else-any c =
    let item = c.args.item.now in
    c.contains.ensures ∙ among_texts c.args.base.now.virtual_functions.keys item
    ∙ sym (ap (λ any. any || is_among (built_of c.args.base.now).virtuals item) c.if-any.false)
