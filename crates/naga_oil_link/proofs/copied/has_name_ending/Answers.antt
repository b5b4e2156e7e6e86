use Rattle.std.proofs.Common.{◌≡◌, nat_eq, false, sym, ap, ◌∙◌}
use Rattle.std.specs.List.{ends_with}
use Rattle.naga_oil_words.specs.Texts.{texts}
use Rattle.naga_oil_link.specs.CopiedBuild.{has_name_among}
use Rattle.naga_oil_link.proofs.NamesLemmas.{among_texts, ends_apart}
use Rattle.naga_oil_link.proofs.copied.has_name_ending.Goals as goal

pub returns-then-ends_with : goal.returns-then-ends_with
returns-then-ends_with c = c.contains.ensures ∙ among_texts c.args.names.now.keys c.in-Some.name.now ∙ ap (has_name_among (texts c.args.names.now.keys)) c.in-Some.ensures

pub returns-else-ends_with : goal.returns-else-ends_with
returns-else-ends_with c =
    let e = c.args.ending.now in
    let n = c.in-Some.name.now in
    let other : ends_with nat_eq n e ≡ false = ap (λ ys. ends_with nat_eq ys e) (sym c.as_bytes.ensures.value) ∙ ap (ends_with nat_eq c.as_bytes.result.now) (sym c.as_bytes-in-Some.ensures.value) ∙ sym c.ends_with.ensures.value ∙ c.if-ends_with.false in
    c.if-ends_with.false ∙ sym (ends_apart (texts c.args.names.now.keys) e n c.requires other) ∙ ap (has_name_among (texts c.args.names.now.keys)) c.in-Some.ensures
