use Rattle.std.proofs.Common.{rules, subst, ap, sym, ◌∙◌}
use Rattle.naga_oil_mini_symbols.specs.NameTable.{last_place, texts_of, Finds}
use Rattle.naga_oil_mini_symbols.proofs.NameLemmas.{place_in-insert}
use Rattle.naga_oil_mini_symbols.proofs.names.NameTable.push.Goals as goal

pub invariant_of-self-in-Ok-1 : goal.invariant_of-self-in-Ok-1
invariant_of-self-in-Ok-1 c =
    let texts = c.self.inside.texts.items in
    let before = subst (λ o. Finds o (texts_of texts)) c.in-Some.is c.self.invariant in
    λ q. place_in-insert c.args.name texts c.in-Some.places c.insert.new.self c.len-place.result c.in-Ok.ensures.updates (search rules) before q
    ∙ ap (λ ts. last_place q (texts_of ts)) (sym c.in_ok-push-2.ensures.items)
