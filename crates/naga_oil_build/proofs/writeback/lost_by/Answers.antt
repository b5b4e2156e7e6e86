use Rattle.std.proofs.Common.{◌≡◌, true, false, Some, None, option_map, sym, ap, ◌∙◌}
use Rattle.naga_oil_words.specs.Texts.{is_among, texts}
use Rattle.naga_oil_build.specs.Writeback.{lost_of}
use Rattle.naga_oil_build.specs.WritebackView.{named_of, held}
use Rattle.naga_oil_registry.proofs.NamesLemmas.{among_texts}
use Rattle.naga_oil_build.proofs.WritebackLemmas.{copied_named, not_owned, owned_lost}
use Rattle.naga_oil_build.proofs.writeback.lost_by.Goals as goal

pub returns-then-not-contains : goal.returns-then-not-contains
returns-then-not-contains c =
    let keys = c.args.owned.now.keys in
    let name = c.args.by.now in
    let owned : is_among (texts keys) name ≡ false = sym (among_texts keys name) ∙ sym c.contains.ensures ∙ c.if-not-contains.true in
    sym (not_owned (texts keys) name (held c.args.back.now) (named_of c.args.item.now) owned)

pub returns-in-Some : goal.returns-in-Some
returns-in-Some c =
    let keys = c.args.owned.now.keys in
    let back = c.args.back.now in
    let i = named_of c.args.item.now in
    let name = c.args.by.now in
    let owned : is_among (texts keys) name ≡ true = sym (among_texts keys name) ∙ sym c.contains.ensures ∙ c.if-not-contains.false in
    let theirs : option_map (λ i. named_of i.now) c.get.result ≡ held back name = copied_named c.get.result ∙ ap (option_map named_of) c.get.ensures.value in
    owned_lost (texts keys) name (held back) i (Some c.in-Some.name.now) owned (ap (option_map (λ r. r.now)) (sym c.in-Some.is) ∙ c.lost_of.ensures ∙ ap (lost_of i) theirs)

pub returns-in-None : goal.returns-in-None
returns-in-None c =
    let keys = c.args.owned.now.keys in
    let back = c.args.back.now in
    let i = named_of c.args.item.now in
    let name = c.args.by.now in
    let owned : is_among (texts keys) name ≡ true = sym (among_texts keys name) ∙ sym c.contains.ensures ∙ c.if-not-contains.false in
    let theirs : option_map (λ i. named_of i.now) c.get.result ≡ held back name = copied_named c.get.result ∙ ap (option_map named_of) c.get.ensures.value in
    owned_lost (texts keys) name (held back) i None owned (ap (option_map (λ r. r.now)) (sym c.in-None.is) ∙ c.lost_of.ensures ∙ ap (lost_of i) theirs)
