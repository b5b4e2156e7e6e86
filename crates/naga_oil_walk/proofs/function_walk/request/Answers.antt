use Rattle.std.proofs.Common.{◌≡◌, ◌∙◌, Some, None, slice_get, ap, sym, List}
use Rattle.std.proofs.lemmas.Option.{slice_get_past, slice_get-get_or}
use Rattle.naga_oil_ir.specs.Rows.{named_place}
use Rattle.naga_oil_ir.specs.declared.parts.Named.{Named}
use Rattle.naga_oil_walk.specs.Naming.{item_of}
use Rattle.naga_oil_walk.proofs.OptionLemmas.{none_of}
use Rattle.naga_oil_walk.proofs.ReachSteps.{none_asked}
use Rattle.naga_oil_walk.proofs.function_walk.request.Goals as goal

pub returns-in_default : goal.returns-in_default
returns-in_default c =
    let ns = c.args.of.now.named.items in
    let k = c.args.place in
    let n = c.in-Some.named.now in
    let at : Some n ≡ slice_get ns k = ap Some c.in-Some.ensures.lookup.1 ∙ sym (slice_get-get_or c.deref.result.now k n c.in-Some.ensures.lookup.3.0) ∙ ap (λ (xs : List Named). slice_get xs k) c.deref.ensures.value in
    let gone : named_place n ≡ None = sym c.named_item.ensures ∙ none_of _ _ c.is_some.ensures c.if-is_some.false in
    none_asked c.args.requests.now.items ns k (ap item_of (sym at) ∙ gone)

pub returns-in_default-2 : goal.returns-in_default-2
returns-in_default-2 c =
    let ns = c.args.of.now.named.items in
    let k = c.args.place in
    let past = rw c.in_default.is at c.get.ensures.lookup in
    let at : slice_get ns k ≡ None = ap (λ (xs : List Named). slice_get xs k) (sym c.deref.ensures.value) ∙ slice_get_past c.deref.result.now k past.3 in
    none_asked c.args.requests.now.items ns k (ap item_of at)
