use Rattle.std.proofs.Common.{◌≡◌, ◌+◌, ℕ, List, Bor, suc, Some, drop, sym, ap, ◌∙◌, arith}
use Rattle.std.proofs.lemmas.List.{drop-map}
use Rattle.naga_oil_mini_symbols.specs.NameTable.{texts_of}
use Rattle.naga_oil_mini_writer.specs.Order.{place_from}
use Rattle.naga_oil_mini_writer.proofs.OrderLemmas.{next_at}
use Rattle.naga_oil_mini_writer.proofs.order.ItemNames.next.Goals as goal

pub returns-in-None : goal.returns-in-None
returns-in-None c =
    let k = c.args.place in
    let n = c.args.name.now in
    let following : 0 + suc k ≡ k + 1 = omega arith in
    let next : suc k ≡ k + 1 = omega arith in
    let texts : drop (k + 1) c.args.self.now ≡ texts_of (drop (k + 1) c.deref.result.now) =
    ap (drop (k + 1)) (sym c.self.view_is) ∙ drop-map (λ (t : Bor (List ℕ)). t.now) (k + 1) c.self.inside.texts.items ∙ ap (λ (ts : List (Bor (List ℕ))). texts_of (drop (k + 1) ts)) (sym c.deref.ensures.value) in
    next_at 0 k n c.args.self.now c.requires
    ∙ ap (λ j. Some (place_from j n (drop (suc k) c.args.self.now))) following
    ∙ ap (λ j. Some (place_from (k + 1) n (drop j c.args.self.now))) next
    ∙ ap (λ ms. Some (place_from (k + 1) n ms)) texts
    ∙ ap Some (sym c.place_from.ensures)
