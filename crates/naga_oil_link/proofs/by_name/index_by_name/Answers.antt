use Rattle.std.proofs.Common.{◌≡◌, ap, rules}
use Rattle.std.proofs.lemmas.Fn.{always_returns_same}
use Rattle.std.specs.Ordering.{is_lt}
use Rattle.naga_oil_link.specs.ByName.{compare_names, text_at, stands_before, listed_names}
use Rattle.naga_oil_link.proofs.IndexLemmas.{places_rank, index_sorted}
use Rattle.naga_oil_link.proofs.by_name.index_by_name.Goals as goal

pub returns : goal.returns
returns c =
    let names = listed_names c.args.of in
    let rank = places_rank names in
    index_sorted names c.in_ok-index.index.items c.sort_by.new.self c.in_ok-index.ensures
    (c.in_ok-sort_by.ensures.sorted (stands_before names) rank (always_returns_same _ _ _ (λ a r f k.
    let is : r ≡ compare_names (text_at names a.0.now) (text_at names a.1.0.now) = search rules in
    (ap is_lt is, search rules))))
    (c.sort_by.ensures.stable (stands_before names) rank (always_returns_same _ _ _ (λ a r f k.
    let is : r ≡ compare_names (text_at names a.0.now) (text_at names a.1.0.now) = search rules in
    (ap is_lt is, search rules))))
