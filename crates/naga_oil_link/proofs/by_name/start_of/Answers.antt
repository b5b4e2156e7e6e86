use Rattle.std.proofs.Common.{◌≡◌, Some, length, get_or, ap, sym, subst, ◌∙◌, arith, rules}
use Rattle.std.proofs.lemmas.List.Sorted.{IsPartitionPoint-from_clause}
use Rattle.std.specs.List.Sorted.{IsSortedBy}
use Rattle.std.specs.Ordering.{is_lt}
use Rattle.naga_oil_link.specs.ByName.{text_at, compare_names, stands_before, listed_names}
use Rattle.naga_oil_link.proofs.IndexLemmas.{before_partitioned, start_there}
use Rattle.naga_oil_link.proofs.by_name.start_of.Goals as goal

pub returns : goal.returns
returns c =
    let names = listed_names c.args.of in
    let index = c.args.index.now in
    let q = c.args.name.now in
    let xs = c.deref.result.now in
    let n = c.partition_point.result in
    let sorted : IsSortedBy (stands_before names) xs = subst (IsSortedBy (stands_before names)) (sym c.deref.ensures.value) c.requires.sorted in
    let point = IsPartitionPoint-from_clause (λ k. is_lt (compare_names (text_at names k) (Some q))) xs n c.partition_point.ensures.partitioned (before_partitioned names xs q sorted) (λ a r f k. search rules) in
    let same : xs ≡ index.items = c.deref.ensures.value in
    start_there names index q n (omega (arith, c.partition_point.ensures.bound, ap length same)) c.requires
    (λ k d a b. ap (λ ys. is_lt (compare_names (text_at names (get_or ys k d)) (Some q))) (sym same) ∙ point.0 k d (omega arith) a)
    (λ k d a b. ap (λ ys. is_lt (compare_names (text_at names (get_or ys k d)) (Some q))) (sym same) ∙ point.1 k d a (omega (arith, ap length same)))
