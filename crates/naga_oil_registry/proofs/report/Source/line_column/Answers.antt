use Rattle.std.proofs.Common.{◌≡◌, ◌≤◌, ◌-◌, ◌+◌, ℕ, List, length, leb, true, false, get_or, take, ap, ◌∙◌, sym, subst, arith, rules, of_calls, eqb, not}
use Rattle.std.proofs.lemmas.Fn.{always_returns_same}
use Rattle.std.proofs.lemmas.List.{take_min}
use Rattle.std.specs.List.{count_by, suffix_len}
use Rattle.std.specs.List.Sorted.{IsPartitionedBy, IsPartitionPoint}
use Rattle.naga_oil_registry.specs.ReportView.{line_starts}
use Rattle.naga_oil_registry.proofs.LineLemmas.{partitioned, line_is, start_before, column_is}
use Rattle.naga_oil_registry.proofs.report.Source.line_column.Goals as goal

pub overflow_sub-result : goal.overflow_sub-result
overflow_sub-result c =
    let text = c.args.self.text.now in
    let place = c.min-place.result in
    let line = c.partition_point-line.result in
    let starts : c.args.self.starts.now ≡ line_starts text = c.args.self.lines in
    let within : place ≤ length text = omega arith in
    let bound : line ≤ length (line_starts text) = subst (λ (ss : List ℕ). line ≤ length ss) starts c.partition_point-line.ensures.bound in
    let rises : IsPartitionedBy (λ s. leb s place) c.args.self.starts.now = subst (λ (ss : List ℕ). IsPartitionedBy (λ s. leb s place) ss) (sym starts) (partitioned text place) in
    let found = c.partition_point-line.ensures.partitioned (λ s. leb s place) (always_returns_same _ _ _ (λ a r f k. search (rules, of_calls))) rises in
    let point = subst (λ (ss : List ℕ). IsPartitionPoint (λ s. leb s place ≡ true) (λ s. leb s place ≡ false) ss line) starts found in
    omega (arith, line_is text place line within bound point)

pub overflow_sub-result-2 : goal.overflow_sub-result-2
overflow_sub-result-2 c =
    let text = c.args.self.text.now in
    let place = c.min-place.result in
    let line = c.partition_point-line.result in
    let starts : c.args.self.starts.now ≡ line_starts text = c.args.self.lines in
    let within : place ≤ length text = omega arith in
    let bound : line ≤ length (line_starts text) = subst (λ (ss : List ℕ). line ≤ length ss) starts c.partition_point-line.ensures.bound in
    let rises : IsPartitionedBy (λ s. leb s place) c.args.self.starts.now = subst (λ (ss : List ℕ). IsPartitionedBy (λ s. leb s place) ss) (sym starts) (partitioned text place) in
    let found = c.partition_point-line.ensures.partitioned (λ s. leb s place) (always_returns_same _ _ _ (λ a r f k. search (rules, of_calls))) rises in
    let point = subst (λ (ss : List ℕ). IsPartitionPoint (λ s. leb s place ≡ true) (λ s. leb s place ≡ false) ss line) starts found in
    subst (λ (ss : List ℕ). get_or ss (line - 1) 0 ≤ place) (sym starts) (start_before text place line within bound point)

pub returns : goal.returns
returns c =
    let text = c.args.self.text.now in
    let place = c.min-place.result in
    let line = c.partition_point-line.result in
    let starts : c.args.self.starts.now ≡ line_starts text = c.args.self.lines in
    let within : place ≤ length text = omega arith in
    let bound : line ≤ length (line_starts text) = subst (λ (ss : List ℕ). line ≤ length ss) starts c.partition_point-line.ensures.bound in
    let rises : IsPartitionedBy (λ s. leb s place) c.args.self.starts.now = subst (λ (ss : List ℕ). IsPartitionedBy (λ s. leb s place) ss) (sym starts) (partitioned text place) in
    let found = c.partition_point-line.ensures.partitioned (λ s. leb s place) (always_returns_same _ _ _ (λ a r f k. search (rules, of_calls))) rises in
    let point = subst (λ (ss : List ℕ). IsPartitionPoint (λ s. leb s place ≡ true) (λ s. leb s place ≡ false) ss line) starts found in
    let same : take place text ≡ take c.args.place text = ap (λ n. take n text) c.min-place.ensures ∙ take_min c.args.place text in
    let first : line ≡ count_by (λ b. eqb b 10) (take c.args.place text) + 1 = line_is text place line within bound point ∙ ap (λ t. count_by (λ b. eqb b 10) t + 1) same in
    let second : place - get_or c.args.self.starts.now (line - 1) 0 + 1 ≡ suffix_len (λ b. not (eqb b 10)) (take c.args.place text) + 1 =
    ap (λ (ss : List ℕ). place - get_or ss (line - 1) 0 + 1) starts ∙ column_is text place line within bound point ∙ ap (λ t. suffix_len (λ b. not (eqb b 10)) t + 1) same in
    ap (λ (n : ℕ). (n, place - get_or c.args.self.starts.now (line - 1) 0 + 1)) first ∙ ap (λ (n : ℕ). (count_by (λ b. eqb b 10) (take c.args.place text) + 1, n)) second
