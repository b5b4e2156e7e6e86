-- Lines and columns of places, by where the lines begin.
use Rattle.std.proofs.Common.{◌≡◌, ℕ, zero, suc, ◌+◌, ◌-◌, ◌<◌, ◌≤◌, Bool, true, false, not, cond, eqb, leb, List, [], ◌∷◌, length, take, get_or, refl, sym, ap, ◌∙◌, arith, add-one, zero-add, eq-eqb}
use borrow.Author.Tests.{eqb-true}
use Rattle.std.specs.List.{prefix_len, suffix_len, count_by}
use Rattle.std.specs.List.Sorted.{IsPartitionedBy, IsPartitionPoint}
use Rattle.std.proofs.lemmas.Bool.{leb-true, le-leb, lt-leb}
use Rattle.std.proofs.lemmas.List.Sums.{sum_by-cons, prefix_len_is, suffix_len-take_yes, suffix_len-take_no, count_by_more_yes, count_by_more_no}
use Rattle.naga_oil_registry.specs.ReportView.{starts_after, line_starts}

abbrev is_end : ℕ → Bool
is_end b = eqb b 10

abbrev is_other : ℕ → Bool
is_other b = not (eqb b 10)

count-cons : (b : ℕ) (text : List ℕ) → count_by is_end (b ∷ text) ≡ cond (eqb b 10) 1 0 + count_by is_end text
count-cons b text = sum_by-cons (λ x. cond (is_end x) 1 0) b text

-- the number of lines that begin up to a place
abbrev begun : ℕ → List ℕ → ℕ
begun place starts = prefix_len (λ s. leb s place) starts

none_begun : (at place : ℕ) (text : List ℕ) → place ≤ at → begun place (starts_after at text) ≡ 0
none_begun at place [] h = refl
none_begun at place (b ∷ more) h =
    elim (eqb b 10) as (λ t. begun place (cond t ((at + 1) ∷ starts_after (at + 1) more) (starts_after (at + 1) more)) ≡ 0) [
      | true ↦ let late : leb (at + 1) place ≡ false = lt-leb (at + 1) place (omega arith) in rw late refl
      | false ↦ none_begun (at + 1) place more (omega arith)
    ]

begun_is : (at n : ℕ) (text : List ℕ) → n ≤ length text → begun (at + n) (starts_after at text) ≡ count_by is_end (take n text)
begun_is at zero text h = none_begun at (at + 0) text (omega arith)
begun_is at (suc n) [] h = absurd (omega arith)
begun_is at (suc n) (b ∷ more) h =
    let starts = starts_after (at + 1) more in
    let next : at + suc n ≡ at + 1 + n = omega arith in
    let rest : begun (at + suc n) starts ≡ count_by is_end (take n more) = ap (λ p. begun p starts) next ∙ begun_is (at + 1) n more (omega arith) in
    let split : begun (at + suc n) (starts_after at (b ∷ more)) ≡ cond (eqb b 10) 1 0 + count_by is_end (take n more) =
    elim (eqb b 10) as (λ t. begun (at + suc n) (cond t ((at + 1) ∷ starts) starts) ≡ cond t 1 0 + count_by is_end (take n more)) [
      | true ↦ let early : leb (at + 1) (at + suc n) ≡ true = le-leb (at + 1) (at + suc n) (omega arith) in rw early (ap (λ k. 1 + k) rest)
      | false ↦ rest ∙ sym (zero-add (count_by is_end (take n more)))
    ] in
    split ∙ sym (count-cons b (take n more))

-- a line begins after a line end
start_after : (at n : ℕ) (text : List ℕ) → n < length text → get_or text n 0 ≡ 10 → get_or (starts_after at text) (count_by is_end (take n text)) 0 ≡ at + n + 1
start_after at n [] h e = absurd (omega arith)
start_after at zero (b ∷ more) h e = rw (eq-eqb b 10 e) (omega arith)
start_after at (suc n) (b ∷ more) h e =
    let starts = starts_after (at + 1) more in
    let count = count_by is_end (take n more) in
    let one : 1 + count ≡ suc count = omega arith in
    let rest : get_or starts count 0 ≡ at + suc n + 1 = start_after (at + 1) n more (omega arith) e ∙ omega arith in
    let split : get_or (starts_after at (b ∷ more)) (cond (eqb b 10) 1 0 + count) 0 ≡ at + suc n + 1 =
    elim (eqb b 10) as (λ t. get_or (cond t ((at + 1) ∷ starts) starts) (cond t 1 0 + count) 0 ≡ at + suc n + 1) [
      | true ↦ rw one rest
      | false ↦ rw (zero-add count) rest
    ] in
    ap (λ k. get_or (starts_after at (b ∷ more)) k 0) (count-cons b (take n more)) ∙ split

-- the distance from the start of its line is the number of bytes after the last line end
from_start : (text : List ℕ) (n : ℕ) → n ≤ length text → get_or (line_starts text) (count_by is_end (take n text)) 0 + suffix_len is_other (take n text) ≡ n
from_start text zero h = refl
from_start text (suc n) h =
    let before = from_start text n (omega arith) in
    let at = get_or text n 0 in
    let within : n < length text = omega arith in
    let back : n + 1 - 1 ≡ n = omega arith in
    rw (sym (add-one n))
    (elim (eqb at 10) as (λ t. eqb at 10 ≡ t → get_or (line_starts text) (count_by is_end (take (n + 1) text)) 0 + suffix_len is_other (take (n + 1) text) ≡ n + 1) [
      | true ↦ λ q.
          let more = count_by_more_yes is_end text n 0 within q in
          let none : suffix_len is_other (take (n + 1) text) ≡ 0 = suffix_len-take_no is_other text (n + 1) 0 (omega arith) (omega arith) (ap (λ k. is_other (get_or text k 0)) back ∙ ap not q) in
          let start = start_after 0 n text within (eqb-true at 10 q) in
          rw (more, none, add-one) (omega (arith, start))
      | false ↦ λ q.
          let same = count_by_more_no is_end text n 0 within q in
          let more : suffix_len is_other (take (n + 1) text) ≡ 1 + suffix_len is_other (take n text) = suffix_len-take_yes is_other text (n + 1) 0 (omega arith) (omega arith) (ap (λ k. is_other (get_or text k 0)) back ∙ ap not q) ∙ ap (λ k. 1 + suffix_len is_other (take k text)) back in
          rw (same, more) (omega (arith, before))
    ] refl)

-- ---- lines begin one after another
first_above : (at s d : ℕ) (starts : List ℕ) → at < s → ((k : ℕ) → k < length starts → s < get_or starts k d) → (i : ℕ) → i < length (s ∷ starts) → at < get_or (s ∷ starts) i d
first_above at s d starts low more zero h = low
first_above at s d starts low more (suc i) h = let next = more i (omega arith) in omega arith

above : (at d : ℕ) (text : List ℕ) (i : ℕ) → i < length (starts_after at text) → at < get_or (starts_after at text) i d
above at d [] i h = absurd (omega arith)
above at d (b ∷ more) i h =
    let starts = starts_after (at + 1) more in
    elim (eqb b 10) as (λ t. i < length (cond t ((at + 1) ∷ starts) starts) → at < get_or (cond t ((at + 1) ∷ starts) starts) i d) [
      | true ↦ λ h. first_above at (at + 1) d starts (omega arith) (above (at + 1) d more) i h
      | false ↦ λ h. let next = above (at + 1) d more i h in omega arith
    ] h

first_rises : (s d : ℕ) (starts : List ℕ) → ((k : ℕ) → k < length starts → s < get_or starts k d) → ((i j : ℕ) → i ≤ j → j < length starts → get_or starts i d ≤ get_or starts j d)
    → (i j : ℕ) → i ≤ j → j < length (s ∷ starts) → get_or (s ∷ starts) i d ≤ get_or (s ∷ starts) j d
first_rises s d starts low more zero zero le h = omega arith
first_rises s d starts low more zero (suc j) le h = let next = low j (omega arith) in omega arith
first_rises s d starts low more (suc i) zero le h = absurd (omega arith)
first_rises s d starts low more (suc i) (suc j) le h = more i j (omega arith) (omega arith)

rising : (at d : ℕ) (text : List ℕ) (i j : ℕ) → i ≤ j → j < length (starts_after at text) → get_or (starts_after at text) i d ≤ get_or (starts_after at text) j d
rising at d [] i j le h = absurd (omega arith)
rising at d (b ∷ more) i j le h =
    let starts = starts_after (at + 1) more in
    elim (eqb b 10) as (λ t. j < length (cond t ((at + 1) ∷ starts) starts) → get_or (cond t ((at + 1) ∷ starts) starts) i d ≤ get_or (cond t ((at + 1) ∷ starts) starts) j d) [
      | true ↦ λ h. first_rises (at + 1) d starts (above (at + 1) d more) (rising (at + 1) d more) i j le h
      | false ↦ λ h. rising (at + 1) d more i j le h
    ] h

pub partitioned : (text : List ℕ) (place : ℕ) → IsPartitionedBy (λ s. leb s place) (line_starts text)
partitioned text place i j d le h e =
    let up = first_rises 0 d (starts_after 0 text) (above 0 d text) (rising 0 d text) i j le h in
    let low = leb-true (get_or (line_starts text) j d) place e in
    le-leb (get_or (line_starts text) i d) place (omega arith)

-- what a binary search for a place returns
module _ (text : List ℕ) (place line : ℕ) (within : place ≤ length text) (bound : line ≤ length (line_starts text))
    (point : IsPartitionPoint (λ s. leb s place ≡ true) (λ s. leb s place ≡ false) (line_starts text) line) where
  found : begun place (line_starts text) ≡ line
  found = prefix_len_is (λ s. leb s place) (line_starts text) line 0 bound (λ k h. point.0 k 0 (omega arith) h) (λ h. point.1 line 0 (omega arith) h)

  pub line_is : line ≡ count_by is_end (take place text) + 1
  line_is =
      let first : leb 0 place ≡ true = le-leb 0 place (omega arith) in
      let all : begun place (line_starts text) ≡ 1 + begun place (starts_after 0 text) = rw first refl in
      let rest : begun place (starts_after 0 text) ≡ count_by is_end (take place text) = ap (λ p. begun p (starts_after 0 text)) (sym (zero-add place)) ∙ begun_is 0 place text within in
      omega (arith, found, all, rest)

  pub start_within : line - 1 < length (line_starts text)
  start_within = let some = line_is in omega arith

  pub start_before : get_or (line_starts text) (line - 1) 0 ≤ place
  start_before =
      let count : line - 1 ≡ count_by is_end (take place text) = (let some = line_is in omega arith) in
      let start = from_start text place within in
      rw count (omega (arith, start))

  pub column_is : place - get_or (line_starts text) (line - 1) 0 + 1 ≡ suffix_len is_other (take place text) + 1
  column_is =
      let count : line - 1 ≡ count_by is_end (take place text) = (let some = line_is in omega arith) in
      let start = from_start text place within in
      rw count (omega (arith, start))
