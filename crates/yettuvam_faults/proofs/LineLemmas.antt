-- Lines, and places on the boundaries of characters.
use Rattle.std.proofs.Common.{◌≡◌, ◌≢◌, ℕ, suc, ◌+◌, ◌-◌, ◌<◌, ◌≤◌, min, Bool, cond, Option, Some, None, List, length, get_or, drop, reverse, sym, ap, ◌∙◌, arith, eq-eqb, length-drop}
use Rattle.std.specs.Prelude.{◌==◌}
use borrow.Author.Tests.{ne_eqb}
use denote.Ref.{Bor}
use Rattle.std.specs.Option.{MatchOption}
use Rattle.std.specs.List.{after_first, position_or_len}
use Rattle.std.proofs.lemmas.List.{get_or-reverse, length-reverse, take_all}
use Rattle.std.proofs.lemmas.List.Sums.{common_prefix_len-drop_no, common_prefix_len-drop_yes, common_prefix_len-le}
use Rattle.std.proofs.lemmas.Str.Pattern.{IsSplitOnceResult, split_once_first}
use Rattle.yettuvam_faults.specs.Lines.{common_front, first_line, from_line, is_end, next_line}

pub first_cut : (text : List ℕ) (r : Option (Bor (List ℕ) × Bor (List ℕ))) → IsSplitOnceResult 10 text r → MatchOption r (first_line text ≡ text) (λ x. first_line text ≡ x.0.now)
first_cut text None h = take_all (position_or_len is_end text) text (omega (arith, split_once_first 10 text None h (omega arith)))
first_cut text (Some x) h = sym (split_once_first 10 text (Some x) h (omega arith)).1

pub next_cut : (text : List ℕ) (r : Option (Bor (List ℕ) × Bor (List ℕ))) → IsSplitOnceResult 10 text r → MatchOption r (next_line text ≡ text) (λ x. next_line text ≡ x.1.now)
next_cut text None h = ap (λ (t : Bool). cond t text (after_first is_end text)) (eq-eqb _ _ (split_once_first 10 text None h (omega arith)))
next_cut text (Some x) h =
    let found = split_once_first 10 text (Some x) h (omega arith) in
    ap (λ (t : Bool). cond t text (after_first is_end text)) (ne_eqb _ _ (λ e. omega (arith, e, found.0))) ∙ sym found.2

-- one line more is passed
pub line_passed : (index done : ℕ) (rest : List ℕ) → done < index → from_line (index - done) rest ≡ from_line (index - (done + 1)) (next_line rest)
line_passed index done rest l = let one : index - done ≡ suc (index - (done + 1)) = omega arith in ap (λ n. from_line n rest) one

-- ---- what two texts have in common

-- nothing more, if one of them ends
pub common_end : (a b : List ℕ) (i : ℕ) → i ≡ min (length a) (length b) → common_front (drop i a) (drop i b) ≡ 0
common_end a b i e = none (drop i a) (drop i b) (omega (arith, e, length-drop i a, length-drop i b, common_prefix_len-le (λ x y. x == y) (drop i a) (drop i b)))
  where
    none : (x y : List ℕ) → common_front x y ≤ 0 → common_front x y ≡ 0
    none x y l = omega arith

-- one byte more, and no byte more, at the ends
pub end_more : (a b : List ℕ) (i : ℕ) → i < length a → i < length b → get_or a (length a - 1 - i) 0 ≡ get_or b (length b - 1 - i) 0
    → common_front (drop i (reverse a)) (drop i (reverse b)) ≡ 1 + common_front (drop (i + 1) (reverse a)) (drop (i + 1) (reverse b))
end_more a b i la lb e =
    common_prefix_len-drop_yes (λ x y. x == y) (reverse a) (reverse b) i 0 0 (omega (arith, length-reverse a)) (omega (arith, length-reverse b))
    (eq-eqb _ _ (get_or-reverse a i 0 la ∙ e ∙ sym (get_or-reverse b i 0 lb)))

pub end_differs : (a b : List ℕ) (i : ℕ) → i < length a → i < length b → get_or a (length a - 1 - i) 0 ≢ get_or b (length b - 1 - i) 0 → common_front (drop i (reverse a)) (drop i (reverse b)) ≡ 0
end_differs a b i la lb h =
    common_prefix_len-drop_no (λ x y. x == y) (reverse a) (reverse b) i 0 0 (omega (arith, length-reverse a)) (omega (arith, length-reverse b))
    (ne_eqb _ _ (λ e. h (sym (get_or-reverse a i 0 la) ∙ e ∙ get_or-reverse b i 0 lb)))
