-- Places and lines.
use Rattle.std.proofs.Common.{◌≡◌, ◌≢◌, ℕ, ◌+◌, ◌-◌, ◌<◌, ◌≤◌, Bool, true, false, cond, eqb, Option, Some, None, List, [], ◌∷◌, ◌++◌, length, get_or, take, drop, refl, sym, ap, ◌∙◌, arith, eq-eqb}
use borrow.Author.Tests.{ne_eqb}
use denote.Ref.{Bor}
use Rattle.std.specs.Prelude.{IfSome, IsSome, ◌↔◌, unwrap_or, IsCharBoundary}
use Rattle.std.specs.Option.{MatchOption}
use Rattle.std.specs.Str.Lines.{strip_carriage_return}
use Rattle.std.specs.Str.Pattern.{FindsCharSuffix}
use Rattle.std.proofs.lemmas.Bool.{false≢true}
use Rattle.std.proofs.lemmas.Bool.Decides.{nat_tests}
use Rattle.std.proofs.lemmas.Grind.{common_steps}
use Rattle.std.proofs.lemmas.Str.Pattern.{IsSplitOnceResult, split_once_first, strip_suffix_char}
use Rattle.std.proofs.lemmas.List.Elements.{All-from_get_or}
use Rattle.std.proofs.lemmas.List.Splits.{slice_split_none, slice_split_first, length-slice_split}
use Rattle.std.proofs.lemmas.List.Sums.{count_by-le-length, fails_before_first}
use Rattle.yettuvam_report.specs.Line.{Line, cut, first_line, first_of, is_boundary, last_of, line_at, line_between, lines_of}

-- ---- places
pub boundary : (text : List ℕ) (at : ℕ) → IsCharBoundary text at → is_boundary text at ≡ true
boundary text at h = grind (arith, nat_tests)

from_boundary : (text : List ℕ) (at : ℕ) → is_boundary text at ≡ true → IsCharBoundary text at
from_boundary text at h = grind (arith, nat_tests)

false_unless : (b : Bool) → (b ≡ true → ⊥) → b ≡ false
false_unless true h = absurd (h refl)
false_unless false h = refl

pub no_boundary : (text : List ℕ) (at : ℕ) → (IsCharBoundary text at → ⊥) → is_boundary text at ≡ false
no_boundary text at none = false_unless (is_boundary text at) (λ h. none (from_boundary text at h))

-- ---- lines
abbrev pub ends : ℕ → Bool
ends b = eqb b 10

pub lines_cut : (text : List ℕ) (r : Option (Bor (List ℕ) × Bor (List ℕ))) → IsSplitOnceResult 10 text r → MatchOption r (lines_of text ≡ text ∷ []) (λ x. lines_of text ≡ x.0.now ∷ lines_of x.1.now)
lines_cut text None h =
    let none = split_once_first 10 text None h (omega arith) in
    slice_split_none ends text (All-from_get_or (λ b. ends b ≡ false) text 0 (λ k l. fails_before_first ends text k 0 (omega (arith, l, none))))
lines_cut text (Some x) h =
    let found = split_once_first 10 text (Some x) h (omega arith) in
    slice_split_first ends text 0 found.0 ∙ (λ i. sym found.1 i ∷ lines_of (sym found.2 i))

pub some_line : (text : List ℕ) → 0 < length (lines_of text)
some_line text = omega (arith, length-slice_split ends text)

pub first_of_more : (x : List ℕ) (parts : List (List ℕ)) → 0 < length parts → first_of (x ∷ parts) ≡ strip_carriage_return x
first_of_more x [] h = absurd (omega arith)
first_of_more x (y ∷ more) h = refl

pub last_of_more : (x : List ℕ) (parts : List (List ℕ)) → 0 < length parts → last_of (x ∷ parts) ≡ last_of parts
last_of_more x [] h = absurd (omega arith)
last_of_more x (y ∷ more) h = refl

-- ---- a `\r` at the end
stripped_if : (l : List ℕ) (b : Bool) → eqb (get_or l (length l - 1) 0) 13 ≡ b → strip_carriage_return l ≡ cond b (take (length l - 1) l) l
stripped_if l b e = ap (λ t. cond t (take (length l - 1) l) l) e

stripped_without : (l : List ℕ) → ((front : List ℕ) → l ≢ front ++ 13 ∷ []) → strip_carriage_return l ≡ l
stripped_without [] h = refl
stripped_without (b ∷ l) h = stripped_if (b ∷ l) false (ne_eqb (get_or (b ∷ l) (length (b ∷ l) - 1) 0) 13 (λ e. h (take (length (b ∷ l) - 1) (b ∷ l)) (grind (arith, common_steps))))

stripped_after : (x : List ℕ) → strip_carriage_return (x ++ 13 ∷ []) ≡ x
stripped_after x =
    let last : get_or (x ++ 13 ∷ []) (length (x ++ 13 ∷ []) - 1) 0 ≡ 13 = grind (arith, common_steps) in
    let front : take (length (x ++ 13 ∷ []) - 1) (x ++ 13 ∷ []) ≡ x = grind (arith, common_steps) in
    stripped_if (x ++ 13 ∷ []) true (eq-eqb _ 13 last) ∙ front

-- what `strip_suffix` says of a `\r`
pub return_stripped : (line got : Bor (List ℕ)) (r : Option (Bor (List ℕ)))
    → MatchOption r (FindsCharSuffix 13 line.now None) (λ x. (n : ℕ) × FindsCharSuffix 13 line.now (Some n) × (x.now ≡ take (length line.now - n) line.now) × (length x.now + n ≡ length line.now))
    → got ≡ unwrap_or r line → got.now ≡ strip_carriage_return line.now
return_stripped line got None h e = ap (λ t. t.now) e ∙ sym (stripped_without line.now (strip_suffix_char 13 line.now None h (omega arith)))
return_stripped line got (Some x) h e = ap (λ t. t.now) e ∙ sym (ap strip_carriage_return (strip_suffix_char 13 line.now (Some x) h (omega arith)) ∙ stripped_after x.now)

-- the first line by a cut
pub first_cut : (text line rest : List ℕ) → lines_of text ≡ line ∷ lines_of rest → first_of (lines_of text) ≡ strip_carriage_return line
first_cut text line rest e = ap first_of e ∙ first_of_more line (lines_of rest) (some_line rest)

-- the last line after a cut
pub last_cut : (text line rest : List ℕ) → lines_of text ≡ line ∷ lines_of rest → last_of (lines_of text) ≡ last_of (lines_of rest)
last_cut text line rest e = ap last_of e ∙ last_of_more line (lines_of rest) (some_line rest)

pub lines_bound : (text : List ℕ) → length (lines_of text) ≤ length text + 1
lines_bound text = omega (arith, length-slice_split ends text, count_by-le-length ends text)

-- ---- what the calls say
pub cut_parts : (text : List ℕ) (at : ℕ) (r : Option (Bor (List ℕ) × Bor (List ℕ))) → (IsSome r ↔ IsCharBoundary text at) → IfSome r (λ x. x.0.now ≡ take at text) → IfSome r (λ x. x.1.now ≡ drop at text)
    → MatchOption r ((text, []) ≡ cut text at) (λ x. (x.0.now, x.1.now) ≡ cut text at)
cut_parts text at None v f b = sym (ap (λ (t : Bool). cond t (take at text, drop at text) (text, [])) (no_boundary text at (λ h. false≢true (v.1 h))))
cut_parts text at (Some x) v f b = (λ i. (f i, b i)) ∙ sym (ap (λ (t : Bool). cond t (take at text, drop at text) (text, [])) (boundary text at (v.0 refl)))

pub line_parts : (text before from line front marked after : List ℕ) (start end number count : ℕ) → (before, from) ≡ cut text start → number ≡ length (lines_of before) → front ≡ last_of (lines_of before) → line ≡ first_line from
    → count ≡ end - start → (marked, after) ≡ cut line count → (let l : Line = record { number = number; front = front; marked = marked; after = after } in l) ≡ line_at text start end
line_parts text before from line front marked after start end number count p n q r k s =
    let found : (let l : Line = record { number = number; front = front; marked = marked; after = after } in l) ≡ line_between (lines_of before) (cut line count) =
    λ i. record { number = n i; front = q i; marked = (s i).0; after = (s i).1 } in
    found ∙ (λ i. line_between (lines_of before) (cut (r i) (k i))) ∙ ap (λ (x : List ℕ × List ℕ). line_between (lines_of x.0) (cut (first_line x.1) (end - start))) p
