-- A text's lines, each with its place.
use Rattle.std.proofs.Common.{◌≡◌, ◌≢◌, ℕ, ◌+◌, ◌-◌, ◌<◌, ◌≤◌, Bool, true, false, cond, eqb, Option, Some, None, List, [], ◌∷◌, ◌++◌, length, get_or, take, refl, sym, ap, ◌∙◌, ⊎_elim, arith, eq-eqb, length-drop, subst, not}
use borrow.Author.Tests.{ne_eqb}
use denote.Ref.{Bor}
use Rattle.std.specs.Prelude.{All, unwrap_or}
use Rattle.std.specs.Option.{MatchOption}
use Rattle.std.specs.List.{slice_split, position_or_len, before_first, after_first}
use Rattle.std.specs.Str.Lines.{strip_carriage_return}
use Rattle.std.specs.Str.Pattern.{FindsCharSuffix}
use Rattle.std.proofs.lemmas.Bool.{cases_lt, eqb-false}
use Rattle.std.proofs.lemmas.List.{length-take, length-take-le}
use Rattle.std.proofs.lemmas.Grind.{common_steps}
use Rattle.std.proofs.lemmas.Str.Pattern.{strip_suffix_char}
use Rattle.std.proofs.lemmas.List.Elements.{All-from_get_or}
use Rattle.std.proofs.lemmas.List.Splits.{slice_split_none, slice_split_first, length-slice_split}
use Rattle.std.proofs.lemmas.List.Sums.{fails_before_first, prefix_len-le-length}
use Rattle.naga_oil_mini_front.specs.Reader.{placed, placed_lines, first_line}

-- ---- a `\r` at the end
stripped_if : (l : List ℕ) (b : Bool) → eqb (get_or l (length l - 1) 0) 13 ≡ b → strip_carriage_return l ≡ cond b (take (length l - 1) l) l
stripped_if l b e = ap (λ t. cond t (take (length l - 1) l) l) e

stripped_without : (l : List ℕ) → ((front : List ℕ) → l ≢ front ++ 13 ∷ []) → strip_carriage_return l ≡ l
stripped_without [] h = refl
stripped_without (b ∷ l) h = stripped_if (b ∷ l) false (ne_eqb (get_or (b ∷ l) (length (b ∷ l) - 1) 0) 13 (λ e. h (take (length (b ∷ l) - 1) (b ∷ l)) (grind (arith, common_steps))))

stripped_after : (x : List ℕ) → strip_carriage_return (x ++ 13 ∷ []) ≡ x
stripped_after x =
    let last : get_or (x ++ 13 ∷ []) (length (x ++ 13 ∷ []) - 1) 0 ≡ 13 = grind (arith, common_steps) in
    let front : take (length (x ++ 13 ∷ []) - 1) (x ++ 13 ∷ []) ≡ x = grind (arith, common_steps) in
    stripped_if (x ++ 13 ∷ []) true (eq-eqb _ 13 last) ∙ front

-- what `strip_suffix` says of a `\r`
pub return_stripped : (line got : Bor (List ℕ)) (r : Option (Bor (List ℕ)))
    → MatchOption r (FindsCharSuffix 13 line.now None) (λ x. (n : ℕ) × FindsCharSuffix 13 line.now (Some n) × (x.now ≡ take (length line.now - n) line.now) × (length x.now + n ≡ length line.now))
    → got ≡ unwrap_or r line → got.now ≡ strip_carriage_return line.now
return_stripped line got None h e = ap (λ t. t.now) e ∙ sym (stripped_without line.now (strip_suffix_char 13 line.now None h (omega arith)))
return_stripped line got (Some x) h e = ap (λ t. t.now) e ∙ sym (ap strip_carriage_return (strip_suffix_char 13 line.now (Some x) h (omega arith)) ∙ stripped_after x.now)

length-stripped : (l : List ℕ) (b : Bool) → eqb (get_or l (length l - 1) 0) 13 ≡ b → length (strip_carriage_return l) ≤ length l
length-stripped l true e = omega (arith, ap length (stripped_if l true e), length-take (length l - 1) l)
length-stripped l false e = omega (arith, ap length (stripped_if l false e))

-- ---- the first line
placed_more : (at : ℕ) (x : List ℕ) (parts : List (List ℕ)) → 0 < length parts → placed at (x ∷ parts) ≡ (at, strip_carriage_return x) ∷ placed (at + length x + 1) parts
placed_more at x [] l = absurd (omega arith)
placed_more at x (y ∷ more) l = refl

-- a line and the rest are the first of those of w, whose first byte has a place
pub record Begins (at : ℕ) (w x rest : List ℕ) : Type 0 where
  pub first : placed_lines at w ≡ (at, x) ∷ placed_lines (at + (length w - length rest)) rest
  pub line : length x + length rest ≤ length w
  pub shorter : length rest < length w

-- a line ends at the byte
abbrev pub ends : ℕ → Bool
ends b = eqb b 10

last_begins : (at : ℕ) (w : List ℕ) → 0 < length w → position_or_len ends w ≡ length w → Begins at w w []
last_begins at w some none =
    let passes : All (λ b. ends b ≡ false) w = All-from_get_or (λ b. ends b ≡ false) w 0 (λ k l. fails_before_first ends w k 0 (omega (arith, l, none))) in
    record {
      first = ap (placed at) (slice_split_none ends w passes) ∙ ap (λ t. cond t [] ((at, w) ∷ [])) (ne_eqb (length w) 0 (λ z. omega (arith, z)));
      line = omega arith;
      shorter = some;
    }

cut_begins : (at : ℕ) (w : List ℕ) → position_or_len ends w < length w → Begins at w (strip_carriage_return (before_first ends w)) (after_first ends w)
cut_begins at w cut =
    let front : length (before_first ends w) ≡ position_or_len ends w = length-take-le (position_or_len ends w) w (omega (arith, cut)) in
    let following : length (after_first ends w) ≡ length w - (position_or_len ends w + 1) = length-drop (position_or_len ends w + 1) w in
    let next : at + length (before_first ends w) + 1 ≡ at + (length w - length (after_first ends w)) = omega (arith, cut, front, following) in
    record {
      first = ap (placed at) (slice_split_first ends w 0 cut)
          ∙ placed_more at (before_first ends w) (slice_split ends (after_first ends w)) (omega (arith, length-slice_split ends (after_first ends w)))
          ∙ ap (λ k. (at, strip_carriage_return (before_first ends w)) ∷ placed_lines k (after_first ends w)) next;
      line = omega (arith, cut, front, following, length-stripped (before_first ends w) _ refl);
      shorter = omega (arith, cut, following);
    }

pub cut_first : (text line rest : List ℕ) → line ≡ before_first ends text → rest ≡ after_first ends text → position_or_len ends text < length text → (strip_carriage_return line, rest) ≡ first_line text
cut_first text line rest before following cut =
    (λ i. (strip_carriage_return (before i), following i)) ∙ ap (λ t. cond t (text, []) (strip_carriage_return (before_first ends text), after_first ends text)) (sym (ne_eqb (position_or_len ends text) (length text) (λ z. omega (arith, z, cut))))

pub first_begins : (at : ℕ) (w x rest : List ℕ) → 0 < length w → (x, rest) ≡ first_line w → Begins at w x rest
first_begins at w x rest some e =
    ⊎_elim
    (λ cut. let is : (x, rest) ≡ (strip_carriage_return (before_first ends w), after_first ends w) = e ∙ sym (cut_first w _ _ refl refl cut) in
    subst (λ p. Begins at w p.0 p.1) (sym is) (cut_begins at w cut))
    (λ none. let all : position_or_len ends w ≡ length w = omega (arith, none, prefix_len-le-length (λ b. not (ends b)) w) in
    let is : (x, rest) ≡ (w, []) = e ∙ ap (λ t. cond t (w, []) (strip_carriage_return (before_first ends w), after_first ends w)) (eq-eqb (position_or_len ends w) (length w) all) in
    subst (λ p. Begins at w p.0 p.1) (sym is) (last_begins at w some all))
    (cases_lt (position_or_len ends w) (length w))

pub has_bytes : (w : List ℕ) (none : Bool) → none ≡ eqb (length w) 0 → none ≡ false → 0 < length w
has_bytes [] none e h = absurd (eqb-false 0 0 (sym e ∙ h) refl)
has_bytes (b ∷ w) none e h = omega arith
