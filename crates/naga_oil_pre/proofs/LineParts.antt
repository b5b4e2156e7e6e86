-- A property of the texts made of a text's characters holds for its lines.
use Rattle.std.proofs.Common.{◌≡◌, ℕ, ◌+◌, ◌-◌, ◌<◌, Bool, true, false, cond, eqb, List, [], ◌∷◌, ◌++◌, length, get_or, take, refl, sym, ap, subst, ◌∙◌, arith}
use borrow.Author.Tests.{eqb-true}
use lib.Utf8.{encode, encodes}
use Rattle.std.specs.Prelude.{All}
use Rattle.std.specs.List.{AllByRecursion, slice_split, onto_first, count_by}
use Rattle.std.specs.Str.Lines.{lines, lines_of_parts, strip_carriage_return}
use Rattle.std.proofs.lemmas.List.Elements.{All-cons, All-nil, All-head, All-tail}
use Rattle.std.proofs.lemmas.List.Sums.{sum_by-cons}
use Rattle.std.proofs.lemmas.List.Splits.{slice_split-cons_no, length-slice_split}
use Rattle.naga_oil_conditions.proofs.ReplacedLemmas.{no_ends_in_character}

abbrev is_end : ℕ → Bool
is_end b = eqb b 10

first_is_none : (b : ℕ) (bs : List ℕ) → count_by is_end (b ∷ bs) ≡ 0 → is_end b ≡ false
first_is_none b bs e = go (is_end b) (sym (sum_by-cons (λ x. cond (is_end x) 1 0) b bs) ∙ e)
  where
    go : (t : Bool) → cond t 1 0 + count_by is_end bs ≡ 0 → t ≡ false
    go true f = absurd (omega arith)
    go false f = refl

more_are_none : (b : ℕ) (bs : List ℕ) → count_by is_end (b ∷ bs) ≡ 0 → count_by is_end bs ≡ 0
more_are_none b bs e = let whole = sym (sum_by-cons (λ x. cond (is_end x) 1 0) b bs) ∙ e in omega arith

-- characters without a line end come before the first part
before_parts : (xs ys part : List ℕ) (more : List (List ℕ)) → count_by is_end xs ≡ 0 → slice_split is_end ys ≡ part ∷ more → slice_split is_end (xs ++ ys) ≡ (xs ++ part) ∷ more
before_parts [] ys part more none e = e
before_parts (x ∷ xs) ys part more none e =
    slice_split-cons_no is_end x (xs ++ ys) (first_is_none x xs none) ∙ ap (onto_first x) (before_parts xs ys part more (more_are_none x xs none) e)

-- the front of a text that a carriage return ends keeps the property
abbrev pub KeepsFront : (List ℕ → Type 0) → Type 0
KeepsFront P = (text : List ℕ) → 0 < length text → get_or text (length text - 1) 0 ≡ 13 → P text → P (take (length text - 1) text)

module _ (P : List ℕ → Type 0) (nothing : P []) (join : (xs ys : List ℕ) → P xs → P ys → P (xs ++ ys)) (front : KeepsFront P) where
  lengthened : (xs ys : List ℕ) (parts : List (List ℕ)) → count_by is_end xs ≡ 0 → P xs → slice_split is_end ys ≡ parts → All P parts → All P (slice_split is_end (xs ++ ys))
  lengthened xs ys [] none one e h = absurd (omega (arith, ap length e, length-slice_split is_end ys))
  lengthened xs ys (part ∷ more) none one e h =
      subst (All P) (sym (before_parts xs ys part more none e)) (All-cons P _ _ (join xs part one (All-head P part more h)) (All-tail P part more h))

  parts_at_end : (bs : List ℕ) → All P (slice_split is_end bs) → All P (slice_split is_end (encode 10 ++ bs))
  unfolding encode
  parts_at_end bs more = All-cons P [] _ nothing more

  parts_at : (c : ℕ) (t : Bool) (bs : List ℕ) → is_end c ≡ t → (is_end c ≡ false → P (encode c)) → All P (slice_split is_end bs) → All P (slice_split is_end (encode c ++ bs))
  parts_at c true bs e here more = subst (λ x. All P (slice_split is_end (encode x ++ bs))) (sym (eqb-true c 10 e)) (parts_at_end bs more)
  parts_at c false bs e here more = lengthened (encode c) bs _ (no_ends_in_character c e) (here e) refl more

  parts_of : (cs : List ℕ) → AllByRecursion (λ c. is_end c ≡ false → P (encode c)) cs → All P (slice_split is_end (encodes cs))
  parts_of [] each = All-cons P [] [] nothing (All-nil P)
  parts_of (c ∷ cs) each = parts_at c (is_end c) (encodes cs) refl each.0 (parts_of cs each.1)

  stripped : (text : List ℕ) → P text → P (strip_carriage_return text)
  stripped [] h = h
  stripped (b ∷ bs) h = go (eqb (get_or (b ∷ bs) (length (b ∷ bs) - 1) 0) 13) refl
    where
      go : (t : Bool) → eqb (get_or (b ∷ bs) (length (b ∷ bs) - 1) 0) 13 ≡ t → P (cond t (take (length (b ∷ bs) - 1) (b ∷ bs)) (b ∷ bs))
      go true e = front (b ∷ bs) (omega arith) (eqb-true (get_or (b ∷ bs) (length (b ∷ bs) - 1) 0) 13 e) h
      go false e = h

  lines_among : (parts : List (List ℕ)) → All P parts → All P (lines_of_parts parts)
  lines_among [] h = h
  lines_among (x ∷ []) h = go (eqb (length x) 0)
    where
      go : (t : Bool) → All P (cond t [] (x ∷ []))
      go true = All-nil P
      go false = h
  lines_among (x ∷ y ∷ more) h = All-cons P _ _ (stripped x (All-head P x (y ∷ more) h)) (lines_among (y ∷ more) (All-tail P x (y ∷ more) h))

  pub holds_of_lines : (cs : List ℕ) → AllByRecursion (λ c. is_end c ≡ false → P (encode c)) cs → All P (lines (encodes cs))
  holds_of_lines cs each = lines_among (slice_split is_end (encodes cs)) (parts_of cs each)
