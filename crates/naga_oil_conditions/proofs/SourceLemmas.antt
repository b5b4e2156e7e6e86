-- Lines paired with their covered lines.
use Rattle.std.proofs.Common.{◌-◌, Bool, true, false, cond, eqb, get_or, ◌≡◌, ℕ, ◌+◌, ◌<◌, ◌≤◌, ◌^◌, List, [], ◌∷◌, length, take, refl, sym, ap, subst, ◌∙◌, arith, length-take}
use Rattle.std.specs.Prelude.{All}
use Rattle.std.specs.List.{slice_split, onto_first}
use Rattle.std.specs.Str.Lines.{lines, lines_of_parts, strip_carriage_return}
use Rattle.std.proofs.lemmas.List.Elements.{All-cons, All-nil, All-head, All-tail}
use Rattle.naga_oil_lines.specs.declared.comment_strip_iter.CommentState.{CommentState}
use Rattle.naga_oil_lines.specs.declared.comment_strip_iter.CommentState.TheVariants.{Code}
use Rattle.naga_oil_lines.specs.Cover.{cover}
use Rattle.naga_oil_lines.specs.declared.comment_strip_iter.CommentReplaceIter.{CommentReplaceIter}
use Rattle.naga_oil_lines.specs.CoveredLines.{covered_lines, covered_lines_left, texts_left}
use Rattle.naga_oil_lines.proofs.CoverLengthLemmas.{length-cover}
use Rattle.naga_oil_conditions.specs.Line.{Line, placed, next_place, source_lines, end_place}
use Rattle.naga_oil_conditions.specs.SourceView.{Left}

abbrev pub IsEven : Line → Type 0
IsEven l = length l.covered ≤ length l.text

placed_even : (s : CommentState) (at : ℕ) (texts : List (List ℕ)) → All IsEven (placed at texts (covered_lines s texts))
placed_even s at [] = All-nil IsEven
placed_even s at (x ∷ texts) = All-cons IsEven _ _ (omega (arith, length-cover s x)) (placed_even (cover s x).1 (next_place at x) texts)

pub source_even : (text : List ℕ) → All IsEven (source_lines text)
source_even text = placed_even Code 0 (lines text)

pub placed_none : (at : ℕ) (texts covers : List (List ℕ)) → texts ≡ [] → placed at texts covers ≡ []
placed_none at texts covers e = ap (λ v. placed at v covers) e

-- the first line
pub placed_first : (at : ℕ) (texts covers more rest : List (List ℕ)) (x c : List ℕ) → texts ≡ x ∷ more → covers ≡ c ∷ rest
    → placed at texts covers ≡ record { at = at; text = x; covered = c } ∷ placed (next_place at x) more rest
placed_first at texts covers more rest x c e f = ap (λ v. placed at v covers) e ∙ ap (placed at (x ∷ more)) f

even_here : (at : ℕ) (texts covers more rest : List (List ℕ)) (x c : List ℕ) → texts ≡ x ∷ more → covers ≡ c ∷ rest → All IsEven (placed at texts covers)
    → All IsEven (record { at = at; text = x; covered = c } ∷ placed (next_place at x) more rest)
even_here at texts covers more rest x c e f h = subst (All IsEven) (placed_first at texts covers more rest x c e f) h

pub even_first : (at : ℕ) (texts covers more rest : List (List ℕ)) (x c : List ℕ) → texts ≡ x ∷ more → covers ≡ c ∷ rest → All IsEven (placed at texts covers) → length c ≤ length x
even_first at texts covers more rest x c e f h = All-head IsEven _ _ (even_here at texts covers more rest x c e f h)

pub even_on : (at : ℕ) (texts covers more rest : List (List ℕ)) (x c : List ℕ) → texts ≡ x ∷ more → covers ≡ c ∷ rest → All IsEven (placed at texts covers) → All IsEven (placed (next_place at x) more rest)
even_on at texts covers more rest x c e f h = All-tail IsEven _ _ (even_here at texts covers more rest x c e f h)

pub even_none : (at : ℕ) (texts covers : List (List ℕ)) → texts ≡ [] → All IsEven (placed at texts covers)
even_none at texts covers e = subst (λ v. All IsEven (placed at v covers)) (sym e) (All-nil IsEven)

-- the remaining lines of a text at its start
pub source_begins : (made : Left) (rest text : List ℕ) → made ≡ record { place = 0; left = source_lines rest } → rest ≡ text → made ≡ record { place = 0; left = source_lines text }
source_begins made rest text e same = subst (λ t. made ≡ record { place = 0; left = source_lines t }) same e

-- ---- the place after the lines
-- the lengths of texts, each with one byte more for its end
abbrev span : List (List ℕ) → ℕ
span [] = 0
span (x ∷ texts) = length x + 1 + span texts

span_split : (p : ℕ → Bool) (bs : List ℕ) → span (slice_split p bs) ≡ length bs + 1
span_split p [] = refl
span_split p (b ∷ bs) = go (p b) (slice_split p bs) (span_split p bs)
  where
    go : (t : Bool) (parts : List (List ℕ)) → span parts ≡ length bs + 1 → span (cond t ([] ∷ parts) (onto_first b parts)) ≡ length (b ∷ bs) + 1
    go true parts e = omega (arith, e)
    go false [] e = absurd (omega (arith, e))
    go false (part ∷ parts) e = omega (arith, e)

stripped_len : (text : List ℕ) → length (strip_carriage_return text) ≤ length text
stripped_len [] = omega arith
stripped_len (b ∷ bs) = go (eqb (get_or (b ∷ bs) (length (b ∷ bs) - 1) 0) 13)
  where
    go : (t : Bool) → length (cond t (take (length (b ∷ bs) - 1) (b ∷ bs)) (b ∷ bs)) ≤ length (b ∷ bs)
    go true = omega (arith, length-take (length (b ∷ bs) - 1) (b ∷ bs))
    go false = omega arith

span_lines : (parts : List (List ℕ)) → span (lines_of_parts parts) ≤ span parts
span_lines [] = omega arith
span_lines (x ∷ []) = go (eqb (length x) 0)
  where
    go : (t : Bool) → span (cond t [] (x ∷ [])) ≤ span (x ∷ [])
    go true = omega arith
    go false = omega arith
span_lines (x ∷ y ∷ more) = omega (arith, stripped_len x, span_lines (y ∷ more))

end_of_placed : (s : CommentState) (at : ℕ) (texts : List (List ℕ)) → end_place at (placed at texts (covered_lines s texts)) ≡ at + span texts
end_of_placed s at [] = omega arith
end_of_placed s at (x ∷ texts) = end_of_placed (cover s x).1 (next_place at x) texts ∙ omega arith

-- the place after the lines of a text fits
pub source_fits : (text : List ℕ) → length text < 2 ^ 63 → end_place 0 (source_lines text) ≤ 2 ^ 63
source_fits text fits =
    let parts = slice_split (λ b. eqb b 10) text in
    omega (arith, end_of_placed Code 0 (lines text), span_lines parts, span_split (λ b. eqb b 10) text, fits)

end_on : (at : ℕ) (ls : List Line) → at ≤ end_place at ls
end_on at [] = omega arith
end_on at (l ∷ more) = omega (arith, end_on (next_place at l.text) more)

pub room_on : (at : ℕ) (texts covers more rest : List (List ℕ)) (x c : List ℕ) → texts ≡ x ∷ more → covers ≡ c ∷ rest → end_place at (placed at texts covers) ≤ 2 ^ 63 → end_place (next_place at x) (placed (next_place at x) more rest) ≤ 2 ^ 63
room_on at texts covers more rest x c e f room = subst (λ ls. end_place at ls ≤ 2 ^ 63) (placed_first at texts covers more rest x c e f) room

pub next_fits : (at : ℕ) (texts covers more rest : List (List ℕ)) (x c : List ℕ) → texts ≡ x ∷ more → covers ≡ c ∷ rest → end_place at (placed at texts covers) ≤ 2 ^ 63 → next_place at x ≤ 2 ^ 63
next_fits at texts covers more rest x c e f room = omega (arith, room_on at texts covers more rest x c e f room, end_on (next_place at x) (placed (next_place at x) more rest))

pub room_none : (at : ℕ) (old : CommentReplaceIter) (texts covers : List (List ℕ)) → texts ≡ [] → end_place at (placed at (texts_left old) (covered_lines_left old)) ≤ 2 ^ 63 → end_place at (placed at texts covers) ≤ 2 ^ 63
room_none at old texts covers e room =
    let here = end_on at (placed at (texts_left old) (covered_lines_left old)) in
    subst (λ v. end_place at (placed at v covers) ≤ 2 ^ 63) (sym e) (omega (arith, room, here))
