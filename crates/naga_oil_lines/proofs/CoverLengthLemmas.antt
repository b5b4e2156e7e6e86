-- A covered text is as long as its text.
use Rattle.std.proofs.Common.{◌≡◌, ℕ, ◌+◌, List, [], ◌∷◌, length, refl, ap, ◌∙◌, Option, Some, None, arith, length-append}
use Rattle.std.proofs.lemmas.List.{length-replicate}
use Rattle.naga_oil_lines.specs.declared.comment_strip_iter.CommentState.{CommentState}
use Rattle.naga_oil_lines.specs.declared.comment_strip_iter.CommentState.TheVariants.{Code, Block, Quote}
use Rattle.naga_oil_lines.specs.declared.comment_strip_iter.Mark.{Mark}
use Rattle.naga_oil_lines.specs.declared.comment_strip_iter.Mark.TheVariants.{LineComment, Open, Close, DoubleQuote}
use Rattle.naga_oil_lines.specs.Cover.{Covered, with_front, spaces, plain, deeper, shallower, past_quote, mark_at, cover}

length-following : (front : List ℕ) (c : Covered) (n m : ℕ) → length c.0 ≡ n → length front + n ≡ m → length (with_front front c).0 ≡ m
length-following front (t, s) n m e sum = length-append front t ∙ ap (λ v. length front + v) e ∙ sum

length-plain : (s : CommentState) (bs : List ℕ) → length (plain s bs) ≡ length bs
length-plain Code bs = refl
length-plain (Block depth) bs = length-replicate (length bs) 32
length-plain Quote bs = refl

-- the covered front, by the mark there
length-at : (s : CommentState) (a b : ℕ) (bs : List ℕ) (o : Option Mark) → ((t : CommentState) → length (cover t (b ∷ bs)).0 ≡ length (b ∷ bs)) → ((t : CommentState) → length (cover t bs).0 ≡ length bs)
    → (let c : Covered = elim o [
      | None ↦ with_front (plain s (a ∷ [])) (cover s (b ∷ bs))
      | Some LineComment ↦ with_front (spaces (length (a ∷ b ∷ bs))) ([], s)
      | Some Open ↦ with_front (spaces 2) (cover (deeper s) bs)
      | Some Close ↦ with_front (spaces 2) (cover (shallower s) bs)
      | Some DoubleQuote ↦ with_front (a ∷ []) (cover (past_quote s) (b ∷ bs))
    ] in length c.0 ≡ length (a ∷ b ∷ bs))
length-at s a b bs None one two = length-following (plain s (a ∷ [])) (cover s (b ∷ bs)) (length (b ∷ bs)) _ (one s) (omega (arith, length-plain s (a ∷ [])))
length-at s a b bs (Some LineComment) one two = length-following (spaces (length (a ∷ b ∷ bs))) ([], s) 0 _ refl (omega (arith, length-replicate {A = ℕ} (length (a ∷ b ∷ bs)) 32))
length-at s a b bs (Some Open) one two = length-following (spaces 2) (cover (deeper s) bs) (length bs) _ (two (deeper s)) (omega arith)
length-at s a b bs (Some Close) one two = length-following (spaces 2) (cover (shallower s) bs) (length bs) _ (two (shallower s)) (omega arith)
length-at s a b bs (Some DoubleQuote) one two = length-following (a ∷ []) (cover (past_quote s) (b ∷ bs)) (length (b ∷ bs)) _ (one (past_quote s)) (omega arith)

length-at_last : (s : CommentState) (a : ℕ) (o : Option Mark) → (let c : Covered = elim o [ None ↦ with_front (plain s (a ∷ [])) ([], s) | Some m ↦ with_front (a ∷ []) ([], past_quote s) ] in length c.0 ≡ 1)
length-at_last s a None = length-following (plain s (a ∷ [])) ([], s) 0 1 refl (omega (arith, length-plain s (a ∷ [])))
length-at_last s a (Some m) = refl

-- a covered line is as long as its line
pub length-cover : (s : CommentState) (bs : List ℕ) → length (cover s bs).0 ≡ length bs
unfolding cover
length-cover s [] = refl
length-cover s (a ∷ []) = length-at_last s a (mark_at s (a ∷ []))
length-cover s (a ∷ b ∷ bs) = length-at s a b bs (mark_at s (a ∷ b ∷ bs)) (λ t. length-cover t (b ∷ bs)) (λ t. length-cover t bs)
