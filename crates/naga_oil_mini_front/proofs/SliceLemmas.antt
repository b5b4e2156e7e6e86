-- What slice patterns read.
use Rattle.std.proofs.Common.{◌≡◌, ℕ, ◌≤◌, ◌-◌, List, [], ◌∷◌, length, get_or, take, drop, ap, sym, ◌∙◌, arith, length-drop, drop-cons}
use Rattle.std.proofs.lemmas.List.{take_all}

pub rest_whole : {A : Type 0} (xs : List A) (n : ℕ) → take (length xs - n) (drop n xs) ≡ drop n xs
rest_whole xs n = take_all (length xs - n) (drop n xs) (omega (arith, length-drop n xs))

pub first_and_rest : {A : Type 0} (xs : List A) (x : A) → 1 ≤ length xs → get_or xs 0 x ≡ x → xs ≡ x ∷ take (length xs - 1) (drop 1 xs)
first_and_rest xs x some is = drop-cons xs 0 x (omega arith) ∙ ap (λ y. y ∷ drop 1 xs) is ∙ ap (λ t. x ∷ t) (sym (rest_whole xs 1))

pub first_and_more : {A : Type 0} (xs : List A) (x : A) → 2 ≤ length xs → get_or xs 0 x ≡ x → (y : A) × (rest : List A) × (xs ≡ x ∷ y ∷ rest) × (take (length xs - 1) (drop 1 xs) ≡ y ∷ rest)
first_and_more [] x some is = absurd (omega arith)
first_and_more (a ∷ []) x some is = absurd (omega arith)
first_and_more (a ∷ y ∷ rest) x some is = (y, rest, ap (λ b. b ∷ y ∷ rest) is, rest_whole (a ∷ y ∷ rest) 1)
