-- How often a place stands in a list, and how many of its places pass a test.
use Rattle.std.specs.Prelude.{ℕ, ◌+◌, Bool, List, [], ◌∷◌, ◌==◌, cond}

-- 1 where a test passes
abbrev pub bit : Bool → ℕ
bit b = cond b 1 0

abbrev pub count : (ℕ → Bool) → List ℕ → ℕ
count p [] = 0
count p (x ∷ xs) = bit (p x) + count p xs

abbrev pub times : ℕ → List ℕ → ℕ
times x xs = count (λ y. y == x) xs
