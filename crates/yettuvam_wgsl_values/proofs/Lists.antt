-- Parts of a list, seen by a function.
use Rattle.std.proofs.Common.{◌≡◌, ℕ, zero, suc, List, [], ◌∷◌, map, take, drop, sym, refl}
use Rattle.std.proofs.lemmas.List.{take-map}

pub take_of_map : {X Y : Type 0} (f : X → Y) (n : ℕ) (xs : List X) → map f (take n xs) ≡ take n (map f xs)
take_of_map f n xs = sym (take-map f n xs)

pub drop_of_map : {X Y : Type 0} (f : X → Y) (n : ℕ) (xs : List X) → map f (drop n xs) ≡ drop n (map f xs)
drop_of_map f zero xs = refl
drop_of_map f (suc n) [] = refl
drop_of_map f (suc n) (x ∷ xs) = drop_of_map f n xs
