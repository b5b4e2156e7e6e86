-- Names in order.
use Rattle.std.specs.Prelude.{◌≡◌, ℕ, suc, List, [], ◌∷◌, map, Option, Some, None, option_map, bytes_eq, if◌then◌else◌}
use Rattle.std.specs.Option.{option_or}
use Rattle.std.specs.Borrow.{Bor}
use Rattle.std.specs.HashMap.{HashMap, get_by}

-- the place of the last of the names that equal q
abbrev pub last_place : List ℕ → List (List ℕ) → Option ℕ
last_place q [] = None
last_place q (n ∷ ns) = option_or (option_map suc (last_place q ns)) (if bytes_eq n q then Some 0 else None)

-- names as the code has them
abbrev pub texts_of : List (Bor (List ℕ)) → List (List ℕ)
texts_of ts = map (λ t. t.now) ts

-- the value of a map at a name
abbrev pub place_in : {S : Type 0} → HashMap (Bor (List ℕ)) ℕ S → List ℕ → Option ℕ
place_in m q = get_by (λ k. bytes_eq q k.now) m

-- a map, if there is one, has the last place of each name
abbrev pub Finds : {S : Type 0} → Option (HashMap (Bor (List ℕ)) ℕ S) → List (List ℕ) → Type 0
Finds None ns = Unit {0}
Finds (Some m) ns = (q : List ℕ) → place_in m q ≡ last_place q ns
