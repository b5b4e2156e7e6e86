-- Declarations found by their names, worked by hand.
use Rattle.std.specs.Prelude.{◌≡◌, refl, ℕ, [], ◌∷◌, Some, None, codes}
use Rattle.yettuvam_wgsl_scope.specs.LocalTable.{chosen, newest_place}

-- of `a`, `b`, `a`, from the newest to the oldest, the newest `a` is at place 2, `b` at place 1
newest_rows :
    (newest_place (codes "a") (codes "a" ∷ codes "b" ∷ codes "a" ∷ []) ≡ Some 2)
    × (newest_place (codes "b") (codes "a" ∷ codes "b" ∷ codes "a" ∷ []) ≡ Some 1)
    × (newest_place (codes "c") (codes "a" ∷ codes "b" ∷ codes "a" ∷ []) ≡ None)
newest_rows = (refl, refl, refl)

-- a declaration before the first that count isn't chosen
chosen_rows :
    (chosen {X = ℕ} 1 (7 ∷ 8 ∷ 9 ∷ []) (Some 2) ≡ Some 9)
    × (chosen {X = ℕ} 1 (7 ∷ 8 ∷ 9 ∷ []) (Some 0) ≡ None)
    × (chosen {X = ℕ} 0 (7 ∷ []) None ≡ None)
chosen_rows = (refl, refl, refl)
