-- Levels and orders of some calls.
use Rattle.std.specs.Prelude.{◌≡◌, [], ◌∷◌, Some, None, refl}
use Rattle.naga_oil_redirect.specs.Level.{level_below, levels, by_level, without_level}

-- 0 is called by 1 and by 3, which also calls 2
branched : levels ([] ∷ (0 ∷ []) ∷ [] ∷ (2 ∷ 0 ∷ []) ∷ []) ≡ Some 0 ∷ Some 1 ∷ Some 0 ∷ Some 1 ∷ []
unfolding level_below
branched = refl

-- 1 calls 2, which stands after it
turned : by_level (levels ([] ∷ (2 ∷ []) ∷ [] ∷ [])) ≡ 0 ∷ 2 ∷ 1 ∷ []
unfolding level_below
turned = refl

-- the longest way counts
longest : levels ((1 ∷ 2 ∷ []) ∷ (2 ∷ []) ∷ [] ∷ []) ≡ Some 2 ∷ Some 1 ∷ Some 0 ∷ []
unfolding level_below
longest = refl

-- 1 and 2 call each other, 3 calls one of them, and 0 none
circular : without_level (levels ([] ∷ (2 ∷ 2 ∷ []) ∷ (1 ∷ []) ∷ (0 ∷ 1 ∷ []) ∷ [])) ≡ 1 ∷ 2 ∷ 3 ∷ []
unfolding level_below
circular = refl

-- a function that calls itself
alone : levels ((0 ∷ []) ∷ []) ≡ None ∷ []
unfolding level_below
alone = refl
