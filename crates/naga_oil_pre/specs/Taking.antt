-- The lines that an import takes, given to a sink one after another.
use Rattle.std.specs.Prelude.{◌≡◌, List, [], ◌∷◌}
use Rattle.naga_oil_conditions.specs.Line.{Line}

-- the old sink becomes the new one by these lines, where `takes` says what one line does
abbrev pub TakesAll : {S : Type 0} → (takes : S → Line → S → Type 0) → (old : S) → List Line → (new : S) → Type 0
TakesAll takes old [] new = new ≡ old
TakesAll {S = S} takes old (l ∷ ls) new = (mid : S) × takes old l mid × TakesAll takes mid ls new
