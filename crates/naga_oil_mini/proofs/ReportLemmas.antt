-- The refusal of a text with an error.
use Rattle.std.proofs.Common.{◌≡◌, ℕ, List, false, Option, Some, None, MatchOption, Result, Err, sym}
use Rattle.std.proofs.lemmas.Bool.{false≢true}
use Rattle.std.specs.Prelude.{is_none}
use Rattle.naga_oil_conditions.specs.Fault.{Fault}

-- the refusal of an error has its report
pub told : {Y : Type 0} (fault : Option Fault) (as_told : Option Fault → List ℕ) (value : Result Y Fault) (text : List ℕ) → is_none fault ≡ false → MatchOption fault (Unit {0}) (λ f. value ≡ Err f) → text ≡ as_told fault → (f : Fault) × (value ≡ Err f) × (text ≡ as_told (Some f))
told None as_told value text some fails is = absurd (false≢true (sym some))
told (Some f) as_told value text some fails is = (f, fails, is)
