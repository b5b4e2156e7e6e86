-- Steps that may give no value, one after the other, for `do`.
use Rattle.std.specs.Prelude.{Option, option_and_then}

-- the next step takes the value; without a value there is none
infixl 10 ◌>>=◌
abbrev pub ◌>>=◌ : {A B : Type 0} → Option A → (A → Option B) → Option B
o >>= f = option_and_then f o
