-- Steps that may fail, one after the other, for `do`.
use Rattle.std.specs.Prelude.{Result, Ok, Err}

-- the next step takes the value; the first error ends all
infixl 10 ◌>>=◌
abbrev pub ◌>>=◌ : {A B F : Type 0} → Result A F → (A → Result B F) → Result B F
(Ok x) >>= f = f x
(Err e) >>= f = Err e
