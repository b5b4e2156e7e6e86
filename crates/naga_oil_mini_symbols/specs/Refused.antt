-- The errors of a line.
use Rattle.std.specs.Prelude.{◌≡◌, ℕ, List, ◌++◌, Option, Some, None, Result, Ok, Err, codes}
use Rattle.naga_oil_mini_symbols.specs.declared.symbol.Refusal.{Refusal}
use Rattle.naga_oil_mini_symbols.specs.declared.symbol.Refusal.TheVariants.{NotUnderstood, Unknown, Memory}

-- a line is no item, or names what no earlier line defines
pub data LineFault : Type 0 where
  not_understood : LineFault
  unknown : List ℕ → LineFault

abbrev pub message : LineFault → List ℕ
message not_understood = codes "line not understood"
message (unknown n) = codes "unknown name " ++ n

-- a value that may be absent
abbrev pub understood : {A : Type 0} → Option A → Result A LineFault
understood None = Err not_understood
understood (Some x) = Ok x

-- a function of a value; an error stays
infixl 10 ◌>>◌
abbrev pub ◌>>◌ : {A B : Type 0} → Result A LineFault → (A → Result B LineFault) → Result B LineFault
Ok x >> f = f x
Err e >> f = Err e

-- a refusal gives the error; out of memory says nothing of the value
abbrev pub Refuses : {Y : Type 0} → Refusal → Result Y LineFault → Type 0
Refuses NotUnderstood value = value ≡ Err not_understood
Refuses (Unknown n) value = value ≡ Err (unknown n.now)
Refuses Memory value = Unit {0}

-- a result, seen by view, is the value, or is out of memory
abbrev pub Gives : {X Y : Type 0} → (X → Y) → Result X Refusal → Result Y LineFault → Type 0
Gives view (Ok x) value = value ≡ Ok (view x)
Gives view (Err e) value = Refuses e value

-- the error that a refusal gives has a property; out of memory has none
abbrev pub Faults : Refusal → (LineFault → Type 0) → Type 0
Faults NotUnderstood P = P not_understood
Faults (Unknown n) P = P (unknown n.now)
Faults Memory P = ⊥
