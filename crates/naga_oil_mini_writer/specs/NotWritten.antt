-- The results of writing, up to out of memory.
use Rattle.std.specs.Prelude.{◌≡◌, ℕ, List, ◌++◌, Option, Some, None, Result, Ok, Err}
use Rattle.naga_oil_mini_writer.specs.declared.not_written.NotWritten.{NotWritten}
use Rattle.naga_oil_mini_writer.specs.declared.not_written.NotWritten.TheVariants.{NotInMini, Memory}

-- there is no value, or memory ran out
abbrev pub Lacks : {A : Type 0} → NotWritten → Option A → Type 0
Lacks NotInMini o = o ≡ None
Lacks Memory o = Unit {0}

-- a result, seen by view, is the value, or there is no value, or memory ran out
abbrev pub Finds : {X Y : Type 0} → (X → Y) → Result X NotWritten → Option Y → Type 0
Finds view (Ok x) o = o ≡ Some (view x)
Finds view (Err e) o = Lacks e o

-- what was changed is the value now, or there is no value, or memory ran out
abbrev pub Becomes : {X Y : Type 0} → Result X NotWritten → Option Y → Y → Type 0
Becomes (Ok x) o new = o ≡ Some new
Becomes (Err e) o new = Lacks e o

-- a text is appended to another, with what is returned; or there is none, or memory ran out
abbrev pub Writes : {X Y : Type 0} → (X → Y) → Result X NotWritten → Option (List ℕ × Y) → (old new : List ℕ) → Type 0
Writes view (Ok x) o old new = (text : List ℕ) × (o ≡ Some (text, view x)) × (new ≡ old ++ text)
Writes view (Err e) o old new = Lacks e o
