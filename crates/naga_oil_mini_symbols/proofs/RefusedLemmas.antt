-- A function of an absent value.
use Rattle.std.proofs.Common.{Result, ap}
use Rattle.naga_oil_mini_symbols.specs.Refused.{LineFault, Refuses, ◌>>◌}
use Rattle.naga_oil_mini_symbols.specs.declared.symbol.Refusal.{Refusal}
use Rattle.naga_oil_mini_symbols.specs.declared.symbol.Refusal.TheVariants.{NotUnderstood, Unknown, Memory}

pub Refuses-then : {A B : Type 0} (e : Refusal) (v : Result A LineFault) (f : A → Result B LineFault) → Refuses e v → Refuses e (v >> f)
Refuses-then NotUnderstood v f h = ap (λ r. r >> f) h
Refuses-then (Unknown n) v f h = ap (λ r. r >> f) h
Refuses-then Memory v f h = tt
