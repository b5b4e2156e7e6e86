use Rattle.std.proofs.Common.{◌≡◌, ◌++◌, ℕ, List}
use Rattle.std.specs.Io.KnownBytes.{Appends}
use Rattle.yettuvam_build.proofs.streams.put.Given as goal

abbrev pub invariant-loop : goal.invariant-loop
invariant-loop g l = (front : List ℕ) × (front ++ l.rest ≡ l.initial.rest) × Appends (g.W.Write.contents l.initial.to) (g.W.Write.contents l.to) front
