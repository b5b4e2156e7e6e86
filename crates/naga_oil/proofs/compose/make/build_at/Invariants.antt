use Rattle.std.proofs.Common.{◌≡◌, find}
use Rattle.std.specs.Prelude.{◌==◌}
use Rattle.naga_oil_link.specs.BuiltModule.{builds_of}
use Rattle.naga_oil.proofs.ValidatedLemmas.{builds_in}
use Rattle.naga_oil.proofs.compose.make.build_at.Given as goal

abbrev pub invariant-loop-name : goal.invariant-loop-name
invariant-loop-name l = find (λ b. b.1.index == l.index) (builds_in l.name-iterator) ≡ find (λ b. b.1.index == l.index) (builds_of l.builds)
