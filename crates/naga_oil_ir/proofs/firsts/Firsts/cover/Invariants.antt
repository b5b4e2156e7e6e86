use Rattle.std.proofs.Common.{length, ◌-◌}
use Rattle.naga_oil_ir.specs.Firsts.{Covers}
use Rattle.naga_oil_ir.proofs.firsts.Firsts.cover.Given as goal

abbrev pub invariant-loop-self : goal.invariant-loop-self
invariant-loop-self g l = Covers g.T.Item.digest l.items l.self.covered l.self.places.entries

abbrev pub decreases-loop-self : goal.decreases-loop-self
decreases-loop-self g l = length l.items - l.self.covered
