use Rattle.std.proofs.Common.{◌≡◌}
use Rattle.naga_oil_mini_front.specs.Making.{made_of, parameter_terms}
use Rattle.naga_oil_mini_front.proofs.making.Making.add_parameters.Given as goal

abbrev pub invariant-loop-place : goal.invariant-loop-place
invariant-loop-place l = made_of l.self ≡ record (made_of l.fn.self) { expressions = parameter_terms l.place l.fn.self.span }
