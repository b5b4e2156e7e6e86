use Rattle.naga_oil_derive.proofs.maps.Maps.empty.Goals as goal

pub returns-clause-places : goal.returns-clause-places
returns-clause-places c = λ i. record { types = c.new.ensures.items i; constants = c.new-2.ensures.items i; overrides = c.new-3.ensures.items i; global_variables = c.new-4.ensures.items i; global_expressions = c.new-5.ensures.items i }
