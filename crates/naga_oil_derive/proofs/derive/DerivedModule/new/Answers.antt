use Rattle.naga_oil_derive.proofs.DeriveLemmas.{value_empty}
use Rattle.naga_oil_derive.proofs.DeriveCalls.{nothing_at}
use Rattle.naga_oil_derive.proofs.Derivations.{derived_nothing}
use Rattle.naga_oil_derive.proofs.derive.DerivedModule.new.Goals as goal

pub invariant_of-result : goal.invariant_of-result
invariant_of-result c =
    let m = c.new.result in
    derived_nothing c.empty.result m (value_empty m c.new.ensures.special c.new.ensures.items c.new.ensures.functions c.new.ensures.rest)

pub returns : goal.returns
returns c =
    let m = c.new.result in
    nothing_at c.empty.result m c.new-2.result.entries (value_empty m c.new.ensures.special c.new.ensures.items c.new.ensures.functions c.new.ensures.rest) c.new-2.ensures.empty
