use Rattle.std.proofs.Common.{◌≡◌}
use Rattle.naga_oil_build.specs.Overriding.{overriding_of, with_overriding}
use Rattle.naga_oil_build.proofs.OverridingLemmas.{over}
use Rattle.naga_oil_build.proofs.builder.add_overrides.Given as goal

abbrev pub invariant-loop-base : goal.invariant-loop-base
invariant-loop-base l = with_overriding (overriding_of l.all) (over l.base-iterator) ≡ with_overriding (overriding_of l.fn.all) (overriding_of l.others)
