use Rattle.std.proofs.Common.{◌≡◌, drop}
use Rattle.naga_oil_words.specs.Texts.{texts}
use Rattle.naga_oil_build.specs.Overriding.{overriding_of, overridden_by}
use Rattle.naga_oil_build.proofs.builder.add_overriding.Given as goal

abbrev pub invariant-loop-name : goal.invariant-loop-name
invariant-loop-name l = overridden_by (overriding_of l.all) l.base (texts (drop l.name-index l.names)) ≡ overridden_by (overriding_of l.fn.all) l.base (texts l.names)
