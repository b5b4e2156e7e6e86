use Rattle.std.proofs.Common.{◌≡◌}
use Rattle.naga_oil_registry.specs.Registered.{defs_of}
use Rattle.naga_oil.specs.Shader.{are_among}
use Rattle.naga_oil_registry.proofs.MergedLemmas.{named}
use Rattle.naga_oil.proofs.compose.shader.are_among.Given as goal

abbrev pub invariant-loop-name : goal.invariant-loop-name
invariant-loop-name l = are_among (named l.name-iterator) (defs_of l.others) ≡ are_among (defs_of l.defs) (defs_of l.others)
