use Rattle.std.proofs.Common.{◌≡◌}
use Rattle.naga_oil_registry.specs.Registered.{defs_of}
use Rattle.naga_oil.specs.Shader.{defs_union}
use Rattle.naga_oil_registry.proofs.MergedLemmas.{named}
use Rattle.naga_oil.proofs.compose.shader.add_consistent.Given as goal

abbrev pub invariant-loop-name : goal.invariant-loop-name
invariant-loop-name l = defs_union (defs_of l.defs) (named l.name-iterator) ≡ defs_union (defs_of l.fn.defs) (defs_of l.others)
