use Rattle.std.proofs.Common.{◌≡◌, map, drop}
use Rattle.naga_oil_imports.specs.Uses.{use_of}
use Rattle.naga_oil_registry.specs.Registered.{defs_of}
use Rattle.naga_oil.specs.Shader.{defs_union_over}
use Rattle.naga_oil.proofs.compose.shader.merge.Given as goal

abbrev pub invariant-loop-import : goal.invariant-loop-import
invariant-loop-import l = defs_union_over l.modules (defs_of l.defs) (map use_of (drop l.import-index l.imports)) ≡ defs_union_over l.modules (defs_of l.fn.defs) (map use_of l.imports)
