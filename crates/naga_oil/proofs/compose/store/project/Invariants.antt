use Rattle.std.proofs.Common.{◌≡◌, ◌++◌, map}
use Rattle.naga_oil_registry.specs.Registered.{definition_of, defs_of}
use Rattle.naga_oil.specs.Store as spec
use Rattle.naga_oil.specs.StoreView.{def_of}
use Rattle.naga_oil.proofs.compose.store.project.Given as goal

abbrev pub invariant-loop-name : goal.invariant-loop-name
invariant-loop-name l = map def_of l.projected.items ++ spec.project (definition_of l.of) (map def_of l.name-iterator) ≡ spec.project (definition_of l.of) (defs_of l.defs)
