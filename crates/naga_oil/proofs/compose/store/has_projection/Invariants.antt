use Rattle.std.proofs.Common.{◌≡◌, map}
use Rattle.std.specs.Cmp.Lexicographic.{pointwise}
use Rattle.naga_oil_registry.specs.Registered.{definition_of, defs_of}
use Rattle.naga_oil.specs.Store.{project, same_def}
use Rattle.naga_oil.specs.StoreView.{def_of}
use Rattle.naga_oil.proofs.compose.store.has_projection.Given as goal

abbrev pub invariant-loop-name : goal.invariant-loop-name
invariant-loop-name l = pointwise same_def (project (definition_of l.of) (map def_of l.name-iterator)) (map def_of l.kept) ≡ pointwise same_def (project (definition_of l.of) (defs_of l.defs)) (map def_of l.key.defs.items)
