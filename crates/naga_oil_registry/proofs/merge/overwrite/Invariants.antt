use Rattle.std.proofs.Common.{◌≡◌, map, string_bytes}
use Rattle.naga_oil_registry.specs.Registered.{defs_of}
use Rattle.naga_oil_registry.specs.Merged.{overwritten}
use Rattle.naga_oil_registry.proofs.merge.overwrite.Given as goal

abbrev pub invariant-loop-name : goal.invariant-loop-name
invariant-loop-name l = overwritten (defs_of l.defs) (map (λ e. (string_bytes e.0, e.1)) l.name-iterator) ≡ overwritten (defs_of l.fn.defs) (defs_of l.others)
