use Rattle.std.proofs.Common.{◌≡◌, [], drop}
use Rattle.std.specs.BTreeMap.{get_by_text}
use Rattle.naga_oil_pre.specs.Metadata.{none_defined}
use Rattle.naga_oil_registry.specs.Registered.{defs_of}
use Rattle.yettuvam_c.specs.Given.{defined_by, listed}
use Rattle.yettuvam_c.proofs.given.given.Given as goal

abbrev pub invariant-loop-index : goal.invariant-loop-index
invariant-loop-index l = (defined_by 0 none_defined l.definitions ≡ defined_by l.index (get_by_text l.defs) (drop l.index l.definitions))
    × (listed [] l.definitions ≡ listed (defs_of l.defs) (drop l.index l.definitions))
