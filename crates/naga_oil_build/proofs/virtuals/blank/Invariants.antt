use Rattle.std.proofs.Common.{◌≡◌, map, drop}
use Rattle.std.specs.BTreeMap.{get}
use Rattle.std.specs.Ordering.{nat_cmp}
use Rattle.naga_oil_registry.specs.KeywordsView.{marked_of}
use Rattle.naga_oil_build.specs.Virtuals.{blanked}
use Rattle.naga_oil_build.proofs.virtuals.blank.Given as goal

abbrev pub invariant-loop-function : goal.invariant-loop-function
invariant-loop-function l = blanked l.blank (get nat_cmp l.edits) (map marked_of (drop l.function-index l.functions)) ≡ blanked l.blank (get nat_cmp l.fn.edits) (map marked_of l.functions)
