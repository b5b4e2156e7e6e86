use Rattle.std.proofs.Common.{◌≡◌, Option, Some, None, option_map, map, drop}
use Rattle.std.specs.BTreeMap.{get}
use Rattle.std.specs.Ordering.{nat_cmp}
use Rattle.naga_oil_imports.specs.Uses.{import_of}
use Rattle.naga_oil_conditions.specs.Fault.{Fault}
use Rattle.naga_oil_conditions.specs.View.{fault_of}
use Rattle.naga_oil_link.specs.BuiltModule.{builds_of}
use Rattle.naga_oil_registry.specs.KeywordsView.{marked_of}
use Rattle.naga_oil_build.specs.Overriding.{overriding_of}
use Rattle.naga_oil_build.specs.Virtuals.{with_overrides}
use Rattle.naga_oil_build.proofs.virtuals.read_overrides.Given as goal

abbrev pub invariant-loop-function : goal.invariant-loop-function
invariant-loop-function l =
    (known : Option Fault) × (option_map fault_of l.last ≡ option_map (λ f. Some f) known)
    × (with_overrides l.over.override_any (builds_of l.over.builds.now) (map import_of l.over.imports.now) l.over.decoration.now (record { edits = get nat_cmp l.edits; overriding = overriding_of l.overriding; fault = known }) (map marked_of (drop l.function-index l.functions))
    ≡ with_overrides l.over.override_any (builds_of l.over.builds.now) (map import_of l.over.imports.now) l.over.decoration.now (record { edits = get nat_cmp l.fn.edits; overriding = overriding_of l.fn.overriding; fault = None }) (map marked_of l.functions))
