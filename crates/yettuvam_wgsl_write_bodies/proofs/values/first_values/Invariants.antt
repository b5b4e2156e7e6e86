use Rattle.std.proofs.Common.{◌≡◌, length}
use Rattle.naga_oil_ir.specs.ModuleValue.{expression_values}
use Rattle.yettuvam_wgsl_write_bodies.specs.Setting.{setting_of}
use Rattle.yettuvam_wgsl_write_bodies.specs.Values.{each_first, first_values}
use Rattle.yettuvam_wgsl_write_types.specs.Types.{values_of}
use Rattle.yettuvam_wgsl_write_bodies.proofs.values.first_values.Given as goal

abbrev pub invariant-loop-rest : goal.invariant-loop-rest
invariant-loop-rest l = each_first (setting_of l.s) (values_of l.known.items) (expression_values l.rest) ≡ first_values (setting_of l.s)

abbrev pub decreases-loop-rest : goal.decreases-loop-rest
decreases-loop-rest l = length l.rest
