use Rattle.std.proofs.Common.{◌≡◌, map, take}
use Rattle.naga_oil_lines.specs.Directives.{diagnostic_of}
use Rattle.naga_oil_lines.proofs.wgsl_directives.clone_diagnostics.Given as goal

abbrev pub invariant-loop-directive : goal.invariant-loop-directive
invariant-loop-directive l = map diagnostic_of l.copy.items ≡ map diagnostic_of (take l.directive-index l.directives)
