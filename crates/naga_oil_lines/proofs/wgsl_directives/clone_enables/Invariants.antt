use Rattle.std.proofs.Common.{◌≡◌, map, take}
use Rattle.naga_oil_lines.specs.Directives.{enable_of}
use Rattle.naga_oil_lines.proofs.wgsl_directives.clone_enables.Given as goal

abbrev pub invariant-loop-directive : goal.invariant-loop-directive
invariant-loop-directive l = map enable_of l.copy.items ≡ map enable_of (take l.directive-index l.directives)
