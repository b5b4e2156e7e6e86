use Rattle.std.proofs.Common.{◌≡◌, map, take}
use Rattle.naga_oil_lines.specs.Directives.{requires_of}
use Rattle.naga_oil_lines.proofs.wgsl_directives.clone_requires.Given as goal

abbrev pub invariant-loop-directive : goal.invariant-loop-directive
invariant-loop-directive l = map requires_of l.copy.items ≡ map requires_of (take l.directive-index l.directives)
