use Rattle.std.proofs.Common.{◌≡◌, ◌++◌, string_bytes}
use Rattle.yettuvam_wgsl_pieces.specs.Layout.{indent}
use Rattle.yettuvam_wgsl_pieces.proofs.layout.push_indent.Given as goal

abbrev pub invariant-loop-rest : goal.invariant-loop-rest
invariant-loop-rest l = string_bytes l.out ++ indent l.rest ≡ string_bytes l.fn.out ++ indent l.depth

abbrev pub decreases-loop-rest : goal.decreases-loop-rest
decreases-loop-rest l = l.rest
