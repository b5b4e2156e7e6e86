-- The arms so far, from the last one, and those before them make the same list.
use Rattle.std.proofs.Common.{◌≡◌, reverse}
use Rattle.std.specs.List.{flat_map}
use Rattle.naga_oil_ir.specs.Body.{case_tokens}
use Rattle.yettuvam_wgsl_lower_statements.specs.Switches.{cases, cases_before}
use Rattle.yettuvam_wgsl_values.specs.Body.{state_of}
use Rattle.yettuvam_wgsl_lower_statements.proofs.switches.cases.Given as goal

abbrev pub invariant-loop-left : goal.invariant-loop-left
invariant-loop-left l = cases_before l.left (flat_map case_tokens (reverse l.cases.items)) (state_of l.b) ≡ cases l.count (state_of l.fn.b)

abbrev pub decreases-loop-left : goal.decreases-loop-left
decreases-loop-left l = l.left
