-- The rows that are left have the same answer, and are fewer.
use Rattle.std.proofs.Common.{◌≡◌, length}
use Rattle.yettuvam_wgsl_names.specs.Table.{named}
use Rattle.yettuvam_wgsl_names.specs.Codes.{code_of}
use Rattle.yettuvam_wgsl_attribute_rules.proofs.words.code_in.Given as goal

abbrev pub invariant-loop-rest : goal.invariant-loop-rest
invariant-loop-rest l = code_of (named l.rest) l.name ≡ code_of (named l.table) l.name

abbrev pub decreases-loop-rest : goal.decreases-loop-rest
decreases-loop-rest l = length l.rest
