use Rattle.std.proofs.Common.{◌≡◌, ◌++◌, length}
use Rattle.yettuvam_wgsl_write_blocks.specs.Parts.{parts_of, texts}
use Rattle.yettuvam_wgsl_write_items.specs.Text.{pieces_of}
use Rattle.yettuvam_wgsl_write_blocks.proofs.parts.push_parts.Given as goal

abbrev pub invariant-loop-rest : goal.invariant-loop-rest
invariant-loop-rest l = pieces_of l.out ++ texts (parts_of l.rest) ≡ pieces_of l.fn.out ++ texts (parts_of l.parts)

abbrev pub decreases-loop-rest : goal.decreases-loop-rest
decreases-loop-rest l = length l.rest
