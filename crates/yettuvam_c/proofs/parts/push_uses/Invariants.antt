use Rattle.std.proofs.Common.{◌≡◌, fold, map, flat_map, drop}
use Rattle.naga_oil_imports.specs.Uses.{use_of}
use Rattle.yettuvam_c.specs.Laid.{with_part, laid_of}
use Rattle.yettuvam_c.specs.Parts.{use_parts}
use Rattle.yettuvam_c.proofs.parts.push_uses.Given as goal

abbrev pub invariant-loop-used : goal.invariant-loop-used
invariant-loop-used l = fold with_part (laid_of l.sheet) (flat_map use_parts (map use_of (drop l.used-index l.uses))) ≡ fold with_part (laid_of l.fn.sheet) (flat_map use_parts (map use_of l.uses))
