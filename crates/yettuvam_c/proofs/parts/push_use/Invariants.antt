use Rattle.std.proofs.Common.{◌≡◌, fold, map, drop, string_bytes}
use Rattle.naga_oil_imports.specs.Uses.{use_of}
use Rattle.yettuvam_c.specs.Laid.{plain, with_part, laid_of}
use Rattle.yettuvam_c.specs.Parts.{use_parts}
use Rattle.yettuvam_c.proofs.parts.push_use.Given as goal

abbrev pub invariant-loop-item : goal.invariant-loop-item
invariant-loop-item l = fold with_part (laid_of l.sheet) (map (λ name. plain 3 name 0) (map string_bytes (drop l.item-index l.item-items))) ≡ fold with_part (laid_of l.fn.sheet) (use_parts (use_of l.used))
