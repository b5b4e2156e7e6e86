use Rattle.std.proofs.Common.{◌≡◌, fold, map, string_bytes}
use Rattle.naga_oil_registry.specs.Registered.{defs_of}
use Rattle.yettuvam_c.specs.Laid.{with_part, laid_of}
use Rattle.yettuvam_c.specs.Parts.{define_part}
use Rattle.yettuvam_c.proofs.parts.push_defines.Given as goal

abbrev pub invariant-loop-name : goal.invariant-loop-name
invariant-loop-name l = fold with_part (laid_of l.sheet) (map define_part (map (λ e. (string_bytes e.0, e.1)) l.name-iterator)) ≡ fold with_part (laid_of l.fn.sheet) (map define_part (defs_of l.defines))
