use Rattle.std.proofs.Common.{◌≡◌, fold, map}
use Rattle.naga_oil_words.specs.Texts.{texts}
use Rattle.yettuvam_c.specs.Laid.{with_part, laid_of}
use Rattle.yettuvam_c.specs.Parts.{recorded_part}
use Rattle.yettuvam_c.proofs.parts.push_names.Given as goal

abbrev pub invariant-loop-name : goal.invariant-loop-name
invariant-loop-name l = fold with_part (laid_of l.sheet) (map recorded_part (texts l.name-iterator)) ≡ fold with_part (laid_of l.fn.sheet) (map recorded_part (texts l.names.keys))
