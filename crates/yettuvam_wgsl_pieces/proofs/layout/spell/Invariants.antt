use Rattle.std.proofs.Common.{◌≡◌, ◌++◌, length, map, string_bytes}
use Rattle.yettuvam_wgsl_pieces.specs.Layout.{spell_from}
use Rattle.yettuvam_wgsl_pieces.specs.Pieces.{piece_of}
use Rattle.yettuvam_wgsl_pieces.proofs.layout.spell.Given as goal

abbrev pub invariant-loop-rest : goal.invariant-loop-rest
invariant-loop-rest l = string_bytes l.out ++ spell_from l.depth (map piece_of l.rest) ≡ string_bytes l.fn.out ++ spell_from 0 (map piece_of l.pieces)

abbrev pub decreases-loop-rest : goal.decreases-loop-rest
decreases-loop-rest l = length l.rest
