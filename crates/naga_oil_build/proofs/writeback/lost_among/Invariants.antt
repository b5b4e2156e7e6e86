use Rattle.std.proofs.Common.{◌≡◌, map, drop}
use Rattle.naga_oil_words.specs.Texts.{texts}
use Rattle.naga_oil_build.specs.Writeback.{lost_among}
use Rattle.naga_oil_build.specs.WritebackView.{named_of, held}
use Rattle.naga_oil_build.proofs.writeback.lost_among.Given as goal

abbrev pub invariant-loop-item : goal.invariant-loop-item
invariant-loop-item l = lost_among (texts l.owned.keys) l.decoration (held l.back) (map named_of (drop l.item-index l.items)) ≡ lost_among (texts l.owned.keys) l.decoration (held l.back) (map named_of l.items)
