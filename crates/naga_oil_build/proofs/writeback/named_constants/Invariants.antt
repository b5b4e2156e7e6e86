use Rattle.std.proofs.Common.{◌≡◌, map, take}
use Rattle.naga_oil_ir.specs.Rows.{constant_row}
use Rattle.naga_oil_build.specs.Writeback.{named_items}
use Rattle.naga_oil_build.specs.WritebackView.{named_of, items_asked}
use Rattle.naga_oil_build.proofs.writeback.named_constants.Given as goal

abbrev pub invariant-loop-place : goal.invariant-loop-place
invariant-loop-place l = map named_of l.items.items ≡ named_items (items_asked l.at (map (λ e. (constant_row e.0, e.1)) (take l.place l.of)))
