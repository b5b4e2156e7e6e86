use Rattle.std.proofs.Common.{◌≡◌, ℕ, List, map, drop}
use Rattle.std.specs.Option.{option_or}
use Rattle.naga_oil_build.specs.Writeback.{last_named}
use Rattle.naga_oil_build.specs.WritebackView.{named_of, held}
use Rattle.naga_oil_build.proofs.writeback.by_name.Given as goal

abbrev pub invariant-loop-item : goal.invariant-loop-item
invariant-loop-item l = (name : List ℕ) → option_or (last_named (map named_of (drop l.item-index l.items)) name) (held l.back name) ≡ last_named (map named_of l.items) name
