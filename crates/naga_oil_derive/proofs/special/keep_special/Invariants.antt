use Rattle.std.proofs.Common.{◌≡◌, take}
use Rattle.naga_oil_ir.specs.ModuleValue.{special_value}
use Rattle.naga_oil_derive.specs.World.{special_at}
use Rattle.naga_oil_derive.specs.Copying.{kept_over}
use Rattle.naga_oil_derive.proofs.special.keep_special.Given as goal

abbrev pub invariant-loop-key : goal.invariant-loop-key
invariant-loop-key l =
    l.types ≡ kept_over (special_at (special_value l.target)) (take l.key-index l.entries) l.fn.types
