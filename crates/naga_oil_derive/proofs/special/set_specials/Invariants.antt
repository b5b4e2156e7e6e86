use Rattle.std.proofs.Common.{◌≡◌, take}
use Rattle.naga_oil_ir.specs.ModuleValue.{special_value}
use Rattle.naga_oil_derive.specs.World.{with_specials}
use Rattle.naga_oil_derive.specs.Copying.{handle_under}
use Rattle.naga_oil_derive.proofs.special.set_specials.Given as goal

abbrev pub invariant-loop-key : goal.invariant-loop-key
invariant-loop-key l =
    special_value l.special ≡ with_specials (special_value l.fn.special) (handle_under l.maps.types.items) (take l.key-index l.entries)
