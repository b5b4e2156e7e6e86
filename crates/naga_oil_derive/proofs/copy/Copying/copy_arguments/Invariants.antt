use Rattle.std.proofs.Common.{◌≡◌, take}
use Rattle.naga_oil_derive.specs.Stubs.{argument_types}
use Rattle.naga_oil_derive.specs.World.{value_of}
use Rattle.naga_oil_derive.specs.Copied.{copy_state, copy_all}
use Rattle.naga_oil_derive.specs.Putting.{Putting}
use Rattle.naga_oil_derive.proofs.copy.Copying.copy_arguments.Given as goal

abbrev pub invariant-loop-argument : goal.invariant-loop-argument
invariant-loop-argument l = record {
  state : copy_state l.self.maps l.self.target ≡ copy_all (value_of l.source) l.fn.self.maps.offset (copy_state l.fn.self.maps l.fn.self.target) (take l.argument-index (argument_types l.arguments));
  putting : Putting (value_of l.source) l.fn.self.maps.offset (copy_state l.fn.self.maps l.fn.self.target) (copy_state l.self.maps l.self.target);
  offset : l.self.maps.offset ≡ l.fn.self.maps.offset;
}
