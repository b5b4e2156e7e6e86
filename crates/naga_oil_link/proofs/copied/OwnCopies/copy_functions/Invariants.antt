use Rattle.std.proofs.Common.{◌≡◌, take, fold}
use Rattle.naga_oil_link.specs.CopiedBuild.{with_function}
use Rattle.naga_oil_link.specs.CopySources.{CopiesFrom, shown_functions}
use Rattle.naga_oil_link.proofs.copied.OwnCopies.copy_functions.Given as goal

abbrev pub invariant-loop-item : goal.invariant-loop-item
invariant-loop-item l = record {
  source : CopiesFrom l.source l.self.derived;
  value : l.self.derived ≡ fold with_function l.fn.self.derived (shown_functions (take l.item-index l.functions));
  own : l.self.own ≡ l.fn.self.own;
}
