use Rattle.std.proofs.Common.{◌≡◌}
use Rattle.naga_oil_words.specs.Texts.{texts}
use Rattle.naga_oil_build.specs.Writeback.{have_come_back}
use Rattle.naga_oil_build.specs.WritebackView.{held}
use Rattle.naga_oil_build.proofs.writeback.have_come_back.Given as goal

abbrev pub invariant-loop-name : goal.invariant-loop-name
invariant-loop-name l = have_come_back (held l.back) (texts l.name-iterator) ≡ have_come_back (held l.back) (texts l.names.keys)
