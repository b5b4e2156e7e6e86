use Rattle.std.proofs.Common.{◌≡◌}
use Rattle.naga_oil_words.specs.Texts.{texts}
use Rattle.naga_oil_link.specs.CopiedBuild.{ending_of}
use Rattle.naga_oil_link.proofs.copied.ending_of.Given as goal

abbrev pub invariant-loop-name : goal.invariant-loop-name
invariant-loop-name l = ending_of (texts l.name-iterator) l.decoration ≡ ending_of (texts l.names.keys) l.decoration
