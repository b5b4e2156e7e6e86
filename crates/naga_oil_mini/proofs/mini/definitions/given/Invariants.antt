use Rattle.std.proofs.Common.{◌≡◌, drop}
use Rattle.naga_oil_words.specs.Texts.{texts}
use Rattle.naga_oil_registry.specs.Registered.{defs_of}
use Rattle.naga_oil_mini.specs.Defined.{defined_by, definitions_among}
use Rattle.naga_oil_mini.proofs.mini.definitions.given.Given as goal

abbrev pub invariant-loop-word : goal.invariant-loop-word
invariant-loop-word l = definitions_among (texts l.words) ≡ defined_by (defs_of l.definitions) (texts (drop l.word-index l.words))
