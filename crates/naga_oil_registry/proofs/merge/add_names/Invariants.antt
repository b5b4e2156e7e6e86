use Rattle.std.proofs.Common.{◌≡◌, fold}
use Rattle.naga_oil_words.specs.Texts.{with_name, texts}
use Rattle.naga_oil_registry.proofs.merge.add_names.Given as goal

abbrev pub invariant-loop-name : goal.invariant-loop-name
invariant-loop-name l = fold with_name (texts l.names.keys) (texts l.name-iterator) ≡ fold with_name (texts l.fn.names.keys) (texts l.others.keys)
