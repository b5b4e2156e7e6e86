use Rattle.std.proofs.Common.{◌≡◌, drop, fold}
use Rattle.naga_oil_words.specs.Texts.{with_name, texts}
use Rattle.naga_oil_link.proofs.link.add_names.Given as goal

abbrev pub invariant-loop-name : goal.invariant-loop-name
invariant-loop-name l = fold with_name (texts l.names.keys) (texts (drop l.name-index l.others)) ≡ fold with_name (texts l.fn.names.keys) (texts l.others)
