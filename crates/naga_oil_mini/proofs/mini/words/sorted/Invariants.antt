use Rattle.std.proofs.Common.{◌≡◌, ◌++◌, drop}
use Rattle.naga_oil_mini_symbols.specs.NameTable.{texts_of}
use Rattle.naga_oil_mini.specs.Words.{files, imports}
use Rattle.naga_oil_words.specs.Texts.{texts}
use Rattle.naga_oil_mini.proofs.mini.words.sorted.Given as goal

abbrev pub invariant-loop-word : goal.invariant-loop-word
invariant-loop-word l = record {
  files : texts_of l.files.items ++ files (texts (drop l.word-index l.words)) ≡ files (texts l.words);
  imports : texts_of l.imports.items ++ imports (texts (drop l.word-index l.words)) ≡ imports (texts l.words);
}
