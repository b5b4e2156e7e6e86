use Rattle.std.proofs.Common.{◌≡◌, ◌+◌, ◌≤◌, drop, length}
use Rattle.naga_oil_mini.specs.Words.{files, imports}
use Rattle.naga_oil_words.specs.Texts.{texts}
use Rattle.naga_oil_mini.proofs.mini.words.counts.Given as goal

abbrev pub invariant-loop-word : goal.invariant-loop-word
invariant-loop-word l = record {
  files : l.files + length (files (texts (drop l.word-index l.words))) ≡ length (files (texts l.words));
  imports : l.imports + length (imports (texts (drop l.word-index l.words))) ≡ length (imports (texts l.words));
  files_bound : l.files ≤ l.word-index;
  imports_bound : l.imports ≤ l.word-index;
}
