use Rattle.std.proofs.Common.{◌≡◌, map, drop, fold}
use Rattle.naga_oil_words.specs.Texts.{with_name, texts}
use Rattle.naga_oil_registry.specs.KeywordsView.{marked_of}
use Rattle.naga_oil_build.specs.Virtuals.{names_of}
use Rattle.naga_oil_build.proofs.virtuals.names_of.Given as goal

abbrev pub invariant-loop-function : goal.invariant-loop-function
invariant-loop-function l = fold with_name (texts l.names.keys) (map (λ f. f.name) (map marked_of (drop l.function-index l.functions))) ≡ names_of (map marked_of l.functions)
