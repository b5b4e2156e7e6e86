use Rattle.std.proofs.Common.{arith}
use Rattle.std.proofs.lemmas.Str.Pattern.{strip_prefix_char}
use Rattle.naga_oil_mini.proofs.WordLemmas.{import_of_value}
use Rattle.naga_oil_mini.proofs.mini.words.import_of.Goals as goal

pub returns : goal.returns
returns c = import_of_value _ _ (strip_prefix_char 43 _ _ c.strip_prefix.ensures.cases (omega arith))
