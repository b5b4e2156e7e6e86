use Rattle.std.proofs.lemmas.Str.Pattern.{contains_text}
use Rattle.naga_oil_words.specs.Marks.{module_mark}
use Rattle.naga_oil_words.proofs.MarkLemmas.{found_is}
use Rattle.naga_oil_words.proofs.has_module_mark.Goals as goal

pub returns : goal.returns
returns c = found_is c.contains.result c.args.name.now (contains_text c.contains.result module_mark c.args.name.now c.contains.ensures.cases)
