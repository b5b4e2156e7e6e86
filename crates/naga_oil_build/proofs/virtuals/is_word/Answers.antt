use Rattle.std.proofs.Common.{rules}
use borrow.Author.Tests.{tests}
use Rattle.std.proofs.lemmas.Iterator.{YieldsList-from_chars}
use Rattle.std.proofs.lemmas.Iterator.Search.{all_from_yields_List}
use Rattle.ucd_perl.specs.Perl.{is_word_char}
use Rattle.naga_oil_build.proofs.virtuals.is_word.Goals as goal

pub returns : goal.returns
returns c = all_from_yields_List is_word_char _ _ _ c.all.ensures.ran (YieldsList-from_chars c.args.text.now c.utf8.text (search rules)) (λ x b q k. search (rules, tests))
