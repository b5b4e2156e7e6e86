use Rattle.std.proofs.Common.{◌≡◌, false, true, rules}
use Rattle.naga_oil_words.specs.Texts.{texts}
use Rattle.yettuvam_build.specs.Words.{is_request}
use Rattle.yettuvam_build.specs.declared.words.Awaited.TheVariants.{Nothing}
use Rattle.yettuvam_build.proofs.WordLemmas.{file_of_request}
use Rattle.yettuvam_build.proofs.words.request_of.Goals as goal

pub returns-clause-some_file : goal.returns-clause-some_file
returns-clause-some_file c =
    let is : is_request false Nothing (texts c.args.words.now) ≡ true = search rules in
    file_of_request (texts c.args.words.now) c.in_ok-collected.field-0 is c.in_ok-collected.ensures
