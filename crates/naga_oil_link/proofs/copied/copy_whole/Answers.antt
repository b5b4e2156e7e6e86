use Rattle.std.proofs.Common.{fold}
use Rattle.naga_oil_link.specs.CopiedBuild.{with_function}
use Rattle.naga_oil_link.specs.CopySources.{shown_functions}
use Rattle.naga_oil_link.proofs.CopiedLemmas.{copies_then}
use Rattle.naga_oil_link.proofs.copied.copy_whole.Goals as goal

pub returns-clause-value : goal.returns-clause-value
returns-clause-value c = copies_then c.in_ok-copies.copies c.copy_functions.new.self _ (λ d. fold with_function d (shown_functions c.args.functions.now)) c.in_ok-copies.ensures.value c.in_ok-copy_functions.ensures.value c.copy_functions.ensures.own
