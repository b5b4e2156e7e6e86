use Rattle.std.proofs.Common.{fold}
use Rattle.naga_oil_link.specs.CopiedBuild.{with_stub}
use Rattle.naga_oil_link.specs.CopySources.{shown_functions}
use Rattle.naga_oil_link.proofs.CopiedLemmas.{copies_then}
use Rattle.naga_oil_link.proofs.copied.copy_header.Goals as goal

pub returns : goal.returns
returns c = copies_then c.in_ok-copies.copies c.copy_stubs.new.self _ (λ d. fold with_stub d (shown_functions c.args.functions.now)) c.in_ok-copies.ensures.value c.in_ok-copy_stubs.ensures.value c.copy_stubs.ensures.own
