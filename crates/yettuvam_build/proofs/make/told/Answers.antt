use Rattle.std.proofs.Common.{◌≡◌, ◌∷◌, false, map, string_bytes, rules}
use Rattle.std.specs.Prelude.{is_none}
use Rattle.naga_oil_conditions.specs.View.{fault_of}
use Rattle.yettuvam_build.specs.Files.{file_of}
use Rattle.yettuvam_build.proofs.BuiltLemmas.{has_report}
use Rattle.yettuvam_build.proofs.make.told.Goals as goal

pub returns-in-Ok : goal.returns-in-Ok
returns-in-Ok g c =
    let error = c.args.error.now in
    let some : is_none (fault_of error.inner) ≡ false = search rules in
    has_report (file_of c.args.top.now ∷ map file_of c.args.others.now) c.args.counter c.args.composer.now.registry error (string_bytes c.in-Ok.report) some c.in-Ok.ensures
