use Rattle.std.proofs.Common.{◌≡◌, false, string_bytes, rules}
use Rattle.std.specs.Prelude.{is_none}
use Rattle.naga_oil_conditions.specs.View.{fault_of}
use Rattle.naga_oil_mini.proofs.MadeLemmas.{has_report}
use Rattle.naga_oil_mini.proofs.mini.make.told.Goals as goal

pub returns-in-Ok : goal.returns-in-Ok
returns-in-Ok c =
    let some : is_none (fault_of c.args.error.inner) ≡ false = search rules in
    has_report c.args.composer.now.registry c.args.error (string_bytes c.in-Ok.report) some c.in-Ok.ensures
