use Rattle.std.proofs.Common.{◌≡◌, Ok, ap, sym}
use Rattle.yettuvam_wgsl_write_items.specs.Signatures.{stage}
use Rattle.yettuvam_wgsl_write_items.proofs.signatures.push_stage.Goals as goal

-- src/signatures.rt: `fragment`
pub returns-in_ok-push_attribute-in-1 : goal.returns-in_ok-push_attribute-in-1
unfolding stage
returns-in_ok-push_attribute-in-1 c = rw (c.in-1.is) (ap Ok (sym c.in_ok-push_attribute-in-1.ensures))
