-- Pieces that nothing comes before.
use Rattle.std.proofs.Common.{◌≡◌, [], Ok, Err, refl}
use Rattle.yettuvam_wgsl_written.specs.Outcomes.{Outcome, after}

pub after_nothing : (o : Outcome) → after [] o ≡ o
after_nothing (Ok ps) = refl
after_nothing (Err span) = refl
