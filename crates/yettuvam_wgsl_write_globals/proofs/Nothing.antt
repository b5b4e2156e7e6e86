-- An expression that nothing comes before.
use Rattle.std.proofs.Common.{◌≡◌, [], Ok, Err, refl}
use Rattle.yettuvam_wgsl_write_expressions.specs.Operands.{WrittenOutcome, after_written}

pub after_nothing : (o : WrittenOutcome) → after_written [] o ≡ o
after_nothing (Ok w) = refl
after_nothing (Err span) = refl
