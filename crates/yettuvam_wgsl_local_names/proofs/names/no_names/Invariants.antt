use Rattle.std.proofs.Common.{◌≡◌}
use Rattle.yettuvam_wgsl_local_names.specs.LocalNames.{no_names, texts_value}
use Rattle.yettuvam_wgsl_local_names.proofs.names.no_names.Given as goal

abbrev pub invariant-loop-place : goal.invariant-loop-place
invariant-loop-place l = texts_value l.names.items ≡ no_names l._place
