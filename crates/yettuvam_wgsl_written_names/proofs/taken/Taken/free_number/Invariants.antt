use Rattle.std.proofs.Common.{◌≡◌, ◌+◌, ◌≤◌, ◌^◌}
use Rattle.yettuvam_wgsl_written_names.specs.Taken.{free_from, free_number, count_of, has, taken_of}
use Rattle.yettuvam_wgsl_written_names.proofs.taken.Taken.free_number.Given as goal

abbrev pub invariant-loop-rest : goal.invariant-loop-rest
invariant-loop-rest l = record {
  same : free_from (has (taken_of l.self)) l.base l.rest l.number ≡ free_number (taken_of l.self) l.base;
  small : l.number + l.rest ≤ 2 ^ 63;
  count : count_of (taken_of l.self) ≤ 2 ^ 62;
}

abbrev pub decreases-loop-rest : goal.decreases-loop-rest
decreases-loop-rest l = l.rest
