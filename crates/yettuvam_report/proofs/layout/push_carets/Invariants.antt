use Rattle.std.proofs.Common.{◌≡◌, ◌++◌, replicate, string_bytes}
use Rattle.yettuvam_report.proofs.layout.push_carets.Given as goal

abbrev pub invariant-loop-done : goal.invariant-loop-done
invariant-loop-done l = string_bytes l.out ≡ string_bytes l.fn.out ++ replicate l._done 94
