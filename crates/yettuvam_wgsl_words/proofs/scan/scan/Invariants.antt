use Rattle.std.proofs.Common.{◌≡◌, ◌-◌}
use Rattle.yettuvam_wgsl_words.specs.Scan.{scan, scan_from, view}
use Rattle.yettuvam_wgsl_words.proofs.scan.scan.Given as goal

abbrev pub invariant-loop-turn : goal.invariant-loop-turn
invariant-loop-turn l = scan l.text ≡ scan_from l.total (l.total - l._turn) (view l.found.items) l.rest
