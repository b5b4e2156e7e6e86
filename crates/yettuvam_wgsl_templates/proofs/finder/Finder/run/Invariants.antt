use Rattle.std.proofs.Common.{◌≡◌, length}
use Rattle.yettuvam_wgsl_words.specs.Scan.{view}
use Rattle.yettuvam_wgsl_templates.specs.Finder.{run, state_of}
use Rattle.yettuvam_wgsl_templates.proofs.finder.Finder.run.Given as goal

abbrev pub invariant-loop-rest : goal.invariant-loop-rest
invariant-loop-rest l = run (view l.tokens) (state_of l.fn.self) ≡ run (view l.rest) (state_of l.self)

abbrev pub decreases-loop-rest : goal.decreases-loop-rest
decreases-loop-rest l = length l.rest
