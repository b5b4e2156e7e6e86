use Rattle.std.proofs.Common.{◌≡◌, ◌-◌, map}
use Rattle.yettuvam_wgsl_machine.specs.Machine.{run, state_of, table}
use Rattle.yettuvam_wgsl_machine.proofs.machine.Machine.run.Given as goal

abbrev pub invariant-loop-turn : goal.invariant-loop-turn
invariant-loop-turn l = run (table (map (λ r. (r.0, r.1, r.2.now)) l.rows) l.places) l.turns (state_of l.fn.self) ≡ run (table (map (λ r. (r.0, r.1, r.2.now)) l.rows) l.places) (l.turns - l._turn) (state_of l.self)
