use Rattle.std.proofs.Common.{◌≡◌, ◌≤◌, ℕ, map, take, get_or}
use Rattle.naga_oil_ir.specs.ModuleValue.{entry_value}
use Rattle.naga_oil_ir.specs.declared.module.EntryPoint.{EntryPoint}
use Rattle.naga_oil_redirect.specs.Redirected.{send_entry}
use Rattle.naga_oil_redirect.proofs.redirect.send_entries.Given as goal

abbrev pub invariant-loop-entry : goal.invariant-loop-entry
invariant-loop-entry l = record {
  unvisited : (k : ℕ) (d : EntryPoint) → l.entry-index ≤ k → get_or l.entry-items k d ≡ get_or l.initial.entry-items k d;
  sent : map entry_value (take l.entry-index l.entry-items) ≡ map (send_entry l.pair.0 l.pair.1.0) (map entry_value (take l.entry-index l.initial.entry-items));
}
