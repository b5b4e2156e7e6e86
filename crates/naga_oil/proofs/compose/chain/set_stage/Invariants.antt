use Rattle.std.proofs.Common.{◌≡◌, ◌≤◌, ℕ, map, take, get_or}
use Rattle.naga_oil_ir.specs.ModuleValue.{EntryValue, entry_value}
use Rattle.naga_oil_ir.specs.declared.module.EntryPoint.{EntryPoint}
use Rattle.naga_oil.proofs.compose.chain.set_stage.Given as goal

abbrev pub invariant-loop-entry_point : goal.invariant-loop-entry_point
invariant-loop-entry_point l = record {
  unvisited : (k : ℕ) (d : EntryPoint) → l.entry_point-index ≤ k → get_or l.entry_point-items k d ≡ get_or l.initial.entry_point-items k d;
  staged : map entry_value (take l.entry_point-index l.entry_point-items) ≡ map (λ (e : EntryValue). record e { stage = l.stage }) (map entry_value (take l.entry_point-index l.initial.entry_point-items));
}
