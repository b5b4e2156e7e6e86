use Rattle.std.proofs.Common.{◌≡◌}
use Rattle.std.specs.BTreeMap.{get_by_text}
use Rattle.naga_oil_mini.proofs.OverwriteLemmas.{defined_in_turn}
use Rattle.naga_oil_mini.proofs.mini.pre.overwrite.Given as goal

abbrev pub invariant-loop-name : goal.invariant-loop-name
invariant-loop-name l = defined_in_turn (get_by_text l.definitions) l.name-iterator ≡ defined_in_turn (get_by_text l.fn.definitions) l.fn.own.entries
