use Rattle.std.proofs.Common.{◌≡◌, ℕ, ◌||◌, List, drop}
use Rattle.naga_oil_imports.specs.Declarations.{declared_of}
use Rattle.naga_oil_imports.specs.NameMarks.{has_mark, shares_slot, keys_of}
use Rattle.naga_oil_imports.proofs.declared_names.DeclaredNames.mark_from.Given as goal

abbrev pub invariant-loop-at : goal.invariant-loop-at
invariant-loop-at l =
    (other : List ℕ) → (has_mark l.self other || shares_slot (drop l.at (keys_of (declared_of l.declared))) other) ≡ (has_mark l.fn.self other || shares_slot (drop l.fn.from (keys_of (declared_of l.declared))) other)
