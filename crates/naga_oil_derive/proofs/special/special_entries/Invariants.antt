use Rattle.std.proofs.Common.{◌≡◌, ◌++◌, map}
use Rattle.naga_oil_ir.specs.ModuleValue.{special_value}
use Rattle.naga_oil_derive.specs.declared.special.SpecialKey.TheVariants.{Predeclared}
use Rattle.naga_oil_derive.specs.World.{special_entries}
use Rattle.naga_oil_derive.proofs.special.special_entries.Given as goal

-- the entries, with those to come
abbrev pub invariant-loop-code : goal.invariant-loop-code
invariant-loop-code l =
    l.entries.items ++ map (λ e. (Predeclared e.0, e.1)) l.code-iterator ≡ special_entries (special_value l.special)
