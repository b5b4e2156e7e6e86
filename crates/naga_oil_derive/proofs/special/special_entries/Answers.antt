use Rattle.std.proofs.Common.{subst, sym}
use Rattle.naga_oil_ir.specs.ModuleValue.{special_value}
use Rattle.naga_oil_derive.specs.World.{HaveDistinctKeys, special_entries}
use Rattle.naga_oil_derive.proofs.SpecialLemmas.{entries_distinct}
use Rattle.naga_oil_derive.proofs.SpecialLoops.{entries_last}
use Rattle.naga_oil_derive.proofs.special.special_entries.Goals as goal

pub returns-clause-distinct : goal.returns-clause-distinct
returns-clause-distinct c =
    let s = special_value c.args.special.now in
    subst HaveDistinctKeys (sym (entries_last c.loop-code.entries.items c.loop-code.code-iterator (special_entries s) c.loop-code.invariant c.in-None.ensures.steps.0)) (entries_distinct s c.into_iter-code-iterator.ensures.into_iter_gives.4)
