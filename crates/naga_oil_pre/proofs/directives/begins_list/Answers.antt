use Rattle.std.proofs.Common.{rules}
use Rattle.naga_oil_pre.proofs.DirectiveLemmas.{begins_more, begins_none}
use Rattle.naga_oil_pre.proofs.directives.begins_list.Goals as goal

pub returns-then-is_whitespace : goal.returns-then-is_whitespace
returns-then-is_whitespace c = begins_more _ _ _ _ c.in-Some.ensures (search rules) c.is_empty.ensures

pub returns-in-None : goal.returns-in-None
returns-in-None c = begins_none _ c.in-None.ensures
