use Rattle.std.proofs.Common.{rules}
use Rattle.yettuvam_wgsl_scope.proofs.LocalFacts.{table_pop}
use Rattle.yettuvam_wgsl_scope.proofs.locals.Locals.pop.Goals as goal

pub invariant_of-self-2 : goal.invariant_of-self-2
invariant_of-self-2 c =
    table_pop c.self.inside.entries.items c.pop.new.self.items c.self.inside.newest c.insert.new.self c.in-Some.last.now _ c.self.invariant (search rules) (search rules) c.pop.ensures.rest c.in_ok-insert.ensures.updates
