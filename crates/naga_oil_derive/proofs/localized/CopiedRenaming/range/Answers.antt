use Rattle.std.proofs.Common.{sym, ◌∙◌, arith}
use Rattle.naga_oil_derive.proofs.localized.CopiedRenaming.range.Goals as goal

pub overflow_sub-first : goal.overflow_sub-first
overflow_sub-first c = (c.args.self.now.fits c.start-start.result c.in-Some.begin c.in-Some.end (sym c.stands_at.ensures ∙ c.in-Some.is)).0

pub overflow_add-first : goal.overflow_add-first
overflow_add-first c = let f = c.args.self.now.fits c.start-start.result c.in-Some.begin c.in-Some.end (sym c.stands_at.ensures ∙ c.in-Some.is) in let h = f.1 in let i = f.2 in omega arith

pub overflow_sub-first-in-Some : goal.overflow_sub-first-in-Some
overflow_sub-first-in-Some c = let f = c.args.self.now.fits c.start-start.result c.in-Some.begin c.in-Some.end (sym c.stands_at.ensures ∙ c.in-Some.is) in let h = f.0 in let i = f.1 in omega arith

pub overflow_add-first-in-Some : goal.overflow_add-first-in-Some
overflow_add-first-in-Some c = let f = c.args.self.now.fits c.start-start.result c.in-Some.begin c.in-Some.end (sym c.stands_at.ensures ∙ c.in-Some.is) in let i = f.2 in omega arith
