use Rattle.std.proofs.Common.{◌≡◌, vec_len, ◌++◌, [], ◌∷◌, refl}
use Rattle.yettuvam_wgsl_machine.specs.Machine.{resumed}
use Rattle.yettuvam_wgsl_machine.proofs.Pops.{top, below, some}
use Rattle.yettuvam_wgsl_machine.proofs.machine.Machine.resume.Goals as goal

pub returns-in-None-clause-after : goal.returns-in-None-clause-after
unfolding resumed
returns-in-None-clause-after c =
    let none : vec_len c.args.self.now.postponed ≡ 0 = c.in-None.ensures.cases.0 in
    let new : c.pop.new.self.items ≡ [] = rw none at c.in-None.ensures.rest in
    let items : c.args.self.now.postponed.items ≡ c.pop.new.self.items ++ [] = c.in-None.ensures.items in
    let old : c.args.self.now.postponed.items ≡ [] = rw new at items in
    rw (old, new) refl

pub returns-in-Some-clause-after : goal.returns-in-Some-clause-after
unfolding resumed
returns-in-Some-clause-after c =
    let e : c.args.self.now.postponed.items ≡ c.pop.new.self.items ++ c.in-Some.symbols ∷ [] = c.in-Some.ensures.items in
    let on = some (λ s. s.now) c.pop.new.self.items c.in-Some.symbols in
    let at = top (λ s. s.now) c.pop.new.self.items c.in-Some.symbols [] in
    let rest = below (λ s. s.now) c.pop.new.self.items c.in-Some.symbols in
    rw (e, on, at, rest) refl
