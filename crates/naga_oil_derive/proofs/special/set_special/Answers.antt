use Rattle.naga_oil_ir.specs.ModuleValue.{special_value}
use Rattle.naga_oil_derive.proofs.SpecialLoops.{set_coded}
use Rattle.naga_oil_derive.proofs.special.set_special.Goals as goal

pub returns-in_ok-insert-in-Predeclared-clause-set :
    goal.returns-in_ok-insert-in-Predeclared-clause-set
returns-in_ok-insert-in-Predeclared-clause-set c =
    set_coded (special_value c.args.special.now) c.insert.new.self.entries c.args.key c.in-Predeclared.code c.args.handle c.in-Predeclared.is c.requires c.in_ok-insert-in-Predeclared.ensures.entries
