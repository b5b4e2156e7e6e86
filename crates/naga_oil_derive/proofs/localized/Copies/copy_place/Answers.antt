use Rattle.naga_oil_derive.specs.Went.{went}
use Rattle.naga_oil_derive.proofs.FunctionCopies.{copied_at}
use Rattle.naga_oil_derive.proofs.localized.Copies.copy_place.Goals as goal

pub returns-clause-copied : goal.returns-clause-copied
returns-clause-copied c =
    copied_at (went c.args.names) c.args.source.now c.args.place c.args.unique c.args.self.now.table.items c.args.self.now.target c.put.new.target c.in_ok-copy.copy c.in_ok-handle.handle c.requires.place c.in_ok-copy.ensures c.in_ok-handle.ensures.place c.in_ok-handle.ensures.values
