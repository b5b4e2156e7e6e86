use Rattle.naga_oil_imports.specs.Declarations.{declared_of}
use Rattle.naga_oil_imports.proofs.NameMarkLemmas.{covers_all}
use Rattle.naga_oil_imports.proofs.substitute.substitute_identifiers.Goals as goal

pub walk-requires : goal.walk-requires
walk-requires c = covers_all c.new-names.result c.mark_from.new.self (declared_of c.args.declared_imports.now) c.mark_from.ensures
