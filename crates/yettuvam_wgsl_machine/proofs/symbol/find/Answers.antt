use Rattle.std.proofs.lemmas.List.{drop-map}
use Rattle.yettuvam_wgsl_machine.proofs.symbol.find.Goals as goal

pub returns : goal.returns
returns c = rw (drop-map, ← c.place_of.ensures, ← c.rows_from.ensures) c.first_fit.ensures
