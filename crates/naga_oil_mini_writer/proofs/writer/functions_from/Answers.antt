use Rattle.std.proofs.lemmas.List.{take_rest, drop-map}
use Rattle.naga_oil_mini_writer.proofs.writer.functions_from.Goals as goal

pub returns : goal.returns
returns c = simp (take_rest, drop-map)
