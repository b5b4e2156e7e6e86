use Rattle.std.proofs.Common.{◌≡◌, map, take}
use Rattle.naga_oil_mini_writer.specs.BodyReader.{locals_of}
use Rattle.naga_oil_mini_writer.proofs.writer.local_names.Given as goal

abbrev pub invariant-loop-name : goal.invariant-loop-name
invariant-loop-name l = l.names ≡ map (λ e. e.0) (locals_of (take l.name-index l.locals))
