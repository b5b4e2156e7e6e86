use Rattle.std.proofs.Common.{◌≡◌, ◌++◌, length, Ok}
use Rattle.naga_oil_mini_symbols.specs.Symbols.{line_of}
use Rattle.naga_oil_mini_symbols.specs.Refused.{◌>>◌}
use Rattle.naga_oil_mini_front.specs.Reader.{read_parameters, parameters_from}
use Rattle.naga_oil_mini_front.proofs.reader.read_parameters.Given as goal

abbrev pub invariant-loop-rest : goal.invariant-loop-rest
invariant-loop-rest l = (parameters_from (line_of l.rest) >> λ r. Ok (l.names ++ r.0, r.1)) ≡ read_parameters (line_of l.symbols)

abbrev pub decreases-loop-rest : goal.decreases-loop-rest
decreases-loop-rest l = length l.rest
