use Rattle.naga_oil_lines.proofs.NamesInOrder.{names_rise, names_stay, names_were}
use Rattle.naga_oil_lines.proofs.wgsl_directives.names_in_order.Goals as goal

pub returns-clause-rise : goal.returns-clause-rise
returns-clause-rise c = names_rise

pub returns-clause-members : goal.returns-clause-members
returns-clause-members c = λ names name. (names_were names name, names_stay names name)
