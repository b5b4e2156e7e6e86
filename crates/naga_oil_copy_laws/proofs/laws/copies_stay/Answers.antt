use Rattle.naga_oil_copy_laws.proofs.FrameLaws.{alike, target, source, keys}
use Rattle.naga_oil_copy_laws.proofs.ThereLaws.{all_there}
use Rattle.naga_oil_copy_laws.proofs.laws.copies_stay.Goals as goal

pub returns : goal.returns
returns c = record { alike = alike; target = target; source = source; there = all_there; keys = keys }
