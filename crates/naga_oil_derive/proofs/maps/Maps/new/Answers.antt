use Rattle.naga_oil_derive.proofs.SourceValues.{new_places}
use Rattle.naga_oil_derive.proofs.maps.Maps.new.Goals as goal

pub returns-clause-places : goal.returns-clause-places
returns-clause-places c = new_places c.args.source.now _ _ _ _ _ _ _ _ _ _ c.in_ok-nowhere.ensures c.in_ok-nowhere-2.ensures c.in_ok-nowhere-3.ensures c.in_ok-nowhere-4.ensures c.in_ok-nowhere-5.ensures c.len.ensures c.len-2.ensures c.len-3.ensures c.len-4.ensures c.len-5.ensures
