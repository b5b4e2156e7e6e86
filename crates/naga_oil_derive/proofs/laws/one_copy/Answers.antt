use Rattle.naga_oil_derive.proofs.PutLaws.{put_item, put_named}
use Rattle.naga_oil_derive.proofs.laws.one_copy.Goals as goal

pub returns : goal.returns
returns c = record { item = put_item; named = put_named }
