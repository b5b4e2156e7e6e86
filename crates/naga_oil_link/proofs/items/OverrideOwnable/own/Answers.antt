use Rattle.std.proofs.lemmas.Result.{on_ok_weaker}
use Rattle.naga_oil_link.proofs.OwnedLemmas.{override_owned}
use Rattle.naga_oil_link.proofs.items.OverrideOwnable.own.Goals as goal

pub returns-clause-item : goal.returns-clause-item
returns-clause-item c = on_ok_weaker c.own_text.result (override_owned c.args.suffix.now c.args.self.now c.own_text.new.name) c.own_text.ensures.name
