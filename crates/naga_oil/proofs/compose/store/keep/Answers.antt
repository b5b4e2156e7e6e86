use Rattle.std.proofs.Common.{◌∙◌, sym}
use Rattle.naga_oil.proofs.StoreCodeLemmas.{stored_new, stored_there}
use Rattle.naga_oil.proofs.compose.store.keep.Goals as goal

pub returns-in_ok-insert-clause-ok : goal.returns-in_ok-insert-clause-ok
returns-in_ok-insert-clause-ok c = stored_new c.args.store.now.entries c.args.key c.args.build c.insert.new.self.entries (sym c.contains_key.ensures ∙ c.if-not-contains_key.true) c.in_ok-insert.ensures.entries

pub returns-else-not-contains_key-clause-ok : goal.returns-else-not-contains_key-clause-ok
returns-else-not-contains_key-clause-ok c = stored_there c.args.store.now.entries c.args.key c.args.build (sym c.contains_key.ensures ∙ c.if-not-contains_key.false)
