use Rattle.std.proofs.Common.{string_bytes}
use Rattle.std.proofs.lemmas.Map.Text.{btree_map_updates_text}
use Rattle.naga_oil_pre.proofs.defines.set_definition.Goals as goal

pub returns : goal.returns
returns c = λ k asked. btree_map_updates_text (string_bytes c.args.name) c.args.definitions.now c.insert.new.self _ c.in_ok-insert.ensures.updates asked k
