use Rattle.std.proofs.Common.{rules}
use Rattle.naga_oil_conditions.proofs.LineKindLemmas.{text_at-none, text_at-some}
use Rattle.naga_oil_conditions.proofs.line_kind.text_at.Goals as goal

pub returns-then-is_empty : goal.returns-then-is_empty
returns-then-is_empty c = text_at-none _ _ _ c.run-found.utf8 c.run-found.ensures (search rules)

pub returns-else-is_empty : goal.returns-else-is_empty
returns-else-is_empty c = text_at-some _ _ _ c.run-found.utf8 c.run-found.ensures (search rules)
