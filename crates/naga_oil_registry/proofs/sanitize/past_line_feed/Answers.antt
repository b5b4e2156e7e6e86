use Rattle.std.proofs.Common.{refl, sym, ap, ◌∙◌, ◌∷◌, rules}
use Rattle.std.proofs.lemmas.Str.Pattern.{strip_prefix_char}
use Rattle.naga_oil_registry.specs.Sanitized.{line_feeds}
use Rattle.naga_oil_registry.proofs.SanitizedLemmas.{past_feed}
use Rattle.naga_oil_registry.proofs.sanitize.past_line_feed.Goals as goal

pub returns-clause-value : goal.returns-clause-value
returns-clause-value c = past_feed _ _ _ refl (strip_prefix_char 10 _ _ c.strip_prefix.ensures.cases (search rules)) ∙ ap (λ r. 10 ∷ line_feeds r.now) (sym c.unwrap_or.ensures)
