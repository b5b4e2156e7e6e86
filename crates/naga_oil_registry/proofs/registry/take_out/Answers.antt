use Rattle.std.proofs.Common.{not, sym, string_bytes, ap, rules}
use Rattle.std.specs.BTreeSet.{contains_text}
use Rattle.indexmap.proofs.CallerLemmas.{filter-RetainsPairs}
use Rattle.naga_oil_registry.proofs.RemovedLemmas.{none-gone, filter-all}
use Rattle.naga_oil_registry.proofs.registry.take_out.Goals as goal

pub returns-then-is_empty-clause-entries : goal.returns-then-is_empty-clause-entries
returns-then-is_empty-clause-entries c = sym (filter-all (λ e. not (contains_text c.args.gone.now (string_bytes e.0))) c.args.modules.now.entries (λ e. ap not (none-gone c.args.gone.now (string_bytes e.0) (c.is_empty.ensures.0 c.if-is_empty.true))))

pub returns-clause-entries : goal.returns-clause-entries
returns-clause-entries c = filter-RetainsPairs _ (λ e. not (contains_text c.args.gone.now (string_bytes e.0))) _ (λ k v b w g call. search rules) _ _ c.retain.ensures.filtered
