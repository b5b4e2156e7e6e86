use Rattle.std.proofs.Common.{◌≡◌, not, filter, rules}
use Rattle.std.specs.BTreeSet.{contains_text}
use Rattle.std.specs.String.{string_bytes}
use Rattle.indexmap.proofs.CallerLemmas.{filter-RetainsPairs}
use Rattle.naga_oil.proofs.StoreCodeLemmas.{stored_left}
use Rattle.naga_oil.proofs.compose.store.forget.Goals as goal

pub returns : goal.returns
returns c =
    let gone = c.args.gone.now in
    let kept : c.retain.new.self.entries ≡ filter (λ e. not (contains_text gone (string_bytes e.0.name))) c.args.store.now.entries = filter-RetainsPairs _ (λ e. not (contains_text gone (string_bytes e.0.name))) _ (λ k v b w g call. search rules) _ _ c.retain.ensures.filtered in
    stored_left (contains_text gone) c.args.store.now.entries c.retain.new.self.entries kept
