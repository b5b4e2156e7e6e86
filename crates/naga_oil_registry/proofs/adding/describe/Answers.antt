use Rattle.std.proofs.Common.{ℕ, Bool, false, List, ap, string_bytes}
use Rattle.naga_oil_pre.specs.MetadataView.{metadata_of}
use Rattle.naga_oil_registry.specs.Merged.{recorded_names}
use Rattle.naga_oil_registry.proofs.NamesLemmas.{set_names, records-cleaned}
use Rattle.naga_oil_registry.proofs.adding.describe.Goals as goal

pub returns-clause-recorded : goal.returns-clause-recorded
returns-clause-recorded c =
    let found = c.in_ok-metadata.metadata in
    set_names found.effective_defs.keys (recorded_names (string_bytes found.cleaned_source)) c.len-count.ensures.ordered
    (λ n. ap (λ (f : List ℕ → Bool). f n) (records-cleaned false c.args.text.now (metadata_of found) c.in_ok-metadata.ensures.value))
