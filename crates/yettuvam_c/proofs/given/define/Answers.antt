use Rattle.std.proofs.Common.{◌≡◌, ap, ◌∙◌, rules, string_bytes}
use Rattle.std.proofs.lemmas.Map.Text.{btree_map_updates_text}
use Rattle.std.specs.BTreeMap.{get_by_text}
use Rattle.naga_oil_pre.specs.Metadata.{with_definition}
use Rattle.naga_oil_registry.specs.Registered.{defs_of}
use Rattle.naga_oil_registry.specs.Merged.{with_def}
use Rattle.naga_oil_registry.proofs.MergedLemmas.{named, named-insert}
use Rattle.yettuvam_c.proofs.given.define.Goals as goal

pub returns-clause-found : goal.returns-clause-found
returns-clause-found c =
    let same : string_bytes c.in_ok-from_str.field-0 ≡ c.args.name.now = search rules in
    (λ k asked. btree_map_updates_text (string_bytes c.in_ok-from_str.field-0) c.args.defs.now c.insert.new.self _ c.in_ok-insert.ensures.updates asked k)
    ∙ ap (λ n. with_definition (get_by_text c.args.defs.now) n c.args.value) same

pub returns-clause-listed : goal.returns-clause-listed
returns-clause-listed c =
    let same : string_bytes c.in_ok-from_str.field-0 ≡ c.args.name.now = search rules in
    ap named c.in_ok-insert.ensures.entries ∙ named-insert c.args.defs.now.entries c.in_ok-from_str.field-0 c.args.value ∙ ap (λ n. with_def (defs_of c.args.defs.now) (n, c.args.value)) same
