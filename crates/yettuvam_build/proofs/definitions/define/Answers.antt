use Rattle.std.proofs.Common.{◌≡◌, ap, ◌∙◌, rules, string_bytes}
use Rattle.naga_oil_registry.specs.Registered.{defs_of}
use Rattle.naga_oil_registry.specs.Merged.{with_def}
use Rattle.naga_oil_registry.proofs.MergedLemmas.{named, named-insert}
use Rattle.yettuvam_build.proofs.definitions.define.Goals as goal

pub returns : goal.returns
returns c =
    let same : string_bytes c.in_ok-from_str.field-0 ≡ c.args.name.now = search rules in
    ap named c.in_ok-insert.ensures.entries ∙ named-insert c.args.definitions.now.entries c.in_ok-from_str.field-0 c.args.value ∙ ap (λ n. with_def (defs_of c.args.definitions.now) (n, c.args.value)) same
