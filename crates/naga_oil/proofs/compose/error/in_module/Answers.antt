use Rattle.std.proofs.Common.{◌≡◌, ap, ◌∙◌, rules}
use Rattle.naga_oil_registry.specs.Registered.{defs_of}
use Rattle.naga_oil.specs.Refused.{in_module}
use Rattle.naga_oil_registry.proofs.MergedLemmas.{map-from_all_zip}
use Rattle.naga_oil.proofs.compose.error.in_module.Goals as goal

pub returns : goal.returns
returns c =
    let copied : defs_of c.in_ok-clone.field-0 ≡ defs_of c.args.defs.now = map-from_all_zip _ _ c.args.defs.now.entries c.in_ok-clone.field-0.entries c.in_ok-clone.ensures.cases (λ x y r. search rules) in
    ap (λ n. in_module n c.args.offset (defs_of c.in_ok-clone.field-0)) c.in_ok-from_str.ensures.ok ∙ ap (in_module c.args.name.now c.args.offset) copied
