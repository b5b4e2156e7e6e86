use Rattle.std.proofs.Common.{option_map, bytes_eq, Some, sym, ap, ◌∙◌}
use Rattle.std.proofs.lemmas.Option.{get_or_from_slice_get}
use Rattle.naga_oil_registry.specs.Registered.{definition_of}
use Rattle.naga_oil_registry.proofs.KeptLemmas.{find_none, find_only}
use Rattle.naga_oil_registry.proofs.registry.Registry.get.Goals as goal

pub returns-in_err-place : goal.returns-in_err-place
returns-in_err-place c =
    ap (option_map (λ d. definition_of d.now)) c.from_residual.ensures ∙ sym (find_none (λ d. bytes_eq d.name c.args.name.now) c.args.self.now c.in_err-place.ensures.none)

pub returns : goal.returns
returns c =
    let ds = c.args.self.now in
    let place = c.in_ok-place.place in
    let d = definition_of c.at.result.now in
    sym (find_only (λ d. bytes_eq d.name c.args.name.now) ds place d c.in_ok-place.ensures.some ∙ ap (λ x. Some x) (get_or_from_slice_get ds place d d c.at.ensures))
