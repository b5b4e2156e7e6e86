use Rattle.std.proofs.Common.{◌≡◌, ◌<◌, ◌≤◌, None, IfNone, drop, bytes_eq, sym, subst, arith}
use Rattle.naga_oil_registry.specs.Registered.{definition_of}
use Rattle.naga_oil_registry.specs.Registry.{place_named}
use Rattle.naga_oil_registry.proofs.KeptLemmas.{none_dropped, none_after, position_none, position_after}
use Rattle.naga_oil_registry.proofs.registry.Registry.following.Goals as goal

pub returns-in_err-place-clause-none : goal.returns-in_err-place-clause-none
returns-in_err-place-clause-none c =
    let following = drop c.args.from c.args.self.now in
    let none : place_named c.args.name.now following ≡ None = position_none (λ d. bytes_eq d.name c.args.name.now) following (none_dropped (λ d. bytes_eq d.name c.args.name.now) c.args.from c.args.self.now c.in_err-place.ensures.none) in
    subst (λ r. IfNone r (place_named c.args.name.now following ≡ None)) (sym c.from_residual.ensures) none

pub returns-then-place-from-clause-none : goal.returns-then-place-from-clause-none
returns-then-place-from-clause-none c =
    let below : c.in_ok-place.place < c.args.from = omega arith in
    position_none (λ d. bytes_eq d.name c.args.name.now) (drop c.args.from c.args.self.now) (none_after (λ d. bytes_eq d.name c.args.name.now) c.args.self.now c.in_ok-place.place c.args.from below c.in_ok-place.ensures.some)

pub returns-clause-place : goal.returns-clause-place
returns-clause-place c =
    let above : c.args.from ≤ c.in_ok-place.place = omega arith in
    (above, position_after (λ d. bytes_eq d.name c.args.name.now) c.args.self.now c.in_ok-place.place c.args.from (definition_of c.at.result.now) above c.in_ok-place.ensures.some)
