use Rattle.std.proofs.Common.{◌≡◌, [], replicate}
use Rattle.naga_oil_form.specs.Links.{lists}
use Rattle.naga_oil_redirect.proofs.order.no_places.Given as goal

abbrev pub invariant-loop : goal.invariant-loop
invariant-loop l = lists l.places.items ≡ replicate l.counter []
