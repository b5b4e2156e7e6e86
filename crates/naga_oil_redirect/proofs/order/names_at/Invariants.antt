use Rattle.std.proofs.Common.{◌≡◌, map, take}
use Rattle.naga_oil_redirect.specs.Ordered.{function_name_at}
use Rattle.naga_oil_redirect.specs.Redirected.{function_values}
use Rattle.naga_oil_redirect.proofs.order.names_at.Given as goal

abbrev pub invariant-loop-place : goal.invariant-loop-place
invariant-loop-place l = map (λ s. s.now) l.names.items ≡ map (function_name_at (function_values l.functions)) (take l.place-index l.places)
