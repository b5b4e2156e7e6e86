use Rattle.std.proofs.Common.{◌≡◌, take}
use Rattle.naga_oil_form.specs.Links.{lists}
use Rattle.naga_oil_redirect.specs.Ordered.{calls_of}
use Rattle.naga_oil_redirect.specs.Redirected.{function_values}
use Rattle.naga_oil_redirect.proofs.order.calls_of.Given as goal

abbrev pub invariant-loop-entry : goal.invariant-loop-entry
invariant-loop-entry l = lists l.calls.items ≡ calls_of (function_values (take l.entry-index l.functions))
