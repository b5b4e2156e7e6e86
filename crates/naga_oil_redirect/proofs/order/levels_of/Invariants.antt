use Rattle.naga_oil_form.specs.Links.{lists}
use Rattle.naga_oil_redirect.proofs.CountLemmas.{nones}
use Rattle.naga_oil_redirect.proofs.GoingLemmas.{IsGoing}
use Rattle.naga_oil_redirect.proofs.order.levels_of.Given as goal

abbrev pub invariant-loop-function : goal.invariant-loop-function
invariant-loop-function l = IsGoing (lists l.calls) l.pending.items l.ready.items l.levels.items

abbrev pub decreases-loop-function : goal.decreases-loop-function
decreases-loop-function l = nones l.levels.items
