use Rattle.std.proofs.Common.{ℕ, ◌<◌, All}
use Rattle.naga_oil_form.specs.Links.{lists, linked}
use Rattle.naga_oil_form.proofs.links.are_earlier.Given as goal

abbrev pub invariant-loop-place : goal.invariant-loop-place
invariant-loop-place l = (k : ℕ) → k < l.place → All (λ x. x < k) (linked (lists l.links) k)
