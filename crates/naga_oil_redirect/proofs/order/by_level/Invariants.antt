use Rattle.std.proofs.Common.{◌≡◌, ℕ, length, take}
use Rattle.std.specs.List.{flat_map}
use Rattle.naga_oil_form.specs.Links.{lists, linked}
use Rattle.naga_oil_redirect.specs.Level.{passing, is_level}
use Rattle.naga_oil_redirect.proofs.order.by_level.Given as goal

abbrev pub invariant-loop-place : goal.invariant-loop-place
invariant-loop-place l = record {
  long : length l.rounds.items ≡ length l.levels;
  rounds : (k : ℕ) → linked (lists l.rounds.items) k ≡ passing (is_level k) (take l.place l.levels);
}

abbrev pub invariant-loop-round : goal.invariant-loop-round
invariant-loop-round l = l.order.items ≡ flat_map (λ v. v.items) (take l.round-index l.round-items)
