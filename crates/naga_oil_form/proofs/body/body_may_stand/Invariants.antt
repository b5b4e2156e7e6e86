use Rattle.std.proofs.Common.{◌≡◌, map, length}
use Rattle.naga_oil_form.specs.BodyForm.{callee}
use Rattle.naga_oil_form.specs.Links.{lists}
use Rattle.naga_oil_form.proofs.BodyFormLemmas.{IsWalking}
use Rattle.naga_oil_form.proofs.body.body_may_stand.Given as goal

abbrev pub invariant-loop-token : goal.invariant-loop-token
invariant-loop-token l = record {
  long : length l.done.items ≡ length l.of.read.now.links.items;
  walk : IsWalking (length l.of.read.now.links.items) l.of.read.now.kinds.items (map callee l.of.read.now.named.items) (lists l.of.read.now.links.items) l.of.started.now l.initial.done.items l.done.items l.tokens l.token-index;
}
