use Rattle.std.proofs.Common.{◌≡◌, take}
use Rattle.naga_oil_form.specs.Links.{lists}
use Rattle.naga_oil_form.specs.BodyForm.{kinds, named_of, operand_links}
use Rattle.naga_oil_form.proofs.form.read.Given as goal

abbrev pub invariant-loop-entry : goal.invariant-loop-entry
invariant-loop-entry l = record {
  kinds : l.read.kinds.items ≡ kinds (take l.entry-index l.items);
  named : l.read.named.items ≡ named_of (take l.entry-index l.items);
  links : lists l.read.links.items ≡ operand_links (take l.entry-index l.items);
}
