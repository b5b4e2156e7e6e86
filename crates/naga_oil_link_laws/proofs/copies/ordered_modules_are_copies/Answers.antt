use Rattle.naga_oil_link_laws.proofs.Orders.{ordered_copies}
use Rattle.naga_oil_link_laws.proofs.SentForms.{formed_calls, sent_calls}
use Rattle.naga_oil_link_laws.proofs.copies.ordered_modules_are_copies.Goals as goal

pub returns : goal.returns
returns c = record { formed = formed_calls; sent = sent_calls; ordered = ordered_copies }
