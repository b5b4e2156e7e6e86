use Rattle.naga_oil_copy_laws.proofs.SentLaws.{send_law, redirected_law, entry_law}
use Rattle.naga_oil_copy_laws.proofs.laws.sent_calls_are_copies.Goals as goal

pub returns : goal.returns
returns c = record { function = send_law; redirected = redirected_law; entry_point = entry_law }
