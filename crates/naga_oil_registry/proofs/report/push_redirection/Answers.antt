use Rattle.std.proofs.Common.{Some, string_bytes, append_assoc}
use Rattle.naga_oil_conditions.specs.Fault as fault
use Rattle.naga_oil_registry.specs.Report.{message}
use Rattle.naga_oil_registry.proofs.WritingLemmas.{on_pushed}
use Rattle.naga_oil_registry.proofs.report.push_redirection.Goals as goal

pub returns-in-ArgumentMismatch : goal.returns-in-ArgumentMismatch
returns-in-ArgumentMismatch c = rw c.in-ArgumentMismatch.is (simp append_assoc c.write-in-ArgumentMismatch.ensures.bytes)

pub returns-in-ReturnTypeMismatch : goal.returns-in-ReturnTypeMismatch
returns-in-ReturnTypeMismatch c = rw c.in-ReturnTypeMismatch.is (simp append_assoc c.write-in-ReturnTypeMismatch.ensures.bytes)

pub returns-in-CircularReference : goal.returns-in-CircularReference
returns-in-CircularReference c = rw c.in-CircularReference.is c.write-in-CircularReference.ensures.bytes

pub returns-in-Memory : goal.returns-in-Memory
returns-in-Memory c = rw c.in-Memory.is (on_pushed c.push_str.result (string_bytes c.push_str.new.self) (string_bytes c.args.out.now) (message (Some fault.redirection_memory)) c.push_str.ensures.bytes)
