use Rattle.std.proofs.Common.{◌≡◌, ◌-◌}
use Rattle.naga_oil_mini_writer.specs.BodyReader.{parts_read, reading_of}
use Rattle.naga_oil_mini_writer.proofs.body_reader.BodyReader.read_parts.Given as goal

abbrev pub invariant-loop : goal.invariant-loop
invariant-loop l = parts_read (l.count - l.counter) (reading_of l.self) ≡ parts_read l.count (reading_of l.fn.self)
