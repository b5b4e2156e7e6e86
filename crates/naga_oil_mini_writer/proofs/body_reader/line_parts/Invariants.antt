use Rattle.std.proofs.Common.{◌≡◌, ◌++◌, [], drop}
use Rattle.naga_oil_mini_writer.specs.BodyReader.{local_parts, separator, parts_of, locals_of}
use Rattle.naga_oil_mini_writer.proofs.body_reader.line_parts.Given as goal

abbrev pub invariant-loop-name : goal.invariant-loop-name
invariant-loop-name l = (let ps = parts_of l.parts.items in ps ++ local_parts (separator ps) (locals_of (drop l.name-index l.locals))) ≡ local_parts [] (locals_of l.locals)
