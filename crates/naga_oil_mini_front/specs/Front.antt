-- Mini as a front end, which reads both languages alike and needs no capabilities.
use Rattle.std.specs.Prelude.{List, ℕ, Option, Some, None, Result, Ok, Err}
use Rattle.naga_oil_ir.specs.Backend.{FrontEnd, FaultValue}
use Rattle.naga_oil_mini_front.specs.Reader.{parsed}
use Rattle.naga_oil_mini_writer.specs.Writer.{module_text, not_in_mini}
use Rattle.naga_oil_mini_front.specs.Valid.{validated}

-- the text of a module, or the error of a module without one
abbrev pub written : Option (List ℕ) → Result (List ℕ) FaultValue
written None = Err not_in_mini
written (Some text) = Ok text

abbrev pub mini : FrontEnd
mini = record { parse = λ language text. parsed text; write = λ m language capabilities. written (module_text m); valid = λ m capabilities. validated m }
