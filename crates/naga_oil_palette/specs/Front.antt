-- Palette as a front end, which reads both languages alike.
use Rattle.std.specs.Prelude.{ℕ, ◌==◌, if◌then◌else◌, List, [], ◌∷◌, slice_get, Option, Some, None, option_map, Result, Ok, Err, codes}
use Rattle.naga_oil_ir.specs.Backend.{FrontEnd, FaultValue}
use Rattle.naga_oil_ir.specs.ModuleValue.{ModuleValue}
use Rattle.naga_oil_ir.specs.declared.span.Span.{Span}
use Rattle.naga_oil_palette.specs.Reader.{parsed}
use Rattle.naga_oil_palette.specs.Writer.{text_of}

abbrev pub not_written : FaultValue
not_written = record { message = codes "no palette"; spans = []; notes = [] }

-- the text of a module, or the error of a module without one
abbrev pub written : Option (List ℕ) → Result (List ℕ) FaultValue
written None = Err not_written
written (Some text) = Ok text

abbrev pub too_many : Span → FaultValue
too_many at = record { message = codes "too many colours"; spans = (at, codes "no room for this one") ∷ []; notes = [] }

-- the span of the first colour that there is no room for, if there is one; a room of 0 is room for any number
abbrev pub without_room : ℕ → ModuleValue → Option Span
without_room room m = if room == 0 then None else option_map (λ e. e.1) (slice_get m.constants room)

abbrev pub unless_too_many : Option Span → Result (Unit {0}) FaultValue
unless_too_many None = Ok tt
unless_too_many (Some at) = Err (too_many at)

abbrev pub validated : ℕ → ModuleValue → Result (Unit {0}) FaultValue
validated room m = unless_too_many (without_room room m)

abbrev pub palette : FrontEnd
palette = record { parse = λ language text. parsed text; write = λ m language capabilities. written (text_of m); valid = λ m capabilities. validated capabilities.0 m }
