-- WGSL as a front end, which reads and writes headers of both languages as WGSL and needs no capabilities.
use Rattle.std.specs.Prelude.{ℕ, List, [], ◌∷◌, Result, Ok, Err, codes}
use Rattle.naga_oil_ir.specs.Backend.{FaultValue, FrontEnd}
use Rattle.naga_oil_ir.specs.declared.span.Span.{Span}
use Rattle.yettuvam_wgsl_read.specs.Reading.{parsed}
use Rattle.yettuvam_wgsl_valid_items.specs.Faults.{Outcome, fault_value}
use Rattle.yettuvam_wgsl_valid.specs.Valid.{validated}
use Rattle.yettuvam_wgsl_write.specs.Modules.{module_text}

-- why a module has no text: WGSL can't say what has this span
abbrev pub not_in_wgsl : Span → FaultValue
not_in_wgsl span = record { message = codes "not in WGSL"; spans = (span, []) ∷ []; notes = [] }

-- the text of a module, or the fault of a module without one
abbrev pub written : Result (List ℕ) Span → Result (List ℕ) FaultValue
written (Ok text) = Ok text
written (Err span) = Err (not_in_wgsl span)

-- nothing, or the fault of a module that isn't valid
abbrev pub tested : Outcome → Result (Unit {0}) FaultValue
tested (Ok u) = Ok u
tested (Err fault) = Err (fault_value fault)

abbrev pub wgsl : FrontEnd
wgsl = record {
  parse = λ language text. parsed text;
  write = λ m language capabilities. written (module_text m);
  valid = λ m capabilities. tested (validated m);
}
