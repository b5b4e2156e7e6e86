-- What a front end returns.
use Rattle.std.specs.Prelude.{◌≡◌, ℕ, List, map, Result, Ok, Err, String, Vec, string_bytes}
use Rattle.std.specs.declared.alloc.Global.{Global}
use Rattle.naga_oil_ir.specs.ModuleValue.{ModuleValue}
use Rattle.naga_oil_ir.specs.declared.backend.Capabilities.{Capabilities}
use Rattle.naga_oil_ir.specs.declared.backend.ParseFault.{ParseFault}
use Rattle.naga_oil_ir.specs.declared.backend.WriteFault.{WriteFault}
use Rattle.naga_oil_ir.specs.declared.backend.ValidFault.{ValidFault}
use Rattle.naga_oil_ir.specs.declared.backend.BackendRefusal.{BackendRefusal}
use Rattle.naga_oil_ir.specs.declared.backend.BackendRefusal.TheVariants.{Fault, Memory}
use Rattle.naga_oil_ir.specs.declared.language.ShaderLanguage.{ShaderLanguage}
use Rattle.naga_oil_ir.specs.declared.span.Span.{Span}

-- why an input is refused: a message, messages of places, and notes
pub record FaultValue : Type 0 where
  pub message : List ℕ
  pub spans : List (Span × List ℕ)
  pub notes : List (List ℕ)

-- places with their messages
abbrev pub labels : List (Span × String Global) → List (Span × List ℕ)
labels spans = map (λ s. (s.0, string_bytes s.1)) spans

-- a fault of these fields as plain data
abbrev pub fault_value : String Global → Vec (Span × String Global) Global → Vec (String Global) Global → FaultValue
fault_value message spans notes = record { message = string_bytes message; spans = labels spans.items; notes = map string_bytes notes.items }

-- the faults of the three calls
abbrev pub parse_fault : ParseFault → FaultValue
parse_fault f = fault_value f.message f.spans f.notes

abbrev pub write_fault : WriteFault → FaultValue
write_fault f = fault_value f.message f.spans f.notes

abbrev pub valid_fault : ValidFault → FaultValue
valid_fault f = fault_value f.message f.spans f.notes

-- the bytes of a text
abbrev pub text : String Global → List ℕ
text s = string_bytes s

-- a result that holds nothing
abbrev pub nothing : Unit {0} → Unit {0}
nothing x = x

-- the three functions of a front end
pub record FrontEnd : Type 0 where
  pub parse : ShaderLanguage → List ℕ → Result ModuleValue FaultValue
  pub write : ModuleValue → ShaderLanguage → Capabilities → Result (List ℕ) FaultValue
  pub valid : ModuleValue → Capabilities → Result (Unit {0}) FaultValue

-- a call returns the value, seen as plain data, or an error if out of memory
abbrev pub Answers : {X Y F : Type 0} → (X → Y) → (F → FaultValue) → Result X (BackendRefusal F) → Result Y FaultValue → Type 0
Answers view told (Ok x) value = value ≡ Ok (view x)
Answers view told (Err (Fault f)) value = value ≡ Err (told f)
Answers view told (Err Memory) value = Unit {0}
