-- The place of a fault, and what the error of a refused call reports.
use Rattle.std.specs.Prelude.{◌≡◌, ℕ, List, [], Option, Some, option_map, Result, Ok, Err, MatchOption, string_bytes}
use Rattle.naga_oil_conditions.specs.Fault.{Fault}
use Rattle.naga_oil_conditions.specs.View.{fault_of}
use Rattle.naga_oil_conditions.specs.declared.fault.ComposerErrorInner.{ComposerErrorInner}
use Rattle.naga_oil_registry.specs.Registered.{Defs, defs_of}
use Rattle.naga_oil.specs.declared.compose.error.ErrSource.{ErrSource}
use Rattle.naga_oil.specs.declared.compose.error.ErrSource.TheVariants as code
use Rattle.naga_oil.specs.declared.compose.error.ComposerError.{ComposerError}

-- the text that offsets count in: a registered module's, or the text of a call
pub data Place : Type 0 where
  in_module : (name : List ℕ) (offset : ℕ) (defs : Defs) → Place
  in_text : (path source : List ℕ) (offset : ℕ) → Place

-- The texts of a shader that places count in. First the source, as it is given.
abbrev pub in_given : (path source : List ℕ) → Place
in_given path source = in_text path source 0

-- then the text as it is read, with a number for each automatic binding
abbrev pub in_read : (path text : List ℕ) → Place
in_read path text = in_text path text 0

-- last the text as it is preprocessed, which is parsed after a header; spans count over both, so the text begins at an offset
abbrev pub in_preprocessed : (path text : List ℕ) → (offset : ℕ) → Place
in_preprocessed path text offset = in_text path text offset

abbrev pub place_of : ErrSource → Place
place_of (code.Module name offset defs) = in_module (string_bytes name) offset (defs_of defs)
place_of (code.Constructing path source offset) = in_text (string_bytes path) (string_bytes source) offset

-- the place of out of memory
abbrev pub nowhere : Place
nowhere = in_text [] [] 0

-- a fault and its place
pub record Refused : Type 0 where
  pub fault : Fault
  pub place : Place

-- what an error reports; nothing for out of memory
abbrev pub refused_of : ComposerError → Option Refused
refused_of e = option_map (λ f. record { fault = f; place = place_of e.source }) (fault_of e.inner)

-- an error reports what the value is refused for, or out of memory, which has no place
abbrev pub Tells : {Y : Type 0} → ComposerError → Result Y Refused → Type 0
Tells e value = MatchOption (refused_of e) (place_of e.source ≡ nowhere) (λ r. value ≡ Err r)

-- an error reports the fault at a place, or out of memory, which has no place
abbrev pub TellsAt : Place → ComposerErrorInner → ComposerError → Type 0
TellsAt place inner e = MatchOption (refused_of e) (place_of e.source ≡ nowhere) (λ r. (fault_of inner ≡ Some r.fault) × (r.place ≡ place))

-- a result, seen by view, is the value, or an error as above
abbrev pub Answers : {X Y : Type 0} → (X → Y) → Result X ComposerError → Result Y Refused → Type 0
Answers view (Ok x) value = value ≡ Ok (view x)
Answers view (Err e) value = Tells e value

-- a fact holds unless memory ran out, of which nothing is reported
abbrev pub UnlessMemory : {X E F : Type 0} → (E → Option F) → Result X E → Type 0 → Type 0
UnlessMemory told (Ok x) P = P
UnlessMemory told (Err e) P = MatchOption (told e) (Unit {0}) (λ f. P)

-- a value, with a place for its fault
abbrev pub placed : {Y : Type 0} → Place → Result Y Fault → Result Y Refused
placed place (Ok y) = Ok y
placed place (Err f) = Err (record { fault = f; place = place })
