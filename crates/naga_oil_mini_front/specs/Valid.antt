-- Whether each call of a module has as many arguments as its callee has parameters.
use Rattle.std.specs.Prelude.{ℕ, Bool, false, ◌==◌, if◌then◌else◌, List, [], ◌∷◌, ◌++◌, length, map, slice_get, Option, Some, None, unwrap_or, Result, Ok, Err, codes}
use Rattle.std.specs.List.{prefix_len}
use Rattle.naga_oil_ir.specs.Body.{Tokens}
use Rattle.naga_oil_ir.specs.ModuleValue.{ModuleValue, FunctionValue}
use Rattle.naga_oil_ir.specs.Backend.{FaultValue}
use Rattle.naga_oil_ir.specs.Spans.{undefined}
use Rattle.naga_oil_ir.specs.declared.span.Span.{Span}
use Rattle.naga_oil_ir.specs.declared.tokens.Token.TheVariants.{At, Callee}
use Rattle.naga_oil_mini_writer.specs.BodyReader.{is_use}

-- a function's name, which is empty if it has none
abbrev pub name_in : Option (FunctionValue × Span) → List ℕ
name_in None = []
name_in (Some e) = unwrap_or e.0.name []

abbrev pub name_at : ModuleValue → ℕ → List ℕ
name_at m f = name_in (slice_get m.functions f)

-- there is a function, with this number of parameters
abbrev pub has_parameters : Option (FunctionValue × Span) → ℕ → Bool
has_parameters None n = false
has_parameters (Some e) n = length e.0.arguments == n

abbrev pub is_right : ModuleValue → ℕ → ℕ → Bool
is_right m f n = has_parameters (slice_get m.functions f) n

-- the first wrong call of a body, with the span of its statement
abbrev pub wrong_from : ModuleValue → Span → Tokens → Option (Span × ℕ)
wrong_from m at [] = None
wrong_from m at (At s ∷ ts) = wrong_from m s ts
wrong_from m at (Callee f ∷ ts) = if is_right m f (prefix_len is_use ts) then wrong_from m at ts else Some (at, f)
wrong_from m at (t ∷ ts) = wrong_from m at ts

abbrev pub wrong_call : ModuleValue → Tokens → Option (Span × ℕ)
wrong_call m ts = wrong_from m undefined ts

-- the error of a call: its span, and the name of its callee
abbrev pub call_fault : Span → List ℕ → FaultValue
call_fault at name = record { message = codes "wrong number of arguments"; spans = (at, codes "call of " ++ name) ∷ []; notes = [] }

abbrev pub unless_wrong : ModuleValue → Option (Span × ℕ) → Result (Unit {0}) FaultValue
unless_wrong m None = Ok tt
unless_wrong m (Some c) = Err (call_fault c.0 (name_at m c.1))

-- a body is right, or the error of its first wrong call
abbrev pub checked : ModuleValue → Tokens → Result (Unit {0}) FaultValue
checked m ts = unless_wrong m (wrong_call m ts)

-- the first error of two
abbrev pub and_then : Result (Unit {0}) FaultValue → Result (Unit {0}) FaultValue → Result (Unit {0}) FaultValue
and_then (Ok u) r = r
and_then (Err e) r = Err e

abbrev pub all_checked : ModuleValue → List Tokens → Result (Unit {0}) FaultValue
all_checked m [] = Ok tt
all_checked m (b ∷ bs) = and_then (checked m b) (all_checked m bs)

-- the bodies of functions in order, and then those of entry points
abbrev pub bodies : ModuleValue → List Tokens
bodies m = map (λ f. f.0.body) m.functions ++ map (λ e. e.function.body) m.entry_points

-- a module is valid, or the error of its first wrong call
unfoldable pub validated : ModuleValue → Result (Unit {0}) FaultValue
validated m = all_checked m (bodies m)
