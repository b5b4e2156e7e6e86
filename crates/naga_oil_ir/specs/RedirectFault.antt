-- Why calls can't be redirected, or functions can't be sorted, as plain data.
use Rattle.std.specs.Prelude.{◌≡◌, List, ℕ, Option, Some, None, Result, Ok, Err, MatchOption, string_bytes}
use Rattle.naga_oil_ir.specs.declared.redirect_error.RedirectError.{RedirectError}
use Rattle.naga_oil_ir.specs.declared.redirect_error.RedirectError.TheVariants as code

-- the reasons, with the names that they report
pub data RedirectFault : Type 0 where
  not_found : (name : List ℕ) → RedirectFault
  argument_mismatch : (replacement original : List ℕ) → RedirectFault
  return_type_mismatch : (replacement original : List ℕ) → RedirectFault
  circular_reference : (names : List ℕ) → RedirectFault

-- an error as plain data; out of memory has no reason
abbrev pub redirect_fault : RedirectError → Option RedirectFault
redirect_fault (code.FunctionNotFound name) = Some (not_found (string_bytes name))
redirect_fault (code.ArgumentMismatch replacement original) = Some (argument_mismatch (string_bytes replacement) (string_bytes original))
redirect_fault (code.ReturnTypeMismatch replacement original) = Some (return_type_mismatch (string_bytes replacement) (string_bytes original))
redirect_fault (code.CircularReference names) = Some (circular_reference (string_bytes names))
redirect_fault code.Memory = None

-- a result, seen by view, is the value, unless memory ran out
abbrev pub Gives : {X Y : Type 0} → (X → Y) → Result X RedirectError → Result Y RedirectFault → Type 0
Gives view (Ok x) value = value ≡ Ok (view x)
Gives view (Err e) value = MatchOption (redirect_fault e) (Unit {0}) (λ f. value ≡ Err f)
