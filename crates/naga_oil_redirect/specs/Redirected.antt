-- Calls redirected to another function.
use Rattle.std.specs.Prelude.{ℕ, ◌+◌, Bool, false, not, List, [], ◌∷◌, map, Some, None, option_map, Result, Ok, Err, nat_eq, ◌==◌, ◌||◌, if◌then◌else◌}
use Rattle.std.specs.List.{enumerate_from}
use Rattle.std.specs.Option.{option_eq}
use Rattle.std.specs.Cmp.Lexicographic.{pointwise}
use Rattle.naga_oil_ir.specs.Rows.{Text}
use Rattle.naga_oil_form.specs.NameForm.{Name}
use Rattle.naga_oil_ir.specs.ModuleValue.{ModuleValue, FunctionValue, EntryValue, function_value}
use Rattle.naga_oil_ir.specs.declared.module.Function.{Function}
use Rattle.naga_oil_ir.specs.declared.span.Span.{Span}
use Rattle.naga_oil_rename.specs.Renames.{Renames, rename, rename_tokens}
use Rattle.naga_oil_ir.specs.RedirectFault.{RedirectFault, not_found, argument_mismatch, return_type_mismatch}

-- functions with their spans
abbrev pub function_values : List (Function × Span) → List (FunctionValue × Span)
function_values fs = map (λ e. (function_value e.0, e.1)) fs

-- ---- calls of one function are redirected to another

-- the handle of the one becomes that of the other; everything else stays
abbrev pub sent : ℕ → ℕ → Renames
sent from to = record {
  ty = λ h. h;
  constant = λ h. h;
  pipeline_override = λ h. h;
  global = λ h. h;
  function = λ h. if h == from then to else h;
  expression = λ h. h;
  range = λ r. r;
  span = λ s. s;
}

-- a function with its calls and the results of calls redirected
abbrev pub send : ℕ → ℕ → FunctionValue → FunctionValue
send from to f = record f {
  expressions = map (λ e. (rename (sent from to) e.0, e.1)) f.expressions;
  body = rename_tokens (sent from to) f.body;
}

abbrev pub is_named : (Name → Bool) → Text → Bool
is_named p None = false
is_named p (Some n) = p n

-- the function at a place with its calls redirected, unless it is the replacement or its name passes a test
abbrev pub send_at : ℕ → ℕ → (Name → Bool) → ℕ × (FunctionValue × Span) → FunctionValue × Span
send_at from to omitted e = if (e.0 == to) || is_named omitted e.1.0.name then e.1 else (send from to e.1.0, e.1.1)

abbrev pub send_entry : ℕ → ℕ → EntryValue → EntryValue
send_entry from to e = record e { function = send from to e.function }

-- a module with the calls of all functions and entry points redirected
abbrev pub redirected : ModuleValue → ℕ → ℕ → (Name → Bool) → ModuleValue
redirected m from to omitted = record m {
  functions = map (send_at from to omitted) (enumerate_from 0 m.functions);
  entry_points = map (send_entry from to) m.entry_points;
}

-- ---- which function may replace another

-- the first function with a name, and its place; places count from k
abbrev pub found_from : ℕ → Name → List (FunctionValue × Span) → Result (ℕ × FunctionValue) RedirectFault
found_from k n [] = Err (not_found n)
found_from k n (e ∷ es) = if is_named (pointwise nat_eq n) e.0.name then Ok (k, e.0) else found_from (k + 1) n es

abbrev pub found : Name → List (FunctionValue × Span) → Result (ℕ × FunctionValue) RedirectFault
found n fs = found_from 0 n fs

-- arguments of the same number and types
abbrev pub same_arguments : FunctionValue → FunctionValue → Bool
same_arguments f g = pointwise nat_eq (map (λ a. a.ty) f.arguments) (map (λ a. a.ty) g.arguments)

-- results of one type, or none
abbrev pub same_results : FunctionValue → FunctionValue → Bool
same_results f g = option_eq nat_eq (option_map (λ r. r.ty) f.result) (option_map (λ r. r.ty) g.result)

-- the places of a function and its replacement, if their signatures match: arguments are compared first
abbrev pub compared :
    (original replacement : Name) → ℕ × FunctionValue → ℕ × FunctionValue →
    Result (ℕ × ℕ) RedirectFault
compared original replacement f g =
    if not (same_arguments f.1 g.1) then Err (argument_mismatch replacement original)
    else if not (same_results f.1 g.1) then Err (return_type_mismatch replacement original)
    else Ok (f.0, g.0)

-- the places of both, if both are found, the original first
abbrev pub matching :
    (original replacement : Name) → Result (ℕ × FunctionValue) RedirectFault →
    Result (ℕ × FunctionValue) RedirectFault → Result (ℕ × ℕ) RedirectFault
matching original replacement (Err e) g = Err e
matching original replacement (Ok f) (Err e) = Err e
matching original replacement (Ok f) (Ok g) = compared original replacement f g

abbrev pub matched : List (FunctionValue × Span) → (original replacement : Name) → Result (ℕ × ℕ) RedirectFault
matched fs original replacement = matching original replacement (found original fs) (found replacement fs)
