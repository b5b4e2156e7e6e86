-- A module with its functions sorted, as a value.
use Rattle.std.specs.Prelude.{ℕ, List, fold, slice_get, Option, Some, None, Result, Ok, Err}
use Rattle.naga_oil_ir.specs.ModuleValue.{ModuleValue, FunctionValue, module_value}
use Rattle.naga_oil_ir.specs.RedirectFault.{RedirectFault, Gives}
use Rattle.naga_oil_ir.specs.declared.module.Module.{Module}
use Rattle.naga_oil_ir.specs.declared.redirect_error.RedirectError.{RedirectError}
use Rattle.naga_oil_ir.specs.declared.span.Span.{Span}
use Rattle.naga_oil_derive.specs.CopiedEntry.{make_module}
use Rattle.naga_oil_derive.specs.Derived.{Derived, nothing}
use Rattle.naga_oil_derive.specs.DerivedValue.{import_function, set_source}
use Rattle.naga_oil_redirect.specs.Ordered.{ordered}

-- a function is imported, if there is one
abbrev pub import_one : Derived → Option (FunctionValue × Span) → Derived
import_one d None = d
import_one d (Some f) = import_function d f.0 f.1

-- the functions of a module at some places are imported one after another
abbrev pub import_in_turn : ModuleValue → Derived → (places : List ℕ) → Derived
import_in_turn m d places = fold (λ d k. import_one d (slice_get m.functions k)) d places

-- the module of what another module's special types, its functions at some places, and then its entry points reach
unfoldable pub in_turn : ModuleValue → (places : List ℕ) → ModuleValue
in_turn m places = make_module (import_in_turn m (set_source nothing m 0) places)

abbrev pub in_turn_if : ModuleValue → Result (List ℕ) RedirectFault → Result ModuleValue RedirectFault
in_turn_if m (Ok places) = Ok (in_turn m places)
in_turn_if m (Err f) = Err f

-- a module with its functions by level, then by place; or the names of functions without a level
abbrev pub put_in_order : ModuleValue → Result ModuleValue RedirectFault
put_in_order m = in_turn_if m (ordered m.functions)

-- a result is a module with its functions sorted
abbrev pub PutsInOrder : ModuleValue → Result Module RedirectError → Type 0
PutsInOrder m r = Gives module_value r (put_in_order m)
