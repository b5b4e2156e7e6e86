-- Redirected calls, without handles.
use Rattle.std.specs.Prelude.{ℕ, ◌≡◌, ◌==◌, ◌||◌, Bool, slice_get, Some, bytes_eq, if◌then◌else◌}
use Rattle.std.specs.Option.{option_eq}
use Rattle.naga_oil_ir.specs.ModuleValue.{ModuleValue, FunctionValue}
use Rattle.naga_oil_form.specs.NameForm.{Name}
use Rattle.naga_oil_ir.specs.Rows.{Text}
use Rattle.naga_oil_ir.specs.declared.span.Span.{Span}
use Rattle.naga_oil_redirect.specs.Redirected.{send, redirected, is_named}
use Rattle.naga_oil_copy_laws.specs.Scope.{Scope, name_of_function, scope_of}
use Rattle.naga_oil_copy_laws.specs.ByTree.{CopiesByTree}
use Rattle.naga_oil_copy_laws.specs.ByTreeLaw.{IsAsCopied}

-- one name stands for another
abbrev pub instead_of : Text → Text → Text → Text
instead_of from to n = if option_eq bytes_eq from n then to else n

-- no other function has the name of the function at a place
abbrev pub IsOnlyOfItsName : Scope → ℕ → Type 0
IsOnlyOfItsName a k = (h : ℕ) → a.function_name h ≡ a.function_name k → h ≡ k

-- LAW: a function with its calls redirected is a copy of it, except that one name stands for another
abbrev pub SendLaw : Type 0
SendLaw = (a : Scope) (f : FunctionValue) (from to : ℕ) → IsAsCopied f → IsOnlyOfItsName a from →
    CopiesByTree (λ s. s) (instead_of (a.function_name from) (a.function_name to)) a f a (send from to f) ×
    IsAsCopied (send from to f)

-- which names stand for others in the function at a place, whose name is n
abbrev pub sends_at : ModuleValue → (from to : ℕ) → (Name → Bool) → ℕ → Text → Text → Text
sends_at m from to omitted k n =
    if (k == to) || is_named omitted n then (λ t. t) else instead_of (name_of_function m from) (name_of_function m to)

-- g, at k, is a copy of the function there, with its calls redirected
pub record IsSentFrom
    (m : ModuleValue) (from to : ℕ) (omitted : Name → Bool) (k : ℕ) (g : FunctionValue × Span) :
    Type 0 where
  pub source : FunctionValue × Span
  pub at : slice_get m.functions k ≡ Some source
  pub span : g.1 ≡ source.1
  pub copies :
      CopiesByTree (λ s. s) (sends_at m from to omitted k source.0.name) (scope_of m) source.0
      (scope_of (redirected m from to omitted)) g.0
  pub as_copied : IsAsCopied g.0

-- the functions of a module are in the form of copies
abbrev pub AreAsCopied : ModuleValue → Type 0
AreAsCopied m = (k : ℕ) (x : FunctionValue × Span) → slice_get m.functions k ≡ Some x → IsAsCopied x.0

-- LAW: each function of a redirected module is a copy of the one at its place
abbrev pub RedirectedLaw : Type 0
RedirectedLaw = (m : ModuleValue) (from to : ℕ) (omitted : Name → Bool) →
    AreAsCopied m → IsOnlyOfItsName (scope_of m) from →
    (k : ℕ) (g : FunctionValue × Span) → slice_get (redirected m from to omitted).functions k ≡ Some g →
    IsSentFrom m from to omitted k g

-- LAW: the function of each entry point of a redirected module is a copy of its source
abbrev pub RedirectedEntryLaw : Type 0
RedirectedEntryLaw = (m : ModuleValue) (from to : ℕ) (omitted : Name → Bool) (f : FunctionValue) →
    IsAsCopied f → IsOnlyOfItsName (scope_of m) from →
    CopiesByTree (λ s. s) (instead_of (name_of_function m from) (name_of_function m to)) (scope_of m) f
    (scope_of (redirected m from to omitted)) (send from to f) ×
    IsAsCopied (send from to f)
