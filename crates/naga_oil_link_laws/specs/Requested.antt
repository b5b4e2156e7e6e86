-- Which functions imports request of builds.
use Rattle.std.specs.Prelude.{ℕ, ◌≡◌, ◌⊎◌, Bool, true, false, List, [], ◌∷◌, slice_get, Some, bytes_eq}
use Rattle.naga_oil_ir.specs.ModuleValue.{FunctionValue}
use Rattle.naga_oil_ir.specs.Rows.{Text}
use Rattle.naga_oil_ir.specs.declared.span.Span.{Span}
use Rattle.naga_oil_imports.specs.Uses.{Import}
use Rattle.naga_oil_link.specs.BuiltModule.{Builds}
use Rattle.naga_oil_link.specs.Linked.{links_function, asked_of}

-- a function that passes a test has a name
abbrev pub HasPassing : (FunctionValue × Span → Bool) → List (FunctionValue × Span) → Text → Type 0
HasPassing test fs n = (k : ℕ) × (f : FunctionValue × Span) × (slice_get fs k ≡ Some f) × (test f ≡ true) × (f.0.name ≡ n)

-- one of some imports requests a name
abbrev pub AnyAsks : (Import → Text → Type 0) → List Import → Text → Type 0
AnyAsks asks [] n = ⊥
AnyAsks asks (i ∷ is) n = asks i n ⊎ AnyAsks asks is n

abbrev pub Chosen : Bool → Type 0 → Type 0 → Type 0
Chosen true A B = A
Chosen false A B = B

-- an import requests the name of a function from builds, the newest first: of its build's header a function that it names or that
-- overrides another, or one that its build imports from those before
abbrev pub Asks : Builds → Import → Text → Type 0
Asks [] i n = ⊥
Asks (e ∷ earlier) i n = Chosen (bytes_eq i.import e.0) (HasPassing (links_function e.1 (asked_of i e.1)) e.1.header.functions n ⊎ AnyAsks (Asks earlier) e.1.imports n) (Asks earlier i n)
