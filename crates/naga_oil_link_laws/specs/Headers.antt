-- What the headers of builds declare.
use Rattle.std.specs.Prelude.{ℕ, ◌≡◌, Bool, false, List, [], take, slice_get, Some, bytes_eq}
use Rattle.std.specs.List.{list_any}
use Rattle.naga_oil_ir.specs.ModuleValue.{ModuleValue, FunctionValue}
use Rattle.naga_oil_ir.specs.Rows.{Text}
use Rattle.naga_oil_ir.specs.declared.span.Span.{Span}
use Rattle.naga_oil_link.specs.BuiltModule.{BuiltModule, Builds}

-- a module has a function with a name
abbrev pub HasNamed : ModuleValue → Text → Type 0
HasNamed m name = (k : ℕ) × (e : FunctionValue × Span) × (slice_get m.functions k ≡ Some e) × (e.0.name ≡ name)

-- the functions of a build's header have no bodies, and its module has one with the name of each
pub record HasDeclarations (b : BuiltModule) : Type 0 where
  pub without_bodies : (k : ℕ) (e : FunctionValue × Span) → slice_get b.header.functions k ≡ Some e → e.0.body ≡ []
  pub named : (k : ℕ) (e : FunctionValue × Span) → slice_get b.header.functions k ≡ Some e → HasNamed b.value e.0.name

-- each of some builds declares functions that its module has
abbrev pub HaveDeclarations : Builds → Type 0
HaveDeclarations bs = (i : ℕ) (e : List ℕ × BuiltModule) → slice_get bs i ≡ Some e → HasDeclarations e.1

-- whether one of some builds has a name
abbrev pub has_build : Builds → List ℕ → Bool
has_build bs name = list_any (λ e. bytes_eq name e.0) bs

-- no build has the name of an earlier one
abbrev pub HaveOwnNames : Builds → Type 0
HaveOwnNames bs = (i : ℕ) (e : List ℕ × BuiltModule) → slice_get bs i ≡ Some e → has_build (take i bs) e.0 ≡ false
