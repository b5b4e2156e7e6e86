-- Which functions pass the test of form, and that their copies do.
use Rattle.std.specs.Prelude.{◌≡◌, ◌<◌, ℕ, true, List, length, slice_get, Some, All, IfSome, IsSome}
use Rattle.naga_oil_ir.specs.Body.{Tokens}
use Rattle.naga_oil_form.specs.BodyForm.{result_kind, IsSpanFine, IsTokenFine}
use Rattle.naga_oil_ir.specs.ModuleValue.{ModuleValue, FunctionValue}
use Rattle.naga_oil_ir.specs.Parts.{Parts}
use Rattle.naga_oil_ir.specs.Rows.{Text}
use Rattle.naga_oil_ir.specs.declared.parts.Named.{Named}
use Rattle.naga_oil_ir.specs.declared.parts.Named.TheVariants.{Nothing, TypeOf, ConstantAt, OverrideAt, GlobalAt, LocalAt, ArgumentAt, FunctionAt}
use Rattle.naga_oil_ir.specs.declared.span.Span.{Span}
use Rattle.naga_oil_ir.specs.declared.tokens.Token.TheVariants.{GiveCall, Callee}
use Rattle.naga_oil_derive.specs.CopiedFunction.{copy_function}
use Rattle.naga_oil_derive.specs.CopiedFunctionLaw.{MayBeCopied}
use Rattle.naga_oil_derive.specs.DerivedFunctions.{Meanings, meant}
use Rattle.naga_oil_rename.specs.Renames.{Renames}

-- what an expression of a function names is there
abbrev pub IsNamedThere : ModuleValue → FunctionValue → Named → Type 0
IsNamedThere m f Nothing = Unit {0}
IsNamedThere m f (TypeOf k) = k < length m.types
IsNamedThere m f (ConstantAt k) = k < length m.constants
IsNamedThere m f (OverrideAt k) = k < length m.overrides
IsNamedThere m f (GlobalAt k) = k < length m.global_variables
IsNamedThere m f (LocalAt k) = k < length f.local_variables
IsNamedThere m f (ArgumentAt k) = k < length f.arguments
IsNamedThere m f (FunctionAt k) = k < length m.functions

-- a body that takes the result of a function calls the function
abbrev pub AreResultsOfCalls : Tokens → Type 0
AreResultsOfCalls ts = (i f h : ℕ) → slice_get ts i ≡ Some (GiveCall f h) → (j : ℕ) × (slice_get ts j ≡ Some (Callee f))

-- an expression that names a function is a result
abbrev pub NamesFunctionAsResult : Parts → Type 0
NamesFunctionAsResult p = (f : ℕ) → p.named ≡ FunctionAt f → result_kind (Some p.kind) ≡ true

-- the test of form of a function that calls only the first c functions, in a text of n bytes
pub record IsFunctionFormed (m : ModuleValue) (c n : ℕ) (f : FunctionValue) : Type 0 where
  pub arguments : All (λ a. a.ty < length m.types) f.arguments
  pub result : IfSome f.result (λ r. r.ty < length m.types)
  pub locals : All (λ l. l.0.ty < length m.types) f.local_variables
  pub named_expressions : All (λ e. e.0 < length f.expressions) f.named_expressions
  pub expressions : All (λ e. IsNamedThere m f e.0.named) f.expressions
  pub statements : All (IsTokenFine c n) f.body
  pub callees : All (λ e. NamesFunctionAsResult e.0) f.expressions
  pub results : AreResultsOfCalls f.body
  pub body : MayBeCopied f
  pub local_spans : All (λ e. IsSpanFine n e.1) f.local_variables
  pub expression_spans : All (λ e. IsSpanFine n e.1) f.expressions

-- the functions of a module pass the test of form, each calling only functions before it; each has a name of its own
pub record AreFunctionsFormed (m : ModuleValue) (n : ℕ) : Type 0 where
  pub named : (k : ℕ) (e : FunctionValue × Span) → slice_get m.functions k ≡ Some e → IsSome e.0.name
  pub distinct :
      (j k : ℕ) (e f : FunctionValue × Span) → slice_get m.functions j ≡ Some e → slice_get m.functions k ≡ Some f →
      e.0.name ≡ f.0.name → j ≡ k
  pub forms : (k : ℕ) (e : FunctionValue × Span) → slice_get m.functions k ≡ Some e → IsFunctionFormed m k n e.0
  pub spans : (k : ℕ) (e : FunctionValue × Span) → slice_get m.functions k ≡ Some e → IsSpanFine n e.1

-- each function is known by its name, and each known name means one of them
pub record AreKnown (functions : List (FunctionValue × Span)) (names : Meanings) : Type 0 where
  pub known : (k : ℕ) (e : FunctionValue × Span) → slice_get functions k ≡ Some e → meant names e.0.name ≡ Some k
  pub there : (name : Text) (k : ℕ) → meant names name ≡ Some k → k < length functions

-- LAW: the copy of a function that may be copied may be copied
abbrev pub CopyFormLaw : Type 0
CopyFormLaw = (r : Renames) (v : FunctionValue) → MayBeCopied v → MayBeCopied (copy_function r v)
