-- The functions of a made module have names of their own.
use Rattle.std.specs.Prelude.{ℕ, ◌≡◌, List, Some, Ok, slice_get}
use Rattle.naga_oil_ir.specs.ModuleValue.{ModuleValue, FunctionValue}
use Rattle.naga_oil_ir.specs.declared.span.Span.{Span}
use Rattle.naga_oil_registry.specs.Registered.{Registered}
use Rattle.naga_oil_registry.specs.Descriptor.{ShaderSource}
use Rattle.naga_oil_build.specs.Held.{Settings}
use Rattle.naga_oil.specs.Answer.{answer}
use Rattle.naga_oil_faithful_laws.specs.WrongModules.{with_two_bases}

-- no two functions of a module have the same name
abbrev pub HaveOwnNames : ModuleValue → Type 0
HaveOwnNames made = (j k : ℕ) (e f : FunctionValue × Span) →
    slice_get made.functions j ≡ Some e → slice_get made.functions k ≡ Some f → e.0.name ≡ f.0.name → j ≡ k

-- LAW: this holds of each module that a make answers
abbrev pub OwnNamesLaw : Type 0
OwnNamesLaw = (s : Settings) (ds : List Registered) (counter : ℕ) (m : ShaderSource) (made : ModuleValue) →
    (answer s ds counter m).result ≡ Ok made → HaveOwnNames made

-- LAW: this isn't so of the small make's module with one of its functions twice
abbrev pub TwiceLaw : Type 0
TwiceLaw = HaveOwnNames with_two_bases → ⊥
