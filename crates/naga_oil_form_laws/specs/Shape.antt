-- Plain data in the shape of a module: what stands where, and what it may name.
use Rattle.std.specs.Prelude.{ℕ, ◌≡◌, true, nat_eq, List, [], ◌∷◌, map, Option, Some, option_map, All, IfSome}
use Rattle.std.specs.List.{IsDistinct}
use Rattle.naga_oil_ir.specs.ModuleValue.{ModuleValue, FunctionValue, module_value}
use Rattle.naga_oil_ir.specs.Kinds.{global_variable_kind}
use Rattle.naga_oil_ir.specs.Parts.{Parts}
use Rattle.naga_oil_ir.specs.declared.module.Module.{Module}
use Rattle.naga_oil_ir.specs.declared.names.ItemPlace.{ItemPlace}
use Rattle.naga_oil_ir.specs.declared.names.ItemPlace.TheVariants.{TypeItem, ExpressionItem}
use Rattle.naga_oil_ir.specs.declared.parts.Named.TheVariants.{GlobalAt}
use Rattle.naga_oil_derive.specs.CopiedLaw.{place_number, IsKinded}
use Rattle.naga_oil_derive.specs.CopiedFunctionLaw.{StandAlone}
use Rattle.naga_oil_form_laws.specs.FunctionForm.{NamesFunctionAsResult, AreResultsOfCalls}
use Rattle.naga_oil_form_laws.specs.ItemsStand.{may_name_kind}

-- a type names types and overrides
abbrev pub NamesAsType : List (Option ItemPlace) → Type 0
NamesAsType names = All (λ o. IfSome o (λ q. may_name_kind 0 (place_number q) ≡ true)) names

-- a constant, an override or a global names its type and an optional initialiser
pub record NamesTypeAndValue (names : List (Option ItemPlace)) : Type 0 where
  pub ty : ℕ
  pub value : Option ℕ
  pub are : names ≡ Some (TypeItem ty) ∷ option_map ExpressionItem value ∷ []

-- an expression that names a global is of that kind
abbrev pub NamesGlobalAsGlobal : Parts → Type 0
NamesGlobalAsGlobal p = (g : ℕ) → p.named ≡ GlobalAt g → p.kind ≡ global_variable_kind

-- a function names functions only as results, takes results of its calls, and its external expressions have no operands
pub record HasFunctionShape (f : FunctionValue) : Type 0 where
  pub callees : All (λ e. NamesFunctionAsResult e.0) f.expressions
  pub results : AreResultsOfCalls f.body
  pub alone : StandAlone f.expressions

-- each item stands among those of its kind, and names what its kind may; no two special types have the same key
pub record HasModuleShape (m : ModuleValue) : Type 0 where
  pub kinds : IsKinded m
  pub keys : IsDistinct nat_eq (map (λ e. e.0) m.special_types.predeclared_types)
  pub types : All (λ e. NamesAsType e.0.names) m.types
  pub constants : All (λ e. NamesTypeAndValue e.0.names) m.constants
  pub overrides : All (λ e. NamesTypeAndValue e.0.names) m.overrides
  pub globals : All (λ e. NamesTypeAndValue e.0.names) m.global_variables
  pub global_expressions : All (λ e. NamesGlobalAsGlobal e.0) m.global_expressions
  pub functions : All (λ e. HasFunctionShape e.0) m.functions
  pub entry_points : All (λ e. HasFunctionShape e.function) m.entry_points

-- LAW: the value of a module whose predeclared special types have distinct keys has the shape of a module
abbrev pub ShapeLaw : Type 0
ShapeLaw =
    (m : Module) → IsDistinct nat_eq (map (λ e. e.0) m.special_types.predeclared_types.entries) →
    HasModuleShape (module_value m)
