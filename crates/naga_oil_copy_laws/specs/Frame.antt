-- Copies in modules that get more.
use Rattle.std.specs.Prelude.{ℕ, ◌≡◌, true, slice_get, Some, All, IfSome, IsSome}
use Rattle.naga_oil_form.specs.BodyForm.{callee}
use Rattle.naga_oil_form.specs.Links.{has}
use Rattle.naga_oil_ir.specs.ModuleValue.{ModuleValue, FunctionValue}
use Rattle.naga_oil_ir.specs.Parts.{Parts}
use Rattle.naga_oil_ir.specs.Rows.{Row, Text, named_place}
use Rattle.naga_oil_ir.specs.declared.names.ItemPlace.{ItemPlace}
use Rattle.naga_oil_ir.specs.declared.names.ItemPlace.TheVariants.{TypeItem}
use Rattle.naga_oil_ir.specs.declared.span.Span.{Span}
use Rattle.naga_oil_ir.specs.declared.tokens.Token.{Token}
use Rattle.naga_oil_derive.specs.declared.special.SpecialKey.{SpecialKey}
use Rattle.naga_oil_derive.specs.CopiedFunctionLaw.{MayBeCopied}
use Rattle.naga_oil_derive.specs.CopiedLaw.{HasAt, IsCopyable, AreSpecial}
use Rattle.naga_oil_derive.specs.Copying.{AreWhole}
use Rattle.naga_oil_derive.specs.Derived.{Source, Derived}
use Rattle.naga_oil_derive.specs.DerivedLaw.{IsDerivation}
use Rattle.naga_oil_derive.specs.DerivedValue.{set_source}
use Rattle.naga_oil_derive.specs.Tree.{Kept}
use Rattle.naga_oil_derive.specs.World.{world, special_at, special_entries}
use Rattle.naga_oil_copy_laws.specs.Scope.{Scope, scope_of, scope_from}
use Rattle.naga_oil_copy_laws.specs.ByTree.{IsReached, types_in, callee_in, CopiesByTree}
use Rattle.naga_oil_copy_laws.specs.ByTreeLaw.{HasEarlierOperands}
use Rattle.naga_oil_copy_laws.specs.CopiedByTree.{IsMade}

-- ---- scopes that agree

-- two scopes read and name everything alike
pub record AreAlike (a b : Scope) : Type 0 where
  pub reads : (p : ItemPlace) (n : ℕ) → b.reads p n ≡ a.reads p n
  pub names : (k : ℕ) → b.function_name k ≡ a.function_name k

-- LAW: copies are copies in scopes that are alike
abbrev pub AlikeLaw : Type 0
AlikeLaw = (m : Span → Span) (p : Text → Text) (a b c d : Scope) (f g : FunctionValue) →
    AreAlike a c → AreAlike b d → CopiesByTree m p a f b g → CopiesByTree m p c f d g

-- ---- modules that get more

-- u has what t has, at the same places
pub record HasMore (t u : ModuleValue) : Type 0 where
  pub items : (p : ItemPlace) (r : Row) → world t p ≡ Some r → world u p ≡ Some r
  pub functions :
      (k : ℕ) (x : FunctionValue × Span) → slice_get t.functions k ≡ Some x → slice_get u.functions k ≡ Some x
  pub special : (k : SpecialKey) (q : ℕ) → special_at t.special_types k ≡ Some q → special_at u.special_types k ≡ Some q

-- a function stands at the place
abbrev pub HasFunctionAt : ModuleValue → ℕ → Type 0
HasFunctionAt t k = (x : FunctionValue × Span) × (slice_get t.functions k ≡ Some x)

-- what g names is there
pub record IsAllThere (t : ModuleValue) (g : FunctionValue) : Type 0 where
  pub types : (k : ℕ) → has (types_in g) k ≡ true → HasAt t (TypeItem k)
  pub expressions :
      (k : ℕ) (e : Parts × Span) → IsReached g k → slice_get g.expressions k ≡ Some e →
      IfSome (named_place e.0.named) (HasAt t) × IfSome (callee e.0.named) (HasFunctionAt t)
  pub callees :
      (i : ℕ) (x : Token) → slice_get g.body i ≡ Some x → IfSome (callee_in x) (HasFunctionAt t)

-- LAW: a copy stays a copy while its module gets more
abbrev pub TargetLaw : Type 0
TargetLaw = (m : Span → Span) (p : Text → Text) (a : Scope) (f g : FunctionValue) (t u : ModuleValue) →
    HasEarlierOperands f → HasEarlierOperands g → AreWhole (world t) → HasMore t u → IsAllThere t g →
    CopiesByTree m p a f (scope_of t) g →
    CopiesByTree m p a f (scope_of u) g × IsAllThere u g

-- t has a special type with the key of each special type of a source
abbrev pub HasItsKeys : Source → ModuleValue → Type 0
HasItsKeys s t = All (λ e. IsSome (special_at t.special_types e.0)) (special_entries s.value.special_types)

-- LAW: a source keeps reading as it was copied, if its special types are kept
abbrev pub SourceLaw : Type 0
SourceLaw = (first : Kept) (d : Derived) (s : Source) (u : ModuleValue) →
    IsDerivation first d → d.source ≡ Some s → HasItsKeys s d.target → HasMore d.target u →
    AreAlike (scope_from s d.target) (scope_from s u)

-- LAW: what a copy names is there
abbrev pub ThereLaw : Type 0
ThereLaw = (first : Kept) (d : Derived) (s : Source) (f g : FunctionValue) →
    IsDerivation first d → d.source ≡ Some s → MayBeCopied f → IsMade s d.target f g → IsAllThere d.target g

-- LAW: after a module is set as the source, its special types are kept
abbrev pub KeysLaw : Type 0
KeysLaw = (first : Kept) (d : Derived) (m : ModuleValue) (shift : ℕ) →
    IsDerivation first d → IsCopyable m → AreSpecial m →
    let e = set_source d m shift in
    IfSome e.source (λ s. HasItsKeys s e.target)
