-- The copies that a derived module makes, without handles.
use Rattle.std.specs.Prelude.{ℕ, ◌≡◌, true, slice_get, Some, All, IfSome}
use Rattle.naga_oil_form.specs.BodyForm.{callee, is_result}
use Rattle.naga_oil_form.specs.Links.{has}
use Rattle.naga_oil_ir.specs.ModuleValue.{ModuleValue, FunctionValue}
use Rattle.naga_oil_ir.specs.Parts.{Parts}
use Rattle.naga_oil_ir.specs.Rows.{Text}
use Rattle.naga_oil_ir.specs.declared.names.ItemPlace.{ItemPlace}
use Rattle.naga_oil_ir.specs.declared.names.ItemPlace.TheVariants.{TypeItem}
use Rattle.naga_oil_ir.specs.declared.span.Span.{Span}
use Rattle.naga_oil_ir.specs.declared.tokens.Token.{Token}
use Rattle.naga_oil_ir.specs.declared.tokens.Token.TheVariants.{GiveCall, Callee}
use Rattle.naga_oil_walk.specs.declared.walk.Request.{Request}
use Rattle.naga_oil_walk.specs.declared.walk.Request.TheVariants.{Item, Call}
use Rattle.naga_oil_derive.specs.CopiedFunctionLaw.{MayBeCopied}
use Rattle.naga_oil_derive.specs.Derived.{Source, Derived, IsLaterSource}
use Rattle.naga_oil_derive.specs.DerivedFunctions.{kinds_in, Meanings, meant, meant_at, going, requests_of}
use Rattle.naga_oil_derive.specs.DerivedLaw.{IsDerivation}
use Rattle.naga_oil_derive.specs.Functions.{Copies}
use Rattle.naga_oil_walk.specs.Naming.{asked}
use Rattle.naga_oil_derive.specs.Tree.{Kept}
use Rattle.naga_oil_derive.specs.World.{goes, shifted}
use Rattle.naga_oil_copy_laws.specs.Scope.{Scope, name_of_function, scope_of, scope_from}
use Rattle.naga_oil_copy_laws.specs.ByTree.{IsReached, types_in, callee_in, CopiesByTree}
use Rattle.naga_oil_copy_laws.specs.ByTreeLaw.{HasEarlierOperands}

-- ---- what a function of a source names

-- each of these names is that of the function that it means
abbrev pub AreTrueIn : ModuleValue → Meanings → Type 0
AreTrueIn t ns = (n : Text) (h : ℕ) → meant ns n ≡ Some h → name_of_function t h ≡ n

-- an item of the source is mapped, or the name of one of its functions is known
abbrev pub IsAtHand : Source → Meanings → Request → Type 0
IsAtHand s ns (Item p) = (q : ItemPlace) × (goes s.places p ≡ Some q)
IsAtHand s ns (Call k) = (h : ℕ) × (meant_at ns (slice_get s.value.functions k) ≡ Some h)

-- everything that a function of the source names is mapped or known
pub record IsAllAtHand (s : Source) (ns : Meanings) (f : FunctionValue) : Type 0 where
  pub types : (k : ℕ) → has (types_in f) k ≡ true → IsAtHand s ns (Item (TypeItem k))
  pub expressions :
      (k : ℕ) (e : Parts × Span) → IsReached f k → slice_get f.expressions k ≡ Some e →
      All (IsAtHand s ns) (asked e.0.named)
  pub callees :
      (i : ℕ) (t : Token) → slice_get f.body i ≡ Some t → IfSome (callee_in t) (λ h. IsAtHand s ns (Call h))

-- the body of f calls the function at c
abbrev pub Calls : FunctionValue → ℕ → Type 0
Calls f c = (i : ℕ) × (slice_get f.body i ≡ Some (Callee c))

-- f calls each function whose results it names
pub record CallsWhatItNames (f : FunctionValue) : Type 0 where
  pub expressions :
      (k c : ℕ) (e : Parts × Span) → IsReached f k → slice_get f.expressions k ≡ Some e →
      callee e.0.named ≡ Some c → Calls f c
  pub results : (i c h : ℕ) → slice_get f.body i ≡ Some (GiveCall c h) → Calls f c

-- LAW: what a function requests is everything that it names
abbrev pub AtHandLaw : Type 0
AtHandLaw = (s : Source) (ns : Meanings) (f : FunctionValue) → MayBeCopied f → CallsWhatItNames f →
    All (IsAtHand s ns) (requests_of f) → IsAllAtHand s ns f

-- ---- copies of functions of a source

-- g, in a module t, is the copy of f, a function of the source s, by what the items that f names map to, and by true names
pub record IsMade (s : Source) (t : ModuleValue) (f g : FunctionValue) : Type 0 where
  pub before : Source
  pub names : Meanings
  pub later : IsLaterSource before s
  pub are_true : AreTrueIn t names
  pub at_hand : IsAllAtHand before names f
  pub copies : Copies (going before names) f g

-- g is a copy by tree of f, a function of the source, in the module t so far
abbrev pub IsCopyFrom : Source → ModuleValue → FunctionValue → FunctionValue → Type 0
IsCopyFrom s t f g = CopiesByTree (shifted s.offset) (λ n. n) (scope_from s t) f (scope_of t) g

-- LAW: a derived module's copy of a function of a source is a copy by tree
abbrev pub MadeLaw : Type 0
MadeLaw = (first : Kept) (d : Derived) (s : Source) (f g : FunctionValue) →
    IsDerivation first d → d.source ≡ Some s → MayBeCopied f → IsMade s d.target f g →
    IsCopyFrom s d.target f g × HasEarlierOperands g

-- ---- calls

-- LAW: a copy of a function that calls what it names calls what it names
abbrev pub CallsLaw : Type 0
CallsLaw = (m : Span → Span) (p : Text → Text) (a b : Scope) (f g : FunctionValue) →
    CopiesByTree m p a f b g → CallsWhatItNames f → CallsWhatItNames g

-- an expression that names a function is a result
abbrev pub NamesByResults : FunctionValue → Type 0
NamesByResults f =
    (k c : ℕ) (e : Parts × Span) → slice_get f.expressions k ≡ Some e → callee e.0.named ≡ Some c →
    is_result (kinds_in f) k ≡ true

-- LAW: a function in which only results name functions calls what it names, if it calls the functions whose results it takes
abbrev pub GivenLaw : Type 0
GivenLaw = (f : FunctionValue) → MayBeCopied f → NamesByResults f →
    ((i c h : ℕ) → slice_get f.body i ≡ Some (GiveCall c h) → Calls f c) → CallsWhatItNames f
