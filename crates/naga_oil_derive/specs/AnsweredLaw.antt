-- Answered requests and imported functions: laws of the values of a derived module.
use Rattle.std.specs.Prelude.{ℕ, ◌≡◌, List, [], ◌∷◌, map, slice_get, Some, All, IsSome, IfSome}
use Rattle.naga_oil_form.specs.BodyForm.{callee, MayStand}
use Rattle.naga_oil_ir.specs.ModuleValue.{FunctionValue}
use Rattle.naga_oil_ir.specs.declared.span.Span.{Span}
use Rattle.naga_oil_walk.specs.declared.walk.Request.{Request}
use Rattle.naga_oil_walk.specs.declared.walk.Request.TheVariants.{Call}
use Rattle.naga_oil_derive.specs.Copies.{value_links}
use Rattle.naga_oil_derive.specs.CopiedFunction.{copy_function}
use Rattle.naga_oil_derive.specs.Derived.{Source, Derived}
use Rattle.naga_oil_derive.specs.DerivedFunctions.{kinds_in, named_in, initialisers_in, MayAsk, MayReach, CanImport, CanCall, KeepsFunctions, KeepsMeanings, AreAnswered, IsFunctionImported, MeansAt, IsLocalized}
use Rattle.naga_oil_derive.specs.DerivedLaw.{IsDerivation}
use Rattle.naga_oil_derive.specs.DerivedValue.{importing_of, after_importing, answer_requests, import_function, call_function, localize_function}
use Rattle.naga_oil_derive.specs.Answered.{ImportState}
use Rattle.naga_oil_derive.specs.Putting.{Adding}
use Rattle.naga_oil_derive.specs.Functions.{Copies}
use Rattle.naga_oil_rename.specs.Renames.{Renames}
use Rattle.naga_oil_derive.specs.Tree.{Kept}

-- a function passes the test of form, apart from its calls
abbrev pub HasForm : FunctionValue → Type 0
HasForm v =
    MayStand (kinds_in v) (map callee (named_in v)) (value_links v.expressions)
    (initialisers_in v) v.body

-- whatever items and functions map to, copy_function of a function of that form is a copy of it
abbrev pub HasCopies : FunctionValue → Type 0
HasCopies v = (r : Renames) → HasForm v → Copies r v (copy_function r v)

-- copy_function of each function of the source is a copy of it
abbrev pub HaveCopies : Derived → Type 0
HaveCopies d = IfSome d.source (λ s.
    (k : ℕ) (x : FunctionValue × Span) → slice_get s.value.functions k ≡ Some x → HasCopies x.0)

-- a source is set, and has what requests ask for
abbrev pub CanAnswer : Derived → List Request → Type 0
CanAnswer d rs =
    IsSome d.source ×
    IfSome d.source (λ s. All (MayAsk s.value (MayReach d.function_names s)) rs)

-- requests were answered one after another, and everything else stayed
pub record AnswersOnly (first : Kept) (d e : Derived) (rs : List Request) : Type 0 where
  pub derivation : IsDerivation first e
  pub answered : AreAnswered d rs e
  pub meanings : KeepsMeanings d e
  pub keeps : KeepsFunctions d e

-- LAW: requests are answered
abbrev pub AnswerLaw : Type 0
AnswerLaw = (first : Kept) (d : Derived) (rs : List Request) →
    IsDerivation first d → HaveCopies d → CanAnswer d rs →
    AnswersOnly first d (answer_requests d rs) rs

-- LAW: a function of the source is called, and then its name means one
abbrev pub CallLaw : Type 0
CallLaw = (first : Kept) (d : Derived) (k : ℕ) →
    IsDerivation first d → HaveCopies d → CanCall d k →
    AnswersOnly first d (call_function d k) (Call k ∷ []) ×
    ((h : ℕ) × MeansAt (call_function d k) k h)

-- a function was imported after what it names, and everything else stayed
pub record ImportsFunction (first : Kept) (d e : Derived) (v : FunctionValue) (span : Span) : Type 0 where
  pub derivation : IsDerivation first e
  pub place : ℕ
  pub imported : IsFunctionImported d e v span place
  pub keeps : KeepsFunctions d e

-- LAW: a function over the handles of the source is imported
abbrev pub FunctionLaw : Type 0
FunctionLaw = (first : Kept) (d : Derived) (v : FunctionValue) (span : Span) →
    IsDerivation first d → HaveCopies d → HasCopies v → CanImport d v →
    ImportsFunction first d (import_function d v span) v span

-- LAW: a function over the handles of the source is localized
abbrev pub LocalizedLaw : Type 0
LocalizedLaw = (d : Derived) (v : FunctionValue) → HasCopies v → HasForm v →
    IsLocalized d v (localize_function d.source d.function_names v)

-- items and functions were added, and everything else stayed
pub record AddsOnly (first : Kept) (d e : Derived) : Type 0 where
  pub derivation : IsDerivation first e
  pub keeps : KeepsFunctions d e

-- LAW: while functions are imported, also if memory runs out, items and functions were added, and everything else stayed
abbrev pub AddingLaw : Type 0
AddingLaw = (first : Kept) (d : Derived) (s : Source) (i : ImportState) →
    IsDerivation first d → d.source ≡ Some s → Adding s.value s.offset (importing_of d s) i →
    AddsOnly first d (after_importing s i)
