-- The functions of a derived module as copies of functions of its source.
use Rattle.std.specs.Prelude.{ℕ, ◌≡◌, ◌≤◌, List, length, slice_get, Some, All, IfSome}
use Rattle.naga_oil_ir.specs.ModuleValue.{ModuleValue, FunctionValue}
use Rattle.naga_oil_ir.specs.declared.span.Span.{Span}
use Rattle.naga_oil_walk.specs.declared.walk.Request.{Request}
use Rattle.naga_oil_derive.specs.AnsweredLaw.{HasCopies, HaveCopies, CanAnswer}
use Rattle.naga_oil_derive.specs.CopiedFunctionLaw.{MayBeCopied}
use Rattle.naga_oil_derive.specs.CopiedLaw.{IsCopyable, AreSpecial}
use Rattle.naga_oil_derive.specs.Derived.{Source, Derived, Keeps}
use Rattle.naga_oil_derive.specs.DerivedFunctions.{CanImport, requests_of}
use Rattle.naga_oil_derive.specs.DerivedLaw.{IsDerivation}
use Rattle.naga_oil_derive.specs.DerivedValue.{set_source, answer_requests, import_function, localize_function}
use Rattle.naga_oil_derive.specs.Tree.{Kept}
use Rattle.naga_oil_derive.specs.World.{shifted}
use Rattle.naga_oil_copy_laws.specs.ByTreeLaw.{HasEarlierOperands}
use Rattle.naga_oil_copy_laws.specs.CopiedByTree.{AreTrueIn, IsAtHand, CallsWhatItNames, IsMade, IsCopyFrom}

-- a function passes the test of form, apart from the targets of its calls, and calls each function whose results it names
pub record IsCopyableFunction (f : FunctionValue) : Type 0 where
  pub may : MayBeCopied f
  pub calls : CallsWhatItNames f

-- a function, with its span, is one of a list
abbrev pub IsOneOf : List (FunctionValue × Span) → FunctionValue × Span → Type 0
IsOneOf fs f = (i : ℕ) × (slice_get fs i ≡ Some f)

-- these functions can be copied, and those of a source are among them
pub record HaveSource (fs : List (FunctionValue × Span)) (s : Source) : Type 0 where
  pub copyable : (f : FunctionValue × Span) → IsOneOf fs f → IsCopyableFunction f.0
  pub functions : (k : ℕ) (x : FunctionValue × Span) → slice_get s.value.functions k ≡ Some x → IsOneOf fs x

-- g is the copy of one of these functions, and has its span, moved
pub record IsMadeOfOne (fs : List (FunctionValue × Span)) (s : Source) (t : ModuleValue) (g : FunctionValue × Span) : Type 0 where
  pub function : FunctionValue × Span
  pub among : IsOneOf fs function
  pub made : IsMade s t function.0 g.0
  pub span : g.1 ≡ shifted s.offset function.1

-- the functions of the module from the b-th on are copies of functions over the handles of its source, and its names are true
pub record HoldsCopies (fs : List (FunctionValue × Span)) (b : ℕ) (s : Source) (d : Derived) : Type 0 where
  pub are_true : AreTrueIn d.target d.function_names
  pub made :
      (k : ℕ) (g : FunctionValue × Span) → b ≤ k → slice_get d.target.functions k ≡ Some g →
      IsMadeOfOne fs s d.target g

-- the module holds copies of functions of its source, if one is set
abbrev pub HoldsCopiesOf : List (FunctionValue × Span) → ℕ → Derived → Type 0
HoldsCopiesOf fs b d = IfSome d.source (λ s. HoldsCopies fs b s d)

-- what is requested is at hand
abbrev pub AreAtHand : Derived → List Request → Type 0
AreAtHand d rs = IfSome d.source (λ s. All (IsAtHand s d.function_names) rs)

-- LAW: of a source that was just set, no function is copied
abbrev pub SourceHoldsLaw : Type 0
SourceHoldsLaw = (fs : List (FunctionValue × Span)) (first : Kept) (d : Derived) (m : ModuleValue) (shift : ℕ) →
    IsDerivation first d → IsCopyable m → AreSpecial m → AreTrueIn d.target d.function_names →
    HoldsCopiesOf fs (length d.target.functions) (set_source d m shift)

-- LAW: copies stay while items are copied
abbrev pub ItemsHoldLaw : Type 0
ItemsHoldLaw = (fs : List (FunctionValue × Span)) (b : ℕ) (d e : Derived) →
    Keeps d e → HoldsCopiesOf fs b d → HoldsCopiesOf fs b e

-- LAW: answering requests adds copies of functions of the source
abbrev pub AnswersHoldLaw : Type 0
AnswersHoldLaw = (fs : List (FunctionValue × Span)) (b : ℕ) (first : Kept) (d : Derived) (rs : List Request) →
    IsDerivation first d → HaveCopies d → CanAnswer d rs → IfSome d.source (HaveSource fs) →
    HoldsCopiesOf fs b d →
    HoldsCopiesOf fs b (answer_requests d rs) × AreAtHand (answer_requests d rs) rs

-- LAW: importing a function adds copies of functions of the source
abbrev pub FunctionHoldsLaw : Type 0
FunctionHoldsLaw = (fs : List (FunctionValue × Span)) (b : ℕ) (first : Kept) (d : Derived) (f : FunctionValue) (span : Span) →
    IsDerivation first d → HaveCopies d → HasCopies f → CanImport d f → IfSome d.source (HaveSource fs) → IsOneOf fs (f, span) →
    HoldsCopiesOf fs b d →
    HoldsCopiesOf fs b (import_function d f span)

-- g is a copy by tree of one of these functions, over the handles of the source, and has its span, moved
pub record CopiesOne (fs : List (FunctionValue × Span)) (s : Source) (t : ModuleValue) (g : FunctionValue × Span) : Type 0 where
  pub function : FunctionValue × Span
  pub among : IsOneOf fs function
  pub copies : IsCopyFrom s t function.0 g.0
  pub earlier : HasEarlierOperands g.0
  pub span : g.1 ≡ shifted s.offset function.1

-- each function of the module from the b-th on is a copy by tree of one of these
abbrev pub EachCopiesOne : List (FunctionValue × Span) → ℕ → Derived → Type 0
EachCopiesOne fs b d = IfSome d.source (λ s.
    (k : ℕ) (g : FunctionValue × Span) → b ≤ k → slice_get d.target.functions k ≡ Some g → CopiesOne fs s d.target g)

-- LAW: the copies that a derived module holds of functions over the handles of its source are copies by tree
abbrev pub HeldCopiesLaw : Type 0
HeldCopiesLaw = (fs : List (FunctionValue × Span)) (b : ℕ) (first : Kept) (d : Derived) →
    IsDerivation first d → IfSome d.source (HaveSource fs) → HoldsCopiesOf fs b d → EachCopiesOne fs b d

-- LAW: a localized function is a copy by tree of its source, if everything that it requests is at hand
abbrev pub LocalizedCopyLaw : Type 0
LocalizedCopyLaw = (first : Kept) (d : Derived) (f : FunctionValue) →
    IsDerivation first d → AreTrueIn d.target d.function_names → HasCopies f →
    IsCopyableFunction f → AreAtHand d (requests_of f) →
    IfSome d.source (λ s.
    let g = localize_function d.source d.function_names f in
    IsCopyFrom s d.target f g × HasEarlierOperands g)
