-- Linking, step by step as the code does it.
use Rattle.std.specs.Prelude.{◌≡◌, ℕ, Bool, nat_eq, List, take, Option, Some, None, slice_get, if◌then◌else◌}
use Rattle.std.specs.List.{list_any}
use Rattle.naga_oil_ir.specs.ModuleValue.{FunctionValue}
use Rattle.naga_oil_ir.specs.declared.names.ItemPlace.{ItemPlace}
use Rattle.naga_oil_ir.specs.declared.span.Span.{Span}
use Rattle.naga_oil_derive.specs.Derived.{Derived}
use Rattle.naga_oil_derive.specs.DerivedValue.{import_item}
use Rattle.naga_oil_derive.specs.Tree.{Kept}
use Rattle.naga_oil_form_laws.specs.DerivedForm.{IsFormed}
use Rattle.naga_oil_words.specs.Texts.{is_among}
use Rattle.naga_oil_imports.specs.Uses.{Import}
use Rattle.naga_oil_link.specs.BuiltModule.{BuiltModule, Builds}
use Rattle.naga_oil_link.specs.Linked.{LinkState, passes, link_function, link_imports}
use Rattle.naga_oil_link.specs.OwnPlaces.{OwnPlaces, is_own}

-- what is linked so far is of good form, whatever was kept
unfoldable pub IsLinkFormed : Derived → Type 0
IsLinkFormed d = (first : Kept) → IsFormed first d

-- a step with an item, if there is one and it passes a test
abbrev pub step_if : {X : Type 0} → (X → Bool) → (Derived → X → Derived) → Derived → Option X → Derived
step_if test step d None = d
step_if test step d (Some x) = if test x then step d x else d

-- an item is copied, if there is one that is own
abbrev pub import_own : OwnPlaces → Derived → Option ItemPlace → Derived
import_own own d p = step_if (is_own own) import_item d p

-- a function is linked, if there is one and the build owns it
abbrev pub link_own_function : BuiltModule → Derived → Option (FunctionValue × Span) → Derived
link_own_function b d f = step_if (λ (g : FunctionValue × Span). passes (is_among b.functions) g.0.name) link_function d f

-- the names of the builds at these places
abbrev pub AreNamesAt : Builds → List (List ℕ) → List ℕ → Type 0
AreNamesAt builds names places = (k : ℕ) (e : List ℕ × BuiltModule) → slice_get builds k ≡ Some e → is_among names e.0 ≡ list_any (nat_eq k) places

-- the linked module, and the places of the builds whose imports are linked, stand for this state
pub record IsState (builds : Builds) (s : LinkState) (d : Derived) (places : List ℕ) : Type 0 where
  pub derived : d ≡ s.derived
  pub entered : AreNamesAt builds s.entered places

-- imports are linked from the builds before a place
abbrev pub LinksImports : (of_headers : Bool) → Builds → (end : ℕ) → List Import → Derived → List ℕ → Derived → List ℕ → Type 0
LinksImports of_headers builds end imports d places e after = (s : LinkState) → IsState builds s d places → IsState builds (link_imports of_headers (take end builds) imports s) e after
