-- Which derived modules pass the test of form, and that each call keeps it: laws of the values of a derived module.
use Rattle.std.specs.Prelude.{◌≡◌, ◌<◌, ◌≤◌, ℕ, [], length, slice_get, Option, Some, None, IfSome, IsSome}
use Rattle.naga_oil_form.specs.BodyForm.{IsSpanFine}
use Rattle.naga_oil_ir.specs.ModuleValue.{ModuleValue, FunctionValue}
use Rattle.naga_oil_ir.specs.Rows.{Text}
use Rattle.naga_oil_ir.specs.declared.names.ItemPlace.{ItemPlace}
use Rattle.naga_oil_ir.specs.declared.names.ItemPlace.TheVariants.{TypeItem}
use Rattle.naga_oil_ir.specs.declared.span.Span.{Span}
use Rattle.naga_oil_ir.specs.Spans.{u32_max}
use Rattle.naga_oil_derive.specs.Tree.{Kept}
use Rattle.naga_oil_derive.specs.World.{kept_of}
use Rattle.naga_oil_derive.specs.Derived.{Derived, nothing, cleared, HasItem}
use Rattle.naga_oil_derive.specs.DerivedValue.{import_item, rename_type, import_function, import_function_if_new, set_source}
use Rattle.naga_oil_derive.specs.DerivedFunctions.{meant}
use Rattle.naga_oil_derive.specs.DerivedLaw.{IsDerivation}
use Rattle.naga_oil_form_laws.specs.FunctionForm.{IsFunctionFormed, AreFunctionsFormed, AreKnown}
use Rattle.naga_oil_form_laws.specs.ItemsStand.{AreFormed}

-- a derivation whose items pass, as those of its source do
pub record HasFormedItems (first : Kept) (d : Derived) : Type 0 where
  pub derivation : IsDerivation first d
  pub target : AreFormed d.target
  pub source : IfSome d.source (λ s. AreFormed s.value)

-- LAW: the items of the empty module pass
abbrev pub NothingItemsLaw : Type 0
NothingItemsLaw = (first : Kept) → HasFormedItems first nothing

-- LAW: items pass without the source
abbrev pub ClearedItemsLaw : Type 0
ClearedItemsLaw = (first later : Kept) (d : Derived) → HasFormedItems first d → HasFormedItems later (cleared d)

-- LAW: items pass after an item is imported
abbrev pub ImportItemsLaw : Type 0
ImportItemsLaw =
    (first : Kept) (d : Derived) (p : ItemPlace) → HasFormedItems first d → HasItem d p →
    HasFormedItems first (import_item d p)

-- LAW: items pass after a type is imported under a name
abbrev pub RenameItemsLaw : Type 0
RenameItemsLaw =
    (first : Kept) (d : Derived) (k : ℕ) (name : Option Text) → HasFormedItems first d → HasItem d (TypeItem k) →
    HasFormedItems first (rename_type d k name)

-- LAW: items pass after a module of such items is set as the source
abbrev pub SetItemsLaw : Type 0
SetItemsLaw = (first : Kept) (d : Derived) (m : ModuleValue) (shift : ℕ) → HasFormedItems first d → AreFormed m →
    HasFormedItems (kept_of m.special_types d.target.special_types) (set_source d m shift)

-- ---- with functions

-- a derivation whose items and functions pass, as those of its source do; it has no entry points yet
pub record IsFormed (first : Kept) (d : Derived) : Type 0 where
  pub items : HasFormedItems first d
  pub functions : AreFunctionsFormed d.target u32_max
  pub known : AreKnown d.target.functions d.function_names
  pub without_entries : d.target.entry_points ≡ []
  pub source : IfSome d.source (λ s. AreFunctionsFormed s.value u32_max)

-- a function over the handles of a source may be imported: it calls only functions before its place c, and none of them has its
-- name
pub record MayCome (m : ModuleValue) (c : ℕ) (v : FunctionValue) (span : Span) : Type 0 where
  pub named : IsSome v.name
  pub among : c ≤ length m.functions
  pub apart : (k : ℕ) (e : FunctionValue × Span) → k < c → slice_get m.functions k ≡ Some e → e.0.name ≡ v.name → ⊥
  pub form : IsFunctionFormed m c u32_max v
  pub spanned : IsSpanFine u32_max span

-- a source is set, from which the function may be imported
abbrev pub MayBeImported : Derived → (c : ℕ) → FunctionValue → Span → Type 0
MayBeImported d c v span = IsSome d.source × IfSome d.source (λ s. MayCome s.value c v span)

-- LAW: each function of a source may be imported
abbrev pub ComingLaw : Type 0
ComingLaw =
    (m : ModuleValue) (k : ℕ) (e : FunctionValue × Span) → AreFunctionsFormed m u32_max →
    slice_get m.functions k ≡ Some e → MayCome m k e.0 e.1

-- LAW: the items and functions of the empty module pass
abbrev pub NothingFormedLaw : Type 0
NothingFormedLaw = (first : Kept) → IsFormed first nothing

-- LAW: items and functions pass without the source
abbrev pub ClearedFormedLaw : Type 0
ClearedFormedLaw = (first later : Kept) (d : Derived) → IsFormed first d → IsFormed later (cleared d)

-- LAW: items and functions pass after an item is imported
abbrev pub ImportFormedLaw : Type 0
ImportFormedLaw =
    (first : Kept) (d : Derived) (p : ItemPlace) → IsFormed first d → HasItem d p →
    IsFormed first (import_item d p)

-- LAW: items and functions pass after a type is imported under a name
abbrev pub RenameFormedLaw : Type 0
RenameFormedLaw =
    (first : Kept) (d : Derived) (k : ℕ) (name : Option Text) → IsFormed first d → HasItem d (TypeItem k) →
    IsFormed first (rename_type d k name)

-- LAW: items and functions pass after a module whose items and functions pass is set as the source
abbrev pub SetFormedLaw : Type 0
SetFormedLaw =
    (first : Kept) (d : Derived) (m : ModuleValue) (shift : ℕ) → IsFormed first d → AreFormed m →
    AreFunctionsFormed m u32_max →
    IsFormed (kept_of m.special_types d.target.special_types) (set_source d m shift)

-- LAW: items and functions pass after a function is imported whose name isn't known
abbrev pub FunctionFormedLaw : Type 0
FunctionFormedLaw =
    (first : Kept) (d : Derived) (c : ℕ) (v : FunctionValue) (span : Span) → IsFormed first d →
    MayBeImported d c v span → meant d.function_names v.name ≡ None →
    IsFormed first (import_function d v span)

-- LAW: items and functions pass after a function is imported if it is new
abbrev pub FunctionIfNewLaw : Type 0
FunctionIfNewLaw =
    (first : Kept) (d : Derived) (c : ℕ) (v : FunctionValue) (span : Span) → IsFormed first d →
    MayBeImported d c v span → IsFormed first (import_function_if_new d v span)
