-- The items of a derived module as items of its sources.
use Rattle.std.specs.Prelude.{ℕ, ◌≡◌, ◌⊎◌, List, slice_get, Option, Some, All, IfSome}
use Rattle.naga_oil_ir.specs.ModuleValue.{ModuleValue, FunctionValue}
use Rattle.naga_oil_ir.specs.Rows.{Row, Text}
use Rattle.naga_oil_ir.specs.declared.names.ItemPlace.{ItemPlace}
use Rattle.naga_oil_ir.specs.declared.names.ItemPlace.TheVariants.{TypeItem}
use Rattle.naga_oil_ir.specs.declared.span.Span.{Span}
use Rattle.naga_oil_walk.specs.declared.walk.Request.{Request}
use Rattle.naga_oil_walk.specs.declared.walk.Request.TheVariants.{Item, Call}
use Rattle.naga_oil_derive.specs.CopiedLaw.{HasAt, IsCopyable, AreSpecial}
use Rattle.naga_oil_derive.specs.Derived.{Source, Derived, HasItem}
use Rattle.naga_oil_derive.specs.DerivedFunctions.{requests_of}
use Rattle.naga_oil_derive.specs.DerivedLaw.{IsDerivation}
use Rattle.naga_oil_derive.specs.DerivedValue.{import_item, rename_type, answer_requests, import_function, set_source}
use Rattle.naga_oil_derive.specs.Tree.{Kept}
use Rattle.naga_oil_derive.specs.World.{goes, world}
use Rattle.naga_oil_copy_laws.specs.Scope.{ReadAlike, scope_of, scope_from}

-- each item of d stood at its place in a module, or an item of the source maps to it
abbrev pub HoldsItems : ModuleValue → Source → Derived → Type 0
HoldsItems base s d =
    (q : ItemPlace) (r : Row) → world d.target q ≡ Some r →
    (world base q ≡ Some r) ⊎ ((p : ItemPlace) × (goes s.places p ≡ Some q))

-- each item of d stood in a module, or an item of the source maps to it, if a source is set
abbrev pub HoldsItemsOf : ModuleValue → Derived → Type 0
HoldsItemsOf base d = IfSome d.source (λ s. HoldsItems base s d)

-- LAW: this holds after a source is set
abbrev pub SourceItemsLaw : Type 0
SourceItemsLaw = (first : Kept) (d : Derived) (m : ModuleValue) (shift : ℕ) →
    IsDerivation first d → IsCopyable m → AreSpecial m → HoldsItemsOf d.target (set_source d m shift)

-- LAW: this still holds after an item is imported
abbrev pub ImportedItemsLaw : Type 0
ImportedItemsLaw = (base : ModuleValue) (first : Kept) (d : Derived) (p : ItemPlace) →
    IsDerivation first d → HasItem d p → HoldsItemsOf base d → HoldsItemsOf base (import_item d p)

-- LAW: this still holds after a type is copied under a name
abbrev pub RenamedItemsLaw : Type 0
RenamedItemsLaw = (base : ModuleValue) (first : Kept) (d : Derived) (k : ℕ) (name : Option Text) →
    IsDerivation first d → HasItem d (TypeItem k) → HoldsItemsOf base d → HoldsItemsOf base (rename_type d k name)

-- a requested item is there
abbrev pub AsksThere : ModuleValue → Request → Type 0
AsksThere m (Item p) = HasAt m p
AsksThere m (Call k) = Unit {0}

-- all items that the functions of a source request are there
abbrev pub HaveItems : Source → Type 0
HaveItems s =
    (k : ℕ) (x : FunctionValue × Span) → slice_get s.value.functions k ≡ Some x →
    All (AsksThere s.value) (requests_of x.0)

-- LAW: this still holds after requests are answered
abbrev pub AnsweredItemsLaw : Type 0
AnsweredItemsLaw = (base : ModuleValue) (first : Kept) (d : Derived) (rs : List Request) →
    IsDerivation first d → IfSome d.source (λ s. HaveItems s × All (AsksThere s.value) rs) → HoldsItemsOf base d →
    HoldsItemsOf base (answer_requests d rs)

-- LAW: this still holds after a function is imported
abbrev pub FunctionItemsLaw : Type 0
FunctionItemsLaw = (base : ModuleValue) (first : Kept) (d : Derived) (f : FunctionValue) (span : Span) →
    IsDerivation first d → IfSome d.source (λ s. HaveItems s × All (AsksThere s.value) (requests_of f)) →
    HoldsItemsOf base d → HoldsItemsOf base (import_function d f span)

-- each item of d stood in a module, or it reads as an item of the source
abbrev pub EachItemReads : ModuleValue → Derived → Type 0
EachItemReads base d = IfSome d.source (λ s.
    (q : ItemPlace) (r : Row) → world d.target q ≡ Some r →
    (world base q ≡ Some r) ⊎ ((p : ItemPlace) × ReadAlike (scope_from s d.target) (scope_of d.target) p q))

-- LAW: each item of a derived module stood in a module before, or reads as an item of the source
abbrev pub HeldItemsLaw : Type 0
HeldItemsLaw = (base : ModuleValue) (first : Kept) (d : Derived) →
    IsDerivation first d → HoldsItemsOf base d → EachItemReads base d
