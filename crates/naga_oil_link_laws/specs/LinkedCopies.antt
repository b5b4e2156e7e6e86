-- Linked modules as copies of what builds hold.
use mathlib.Core.Logic.{inl, inr}
use Rattle.std.specs.Prelude.{ℕ, ◌≡◌, ◌⊎◌, ◌*◌, List, length, take, slice_get, Some}
use Rattle.naga_oil_ir.specs.ModuleValue.{ModuleValue, FunctionValue, EntryValue}
use Rattle.naga_oil_ir.specs.Rows.{Row}
use Rattle.naga_oil_ir.specs.declared.names.ItemPlace.{ItemPlace}
use Rattle.naga_oil_ir.specs.declared.span.Span.{Span}
use Rattle.naga_oil_derive.specs.CopiedLaw.{HasAt}
use Rattle.naga_oil_derive.specs.Tree.{World}
use Rattle.naga_oil_derive.specs.World.{world, shifted, special_at}
use Rattle.naga_oil_derive.specs.declared.special.SpecialKey.{SpecialKey}
use Rattle.naga_oil_form_laws.specs.EntryForm.{IsModuleFormed}
use Rattle.naga_oil_link.specs.BuiltModule.{BuiltModule, Builds}
use Rattle.naga_oil_link.specs.Linked.{link_header, link_whole}
use Rattle.naga_oil_copy_laws.specs.Scope.{ReadAlike, scope_of, scope_by}
use Rattle.naga_oil_copy_laws.specs.ByTree.{CopiesByTree}
use Rattle.naga_oil_copy_laws.specs.ByTreeLaw.{HasEarlierOperands}
use Rattle.naga_oil_copy_laws.specs.EntryByTree.{EntryAlike}
use Rattle.naga_oil_link_laws.specs.Headers.{HasNamed, HaveDeclarations, HaveOwnNames}
use Rattle.naga_oil_link_laws.specs.ReadIn.{scope_in, HasKeysOf}
use Rattle.naga_oil_link_laws.specs.SpecialComes.{SpecialComes}
use Rattle.naga_oil_ir.specs.Spans.{span_stride}

-- ---- of which build

-- a build is one of these
abbrev pub IsOneOf : Builds → BuiltModule → Type 0
IsOneOf bs b = (i : ℕ) × (e : List ℕ × BuiltModule) × (slice_get bs i ≡ Some e) × (e.1 ≡ b)

-- a build is one of these, or another one
abbrev pub IsOneOrLast : Builds → BuiltModule → BuiltModule → Type 0
IsOneOrLast bs last b = IsOneOf bs b ⊎ (b ≡ last)

-- the builds before one of some, or before the last
abbrev pub builds_before : (bs : Builds) (last b : BuiltModule) → IsOneOrLast bs last b → Builds
builds_before bs last b (inl one) = take one.0 bs
builds_before bs last b (inr is) = bs

-- the header of what a build imports from the builds before it
abbrev pub header_before : (bs : Builds) (last b : BuiltModule) → IsOneOrLast bs last b → ModuleValue
header_before bs last b among = link_header (builds_before bs last b among) b.imports

-- ---- copies

-- g, in t, copies f, a function of a build; spans count over the texts of all builds, one after another
pub record CopiesOfBuild (b : BuiltModule) (t : ModuleValue) (f g : FunctionValue) : Type 0 where
  pub copies : CopiesByTree (shifted (b.index * span_stride)) (λ n. n) (scope_in b.value t) f (scope_of t) g
  pub earlier : HasEarlierOperands g

-- g copies a function of a build, with its span; t has a special type for each key of the build
pub record CopiesFunctionOf (b : BuiltModule) (t : ModuleValue) (g : FunctionValue × Span) : Type 0 where
  pub keys : HasKeysOf b.value t
  pub place : ℕ
  pub function : FunctionValue × Span
  pub at : slice_get b.value.functions place ≡ Some function
  pub copies : CopiesOfBuild b t function.0 g.0
  pub span : g.1 ≡ shifted (b.index * span_stride) function.1

-- y copies the build's entry point at i
pub record CopiesEntryOf (b : BuiltModule) (t : ModuleValue) (i : ℕ) (y : EntryValue) : Type 0 where
  pub entry : EntryValue
  pub at : slice_get b.value.entry_points i ≡ Some entry
  pub copies : CopiesOfBuild b t entry.function y.function
  pub whole : EntryAlike (λ s. s) (scope_in b.value t) (scope_of t) entry y

-- the item at q of t reads as one of a build
abbrev pub ReadsAsItemOf : BuiltModule → ModuleValue → ItemPlace → Type 0
ReadsAsItemOf b t q = (p : ItemPlace) × HasAt b.value p × ReadAlike (scope_in b.value t) (scope_of t) p q

-- a build is one of some, and its module, which reads as it stands, is m; t has a special type for each of its keys
pub record IsBuildOf (P : BuiltModule → Type 0) (t : ModuleValue) (w : World) (m : ModuleValue) : Type 0 where
  pub build : BuiltModule
  pub among : P build
  pub value : build.value ≡ m
  pub reads : world m ≡ w
  pub keys : HasKeysOf m t

-- the special type of t for a key, at q, comes from one of some builds
abbrev pub ComesFromBuild : (BuiltModule → Type 0) → ModuleValue → SpecialKey → ℕ → Type 0
ComesFromBuild P t key q = SpecialComes (IsBuildOf P t) (scope_by t) t key q

-- ---- the whole

-- a header for each of some builds
abbrev pub HeaderOf : (BuiltModule → Type 0) → Type 0
HeaderOf P = (b : BuiltModule) → P b → ModuleValue

-- g, in t, copies a function of one of some builds, whose header has none with its name
pub record CopiesFunctionOfOne (P : BuiltModule → Type 0) (header : HeaderOf P) (t : ModuleValue) (g : FunctionValue × Span) : Type 0 where
  pub build : BuiltModule
  pub among : P build
  pub copies : CopiesFunctionOf build t g
  pub undeclared : HasNamed (header build among) g.0.name → ⊥

-- in t each function copies one of some builds, each item reads as one of theirs, and each entry point copies the one at its
-- place in b; t has a special type for each key of b, and each of its special types comes from one of the builds
pub record CopiesBuilds (P : BuiltModule → Type 0) (header : HeaderOf P) (b : BuiltModule) (t : ModuleValue) : Type 0 where
  pub keys : HasKeysOf b.value t
  pub special : (key : SpecialKey) (q : ℕ) → special_at t.special_types key ≡ Some q → ComesFromBuild P t key q
  pub functions : (k : ℕ) (g : FunctionValue × Span) → slice_get t.functions k ≡ Some g → CopiesFunctionOfOne P header t g
  pub items : (q : ItemPlace) (r : Row) → world t q ≡ Some r → (c : BuiltModule) × P c × ReadsAsItemOf c t q
  pub entry_points : (i : ℕ) (y : EntryValue) → slice_get t.entry_points i ≡ Some y → CopiesEntryOf b t i y
  pub as_many : length t.entry_points ≡ length b.value.entry_points

-- the modules of these builds are of good form
abbrev pub AreFormedBuilds : Builds → Type 0
AreFormedBuilds bs = (i : ℕ) (e : List ℕ × BuiltModule) → slice_get bs i ≡ Some e → IsModuleFormed e.1.value

-- LAW: this holds of the whole of a shader's build, whose index is 0, after what it imports of these builds; the whole is of good
-- form
abbrev pub LinkedCopiesLaw : Type 0
LinkedCopiesLaw =
    (bs : Builds) (b : BuiltModule) → b.index ≡ 0 → AreFormedBuilds bs → HaveDeclarations bs → HaveOwnNames bs →
    IsModuleFormed b.value →
    CopiesBuilds (IsOneOrLast bs b) (header_before bs b) b (link_whole bs b) × IsModuleFormed (link_whole bs b)
