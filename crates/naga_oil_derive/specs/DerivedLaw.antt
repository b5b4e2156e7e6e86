-- Derived modules: laws of the values that their methods make.
use Rattle.std.specs.Prelude.{ℕ, ◌≡◌, Option, Some, None, All, IfSome}
use Rattle.naga_oil_ir.specs.Rows.{Text}
use Rattle.naga_oil_ir.specs.ModuleValue.{ModuleValue}
use Rattle.naga_oil_ir.specs.declared.names.ItemPlace.{ItemPlace}
use Rattle.naga_oil_ir.specs.declared.names.ItemPlace.TheVariants.{TypeItem}
use Rattle.naga_oil_derive.specs.declared.special.SpecialKey.{SpecialKey}
use Rattle.naga_oil_derive.specs.Tree.{World, Kept, ReadsAs}
use Rattle.naga_oil_derive.specs.World.{goes, world, renamed_at, kept_of, special_at, special_entries}
use Rattle.naga_oil_derive.specs.Collected.{depth, reached, names_trail}
use Rattle.naga_oil_derive.specs.Copying.{IsSound}
use Rattle.naga_oil_derive.specs.CopiedLaw.{IsKinded, HasAt, IsCopyable, AreSpecial, IsMidway, PlacesAmong}
use Rattle.naga_oil_derive.specs.Derived.{Source, Derived, nothing, cleared, as_read, kept, HasItem, IsImported, IsKnown, IsRenamed, Keeps, ReadsAsBefore, KeepsItems, IsSet, special_places}
use Rattle.naga_oil_derive.specs.DerivedValue.{import_item, rename_type, set_source, place_by}

-- ---- between calls

-- a source, for whose special types the module's first special types stand by their keys: its items can be copied, mapped items
-- have copies, each kept special type is mapped to its kept place, and the first ones are kept still
pub record IsSourceOf (first : Kept) (s : Source) (t : ModuleValue) : Type 0 where
  pub copyable : IsCopyable s.value
  pub midway : IsMidway s.value first (record { places = s.places; target = t })
  pub stand : (p q : ItemPlace) → kept s t p ≡ Some q → goes s.places p ≡ Some q
  pub still : (p q : ItemPlace) → first p ≡ Some q → kept s t p ≡ Some q

-- the special types are types that are there
abbrev pub AreThere : ModuleValue → Type 0
AreThere t = (k : SpecialKey) (q : ℕ) → special_at t.special_types k ≡ Some q → HasAt t (TypeItem q)

-- what holds of each derived module between calls; first are the places that the module had for
-- special types when the source was set
pub record IsDerivation (first : Kept) (d : Derived) : Type 0 where
  pub kinds : IsKinded d.target
  pub sound : IsSound (world d.target)
  pub special : AreThere d.target
  pub source : IfSome d.source (λ s. IsSourceOf first s d.target)

-- the places that a derived module has for special types of its source
abbrev pub kept_in_source : Option Source → ModuleValue → Kept
kept_in_source None t = λ p. None
kept_in_source (Some s) t = kept s t

abbrev pub kept_by : Derived → Kept
kept_by d = kept_in_source d.source d.target

-- LAW: the empty module is a derivation
abbrev pub NothingLaw : Type 0
NothingLaw = (first : Kept) → IsDerivation first nothing

-- LAW: a derivation without its source is a derivation
abbrev pub ClearedLaw : Type 0
ClearedLaw = (first later : Kept) (d : Derived) →
    IsDerivation first d → IsDerivation later (cleared d)

-- ---- items

-- the item at p of the source reads as the module's at q, by the special types that the module had
-- first and by those that it has now
pub record ReadsIn (first : Kept) (d : Derived) (s : Source) (p q : ItemPlace) : Type 0 where
  pub at_first : ReadsAs (as_read s d.target) (world d.target) first p q
  pub now : ReadsAs (as_read s d.target) (world d.target) (kept s d.target) p q

-- LAW: between any two calls the target's item that an item maps to reads as that item
abbrev pub PlacedLaw : Type 0
PlacedLaw = (first : Kept) (d : Derived) (s : Source) (p q : ItemPlace) →
    IsDerivation first d → d.source ≡ Some s → goes s.places p ≡ Some q → ReadsIn first d s p q

-- between two sources only items that the item at p reaches, where d's source reads by f, were mapped
abbrev pub MovesOnly : (Source → World) → Derived → Derived → ItemPlace → Type 0
MovesOnly f d e p = IfSome d.source (λ s. IfSome e.source (λ t.
    PlacesAmong (goes s.places) (goes t.places)
    (reached (depth s.value) (f s) (kept s d.target) p)))

-- an item was imported, and everything else stayed
pub record ImportsOnly (first : Kept) (d e : Derived) (p : ItemPlace) : Type 0 where
  pub derivation : IsDerivation first e
  pub places : MovesOnly (λ s. as_read s d.target) d e p
  pub imported : (q : ItemPlace) × IsImported d e p q
  pub reads : ReadsAsBefore d e
  pub keeps : Keeps d e

-- LAW: an item of the source is imported
abbrev pub ImportLaw : Type 0
ImportLaw = (first : Kept) (d : Derived) (p : ItemPlace) →
    IsDerivation first d → HasItem d p → ImportsOnly first d (import_item d p) p

-- a type was copied under a name to h, or was mapped to h before, and everything else stayed
pub record RenamesOnly (first : Kept) (d e : Derived) (k : ℕ) (name : Option Text) (h : ℕ) : Type 0 where
  pub derivation : IsDerivation first e
  pub places : MovesOnly (λ s. renamed_at (as_read s d.target) k name) d e (TypeItem k)
  pub known : IsKnown d e k h
  pub renamed : IsRenamed d e k name h
  pub keeps : Keeps d e

-- what a type of the source maps to
abbrev pub type_place : Derived → ℕ → ℕ
type_place d k = place_by (λ m. m.types) d.source k

-- LAW: a type of the source is copied under a name
abbrev pub RenameLaw : Type 0
RenameLaw = (first : Kept) (d : Derived) (k : ℕ) (name : Option Text) →
    IsDerivation first d → HasItem d (TypeItem k) →
    RenamesOnly first d (rename_type d k name) k name (type_place (rename_type d k name) k)

-- ---- the source

-- a special type of a source, with its key, after the source is set: it maps to the type of one of
-- its keys, which is the one that the module had or, if it had none, the copy; and the type reads
-- as in the source, apart from the special types that the module had
pub record Settles (d e : Derived) (s : Source) (entry : SpecialKey × ℕ) : Type 0 where
  pub at : ℕ
  pub went : goes s.places (TypeItem entry.1) ≡ Some (TypeItem at)
  pub stands : kept s e.target (TypeItem entry.1) ≡ Some (TypeItem at)
  pub had : (q : ItemPlace) → kept s d.target (TypeItem entry.1) ≡ Some q → q ≡ TypeItem at
  pub lacked :
      special_at d.target.special_types entry.0 ≡ None →
      special_at e.target.special_types entry.0 ≡ Some at
  pub reads :
      ReadsAs (as_read s e.target) (world e.target) (kept s d.target) (TypeItem entry.1)
      (TypeItem at)

-- each special type of m, which is the source
abbrev pub SettlesAll : ModuleValue → Derived → Derived → Type 0
SettlesAll m d e = IfSome e.source (λ s. All (Settles d e s) (special_entries m.special_types))

-- of the source's items only the special types, with what they reach, are mapped
abbrev pub BeginsOnly : ModuleValue → Derived → Derived → Type 0
BeginsOnly m d e = IfSome e.source (λ s.
    PlacesAmong (kept s d.target) (goes s.places)
    (names_trail (reached (depth m) (as_read s e.target) (kept s d.target)) (special_places m)))

-- m was set as the source, and everything else stayed
pub record SetsOnly (m : ModuleValue) (shift : ℕ) (d e : Derived) : Type 0 where
  pub places : BeginsOnly m d e
  pub derivation : IsDerivation (kept_of m.special_types d.target.special_types) e
  pub set : IsSet m shift d e
  pub settles : SettlesAll m d e
  pub keeps : KeepsItems d e

-- LAW: a module whose items can be copied is set as the source
abbrev pub SetLaw : Type 0
SetLaw = (first : Kept) (d : Derived) (m : ModuleValue) (shift : ℕ) →
    IsDerivation first d → IsCopyable m → AreSpecial m → SetsOnly m shift d (set_source d m shift)
