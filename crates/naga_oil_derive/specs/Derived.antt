-- What a caller sees of a module that is built from others.
use Rattle.std.specs.Prelude.{◌≡◌, ℕ, List, [], Option, Some, None, option_map, map, unwrap_or, slice_get, IfSome, IsSome}
use Rattle.std.specs.Option.{option_flatten}
use Rattle.naga_oil_ir.specs.ModuleValue.{ModuleValue, no_items}
use Rattle.naga_oil_ir.specs.declared.names.ItemPlace.{ItemPlace}
use Rattle.naga_oil_ir.specs.declared.names.ItemPlace.TheVariants.{TypeItem}
use Rattle.naga_oil_ir.specs.declared.span.Span.{Span}
use Rattle.naga_oil_ir.specs.Rows.{Row, Text}
use Rattle.naga_oil_derive.specs.declared.special.SpecialKey.{SpecialKey}
use Rattle.naga_oil_derive.specs.Tree.{World, Kept, ReadsAs}
use Rattle.naga_oil_derive.specs.World.{ItemMap, goes, world, span_at, shifted, Extends, named_world, renamed_at, kept_of, special_at, special_entries, with_specials}
use Rattle.naga_oil_derive.specs.Collected.{Collects, depth, reached, names_trail}

-- a source: its module, the offset of its spans, and what its items map to
pub record Source : Type 0 where
  pub value : ModuleValue
  pub offset : ℕ
  pub places : ItemMap

-- the source that is set, the module built so far, and its functions by name
pub record Derived : Type 0 where
  pub source : Option Source
  pub target : ModuleValue
  pub function_names : List (List ℕ × ℕ)

-- no source, and the empty module
abbrev pub nothing : Derived
nothing = record { source = None; target = no_items; function_names = [] }

-- a derived module without its source
abbrev pub cleared : Derived → Derived
cleared d = record { source = None; target = d.target; function_names = d.function_names }

-- a span of the source, as copies of its items have it
abbrev pub mapped_span : Option Source → Span → Span
mapped_span None s = s
mapped_span (Some source) s = shifted source.offset s

-- the source, with the names that its items have in the target
abbrev pub as_read : Source → ModuleValue → World
as_read s t = named_world (world s.value) (world t) (goes s.places)

-- the places kept for the source's special types
abbrev pub kept : Source → ModuleValue → Kept
kept s t = kept_of s.value.special_types t.special_types

-- the spans of the copies of the source's items
abbrev pub copied_spans : Source → ItemPlace → Option Span
copied_spans s p = option_map (shifted s.offset) (span_at s.value p)

-- an item of the source is there
abbrev pub HasItem : Derived → ItemPlace → Type 0
HasItem d p = IsSome d.source × IfSome d.source (λ s. (r : Row) × (world s.value p ≡ Some r))

-- the item at p of a source that reads as w was copied to q, and nothing was added but what the item reaches
pub record Imports (s : Source) (w : World) (d e : Derived) (p q : ItemPlace) : Type 0 where
  pub reads : ReadsAs w (world e.target) (kept s d.target) p q
  pub collects :
      Collects w (kept s d.target) (copied_spans s) d.target
      (reached (depth s.value) w (kept s d.target) p) e.target
  pub goes : IfSome e.source (λ t. goes t.places p ≡ Some q)

-- the item at p of the source was copied to q
abbrev pub IsImported : Derived → Derived → ItemPlace → ItemPlace → Type 0
IsImported d e p q = IfSome d.source (λ s. Imports s (as_read s d.target) d e p q)

-- for a type that was copied before its copy is returned, and nothing changes
abbrev pub IsKnown : Derived → Derived → ℕ → ℕ → Type 0
IsKnown d e k h =
    IfSome d.source (λ s.
    (q : ItemPlace) → goes s.places (TypeItem k) ≡ Some q → (q ≡ TypeItem h) × (e ≡ d))

-- any other type is copied under the name, if one is given, and reads with that name from then on
abbrev pub IsRenamed : Derived → Derived → ℕ → Option Text → ℕ → Type 0
IsRenamed d e k n h =
    IfSome d.source (λ s.
    goes s.places (TypeItem k) ≡ None →
    Imports s (renamed_at (as_read s d.target) k n) d e (TypeItem k) (TypeItem h) ×
    IfSome e.source (λ t. as_read t e.target ≡ renamed_at (as_read s d.target) k n))

-- t is the source s later: mapped items stay mapped
pub record IsLaterSource (s t : Source) : Type 0 where
  pub value : t.value ≡ s.value
  pub offset : t.offset ≡ s.offset
  pub went : (p q : ItemPlace) → goes s.places p ≡ Some q → goes t.places p ≡ Some q

abbrev pub KeepsSource : Option Source → Option Source → Type 0
KeepsSource None None = Unit {0}
KeepsSource None (Some t) = ⊥
KeepsSource (Some s) None = ⊥
KeepsSource (Some s) (Some t) = IsLaterSource s t

-- each item keeps its handle and its span, each function its name, and the source stays
pub record Keeps (d e : Derived) : Type 0 where
  pub items : Extends d.target e.target
  pub names : e.function_names ≡ d.function_names
  pub source : KeepsSource d.source e.source

-- the source reads as before
abbrev pub ReadsAsBefore : Derived → Derived → Type 0
ReadsAsBefore d e = IfSome d.source (λ s. IfSome e.source (λ t. as_read t e.target ≡ as_read s d.target))

-- a module with the special types of another
abbrev pub with_special_types : ModuleValue → ModuleValue → ModuleValue
with_special_types m n = record m { special_types = n.special_types }

-- each item keeps its handle and its span, each function its name, and each special type stays
pub record KeepsItems (d e : Derived) : Type 0 where
  pub items : Extends d.target (with_special_types e.target d.target)
  pub special :
      (k : SpecialKey) (q : ℕ) → special_at d.target.special_types k ≡ Some q →
      special_at e.target.special_types k ≡ Some q
  pub names : e.function_names ≡ d.function_names

-- the special types as names
abbrev pub special_places : ModuleValue → List (Option ItemPlace)
special_places m = map (λ e. Some (TypeItem e.1)) (special_entries m.special_types)

-- what a type maps to, or the type itself
abbrev pub type_under : ItemMap → ℕ → ℕ
type_under m k = unwrap_or (option_flatten (slice_get m.types k)) k

-- m was set as the source s, with its spans shifted by an offset: its special types were copied, the target's special types stand
-- for those with the same key, and the target gets those that it lacked
pub record Sets (m : ModuleValue) (shift : ℕ) (d e : Derived) (s : Source) : Type 0 where
  pub value : s.value ≡ m
  pub offset : s.offset ≡ shift
  pub stands : (p q : ItemPlace) → kept s e.target p ≡ Some q → goes s.places p ≡ Some q
  pub reads : as_read s e.target ≡ named_world (world m) (world d.target) (kept s d.target)
  pub special :
      e.target.special_types ≡
      with_specials d.target.special_types (type_under s.places) (special_entries m.special_types)
  pub collects :
      Collects (as_read s e.target) (kept s d.target) (copied_spans s) d.target
      (names_trail (reached (depth m) (as_read s e.target) (kept s d.target)) (special_places m))
      (with_special_types e.target d.target)

-- m was set as the source
abbrev pub IsSet : ModuleValue → ℕ → Derived → Derived → Type 0
IsSet m shift d e = IsSome e.source × IfSome e.source (Sets m shift d e)
