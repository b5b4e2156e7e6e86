-- What a build holds, as copies of what was parsed.
use Rattle.std.specs.Prelude.{ℕ, ◌≡◌, ◌<◌, ◌⊎◌, true, List, length, option_map, slice_get, Some}
use Rattle.naga_oil_ir.specs.ModuleValue.{ModuleValue, FunctionValue, EntryValue}
use Rattle.naga_oil_ir.specs.Rows.{Row}
use Rattle.naga_oil_ir.specs.declared.names.ItemPlace.{ItemPlace}
use Rattle.naga_oil_ir.specs.declared.names.ItemPlace.TheVariants.{TypeItem}
use Rattle.naga_oil_ir.specs.declared.span.Span.{Span}
use Rattle.naga_oil_rename.specs.Renames.{under_name}
use Rattle.naga_oil_derive.specs.CopiedEntry.{make_module}
use Rattle.naga_oil_derive.specs.CopiedLaw.{HasAt}
use Rattle.naga_oil_derive.specs.Tree.{World, tree}
use Rattle.naga_oil_derive.specs.World.{world, shifted}
use Rattle.naga_oil_form_laws.specs.EntryForm.{IsModuleFormed}
use Rattle.naga_oil_form_laws.specs.ItemsStand.{IsSpecial}
use Rattle.naga_oil_link.specs.CopiedBuild.{is_type, decorated_type, copy_whole}
use Rattle.naga_oil_link.specs.OwnPlaces.{OwnPlaces, is_own}
use Rattle.naga_oil_copy_laws.specs.Scope.{Scope, ReadAlike, name_of_function, scope_of}
use Rattle.naga_oil_copy_laws.specs.ByTree.{CopiesByTree}
use Rattle.naga_oil_copy_laws.specs.ByTreeLaw.{HasEarlierOperands}
use Rattle.naga_oil_copy_laws.specs.EntryByTree.{EntryAlike}

-- a module whose items read as a world says
abbrev pub scope_reading : World → ModuleValue → Scope
scope_reading w m = record { reads = λ p n. tree n w p; function_name = name_of_function m }

-- ---- names of types

-- the item at p is a module's own type, and has its decorated name
pub record HasDecoratedName (m : ModuleValue) (own : OwnPlaces) (decoration : List ℕ) (w : World) (p : ItemPlace) : Type 0 where
  pub own_item : is_own own p ≡ true
  pub ty : is_type p ≡ true
  pub row : w p ≡ option_map (under_name (option_map Some (decorated_type m decoration p))) (world m p)

-- the item at a place is another, or names one that reaches it
pub data Reaches (w : World) : ItemPlace → ItemPlace → Type 0 where
  Itself : {p : ItemPlace} → Reaches w p p
  Named : {p q x : ItemPlace} (r : Row) (i : ℕ) → w p ≡ Some r → slice_get r.names i ≡ Some (Some q) → Reaches w q x → Reaches w p x

-- a special type reaches the type at k, or a type before a place does
abbrev pub IsReachedBefore : ModuleValue → (before : ℕ) → ℕ → Type 0
IsReachedBefore m before k = (j : ℕ) × ((j < before) ⊎ IsSpecial m.special_types j) × Reaches (world m) (TypeItem j) (TypeItem k)

-- items read in w as they stand in a module, except that own types have their decorated names; types that an earlier type or a
-- special type reaches may keep their own names
pub record DecoratesTypes (m : ModuleValue) (own : OwnPlaces) (decoration : List ℕ) (w : World) : Type 0 where
  pub each : (p : ItemPlace) → (w p ≡ world m p) ⊎ HasDecoratedName m own decoration w p
  pub all : (k : ℕ) → k < length m.types → is_own own (TypeItem k) ≡ true → HasDecoratedName m own decoration w (TypeItem k) ⊎ IsReachedBefore m k k

-- ---- copies

-- g, in u, copies f, over the handles of a module that reads as w
pub record CopiesPlainly (w : World) (m u : ModuleValue) (f g : FunctionValue) : Type 0 where
  pub copies : CopiesByTree (shifted 0) (λ n. n) (scope_reading w m) f (scope_of u) g
  pub earlier : HasEarlierOperands g

-- g copies a function of the module, and has its span
pub record CopiesOneOf (w : World) (m u : ModuleValue) (g : FunctionValue × Span) : Type 0 where
  pub place : ℕ
  pub function : FunctionValue × Span
  pub at : slice_get m.functions place ≡ Some function
  pub copies : CopiesPlainly w m u function.0 g.0
  pub span : g.1 ≡ shifted 0 function.1

-- y copies the module's entry point at i
pub record CopiesEntryAt (w : World) (m u : ModuleValue) (i : ℕ) (y : EntryValue) : Type 0 where
  pub entry : EntryValue
  pub at : slice_get m.entry_points i ≡ Some entry
  pub copies : CopiesPlainly w m u entry.function y.function
  pub whole : EntryAlike (λ s. s) (scope_reading w m) (scope_of u) entry y

-- in u each function copies one of a module that reads as w, each item reads as one of the module, and each entry point copies
-- the one at its place
pub record CopiesAs (w : World) (m u : ModuleValue) : Type 0 where
  pub functions : (k : ℕ) (g : FunctionValue × Span) → slice_get u.functions k ≡ Some g → CopiesOneOf w m u g
  pub items : (q : ItemPlace) (r : Row) → world u q ≡ Some r → (p : ItemPlace) × HasAt m p × ReadAlike (scope_reading w m) (scope_of u) p q
  pub entry_points : (i : ℕ) (y : EntryValue) → slice_get u.entry_points i ≡ Some y → CopiesEntryAt w m u i y
  pub as_many : length u.entry_points ≡ length m.entry_points

-- the same for a module whose own types may have their decorated names
pub record CopiesParse (m : ModuleValue) (own : OwnPlaces) (decoration : List ℕ) (u : ModuleValue) : Type 0 where
  pub reads : World
  pub decorated : DecoratesTypes m own decoration reads
  pub copies : CopiesAs reads m u

-- LAW: this holds of the whole of a module of good form that a build holds
abbrev pub HeldBuildLaw : Type 0
HeldBuildLaw = (m : ModuleValue) (own : OwnPlaces) (decoration : List ℕ) (functions : List (List ℕ)) → IsModuleFormed m →
    CopiesParse m own decoration (make_module (copy_whole m own decoration functions).derived)
