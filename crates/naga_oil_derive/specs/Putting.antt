-- What copying has made at any time, also if memory ran out: items copied one after another, and copies of functions.
use Rattle.std.specs.Prelude.{ℕ, ◌≡◌, Option, Some, None, All}
use Rattle.naga_oil_ir.specs.Rows.{Row, Text}
use Rattle.naga_oil_ir.specs.ModuleValue.{ModuleValue, FunctionValue}
use Rattle.naga_oil_ir.specs.declared.names.ItemPlace.{ItemPlace}
use Rattle.naga_oil_ir.specs.declared.names.ItemPlace.TheVariants.{TypeItem}
use Rattle.naga_oil_ir.specs.declared.span.Span.{Span}
use Rattle.naga_oil_derive.specs.World.{goes, world}
use Rattle.naga_oil_derive.specs.Copying.{WentSomewhere}
use Rattle.naga_oil_derive.specs.Copied.{CopyState, put, put_type}
use Rattle.naga_oil_derive.specs.Answered.{ImportState, with_function}

-- an item can be copied: it is there and isn't mapped, and what it names is mapped
pub record CanPut (m : ModuleValue) (s : CopyState) (p : ItemPlace) : Type 0 where
  pub row : Row
  pub there : world m p ≡ Some row
  pub nowhere : goes s.places p ≡ None
  pub names : All (WentSomewhere (goes s.places)) row.names

-- items are copied one after another
pub data Putting (m : ModuleValue) (shift : ℕ) : CopyState → CopyState → Type 0 where
  NothingPut : {s : CopyState} → Putting m shift s s
  ItemPut : {s u : CopyState} (p : ItemPlace) → CanPut m s p → Putting m shift (put m shift s p) u → Putting m shift s u

-- items are copied, and a type is copied last under a name, if one is given, or not at all
pub data TypePutting (m : ModuleValue) (shift : ℕ) (name : Option Text) (k : ℕ) : CopyState → CopyState → Type 0 where
  NoType : {s u : CopyState} → Putting m shift s u → TypePutting m shift name k s u
  TypeLast :
      {s t u : CopyState} → Putting m shift s t → CanPut m t (TypeItem k) →
      u ≡ put_type m shift name t k → TypePutting m shift name k s u

-- items are copied, and copies of functions are appended, one after another; a copy has no name that means it if there was no
-- memory for the name
pub data Adding (m : ModuleValue) (shift : ℕ) : ImportState → ImportState → Type 0 where
  NothingAdded : {s : ImportState} → Adding m shift s s
  ItemsAdded :
      {s u : ImportState} {c : CopyState} → Putting m shift s.copying c →
      Adding m shift (record s { copying = c }) u → Adding m shift s u
  FunctionAdded :
      {s u : ImportState} (v : FunctionValue) (span : Span) →
      Adding m shift (with_function m shift s v span) u → Adding m shift s u
  CopyAdded :
      {s u : ImportState} (v : FunctionValue) (span : Span) →
      Adding m shift (record (with_function m shift s v span) { names = s.names }) u →
      Adding m shift s u
