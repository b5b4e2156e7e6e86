-- The items used of imported modules.
use Rattle.std.specs.Prelude.{ℕ, if◌then◌else◌, List, [], ◌∷◌, ◌++◌, map, String, string_bytes, bytes_eq}
use Rattle.std.specs.declared.alloc.Global.{Global}
use Rattle.indexmap.specs.IndexMap.{IndexMap}
use Rattle.naga_oil_imports.specs.declared.import_definition.ImportDefinition.{ImportDefinition}
use Rattle.naga_oil_imports.specs.declared.import_definition.ImportDefWithOffset.{ImportDefWithOffset}

-- a module's name, and the items used of it, in order
pub record Import : Type 0 where
  pub import : List ℕ
  pub items : List (List ℕ)

-- the empty name, with no items
abbrev pub nothing_asked : Import
nothing_asked = record { import = []; items = [] }

-- an import, and the place of its first use
pub record Use : Type 0 where
  pub import : Import
  pub offset : ℕ

-- the uses, each under its module's name, in order of first use
abbrev pub Uses : Type 0
Uses = List (List ℕ × Use)

-- the first use of a module
abbrev pub first_use : (name item : List ℕ) → ℕ → Use
first_use name item place = record { import = record { import = name; items = item ∷ [] }; offset = place }

-- one more item
abbrev pub with_item : Use → List ℕ → Use
with_item u item = record u { import = record u.import { items = u.import.items ++ item ∷ [] } }

-- one more use: its item is appended at its module, whose first place stays; a new module is
-- appended last
abbrev pub with_use : Uses → (name item : List ℕ) → ℕ → Uses
with_use [] name item place = (name, first_use name item place) ∷ []
with_use (u ∷ more) name item place = if bytes_eq name u.0 then (u.0, with_item u.1 item) ∷ more else u ∷ with_use more name item place

-- the code's values as these records
abbrev pub import_of : ImportDefinition → Import
import_of d = record { import = string_bytes d.import; items = map string_bytes d.items.items }

abbrev pub use_of : ImportDefWithOffset → Use
use_of d = record { import = import_of d.definition; offset = d.offset }

abbrev pub use_entry : String Global × ImportDefWithOffset → List ℕ × Use
use_entry e = (string_bytes e.0, use_of e.1)

abbrev pub uses_of : {S : Type 0} → IndexMap (String Global) ImportDefWithOffset S → Uses
uses_of m = map use_entry m.entries
