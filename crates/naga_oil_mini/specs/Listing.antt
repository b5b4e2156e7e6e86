-- The lines of a text's metadata.
use Rattle.std.specs.Prelude.{◌≡◌, ℕ, true, ◌==◌, if◌then◌else◌, List, [], ◌∷◌, ◌++◌, map, codes, bytes_eq, Option, Some, None, Ok}
use Rattle.std.specs.Cmp.Lexicographic.{slice_cmp}
use Rattle.std.specs.List.{flat_map}
use Rattle.std.specs.List.Sorted.{IsStrictlySortedBy}
use Rattle.std.specs.Map.{keys_of, lookup}
use Rattle.std.specs.Ordering.{nat_cmp}
use Rattle.naga_oil_words.specs.Bytes.{tab, newline, carriage_return, backslash}
use Rattle.naga_oil_words.specs.Texts.{is_among}
use Rattle.naga_oil_imports.specs.Uses.{Import}
use Rattle.naga_oil_pre.specs.Metadata.{Metadata, metadata}
use Rattle.naga_oil_conditions.specs.Replaced.{value_text}
use Rattle.naga_oil_conditions.specs.declared.shader_def.ShaderDefValue.{ShaderDefValue}
use Rattle.naga_oil_registry.specs.Registered.{Defs}

-- ---- lines

-- a byte of a field: a tab, a line end and a backslash become a backslash and a character
abbrev pub escaped_byte : ℕ → List ℕ
escaped_byte b =
    if b == tab then codes "\\t"
    else (if b == newline then codes "\\n"
    else (if b == carriage_return then codes "\\r"
    else (if b == backslash then codes "\\\\" else b ∷ [])))

-- a tab and a field
abbrev pub field : List ℕ → List ℕ
field text = 9 ∷ flat_map escaped_byte text

-- a line: its kind and its fields
abbrev pub line : (kind : List ℕ) → (fields : List (List ℕ)) → List ℕ
line kind fields = kind ++ flat_map field fields ++ 10 ∷ []

abbrev pub path_lines : Option (List ℕ) → List ℕ
path_lines None = []
path_lines (Some name) = line (codes "path") (name ∷ [])

-- a module and its items that are used
abbrev pub import_line : Import → List ℕ
import_line i = line (codes "import") (i.import ∷ i.items)

abbrev pub define_line : List ℕ × ShaderDefValue → List ℕ
define_line d = line (codes "define") (d.0 ∷ value_text d.1 ∷ [])

abbrev pub name_line : List ℕ → List ℕ
name_line name = line (codes "name") (name ∷ [])

abbrev pub define_lines : Defs → List ℕ
define_lines ds = flat_map define_line ds

abbrev pub name_lines : List (List ℕ) → List ℕ
name_lines names = flat_map name_line names

-- ---- metadata

-- an import path, the modules that are used with their items, in order of first use, defines, and names
pub record Listed : Type 0 where
  pub path : Option (List ℕ)
  pub imports : List Import
  pub defines : Defs
  pub names : List (List ℕ)

unfoldable pub listing : Listed → List ℕ
listing l = path_lines l.path ++ flat_map import_line l.imports ++ define_lines l.defines ++ name_lines l.names

-- names are in byte order, each once
abbrev pub AreInOrder : List (List ℕ) → Type 0
AreInOrder names = IsStrictlySortedBy (slice_cmp nat_cmp) names

-- metadata has exactly these, its defines and its recorded names in byte order
pub record Tells (m : Metadata) (l : Listed) : Type 0 where
  pub path : l.path ≡ m.name
  pub imports : l.imports ≡ map (λ u. u.import) m.uses
  pub defines : (name : List ℕ) → lookup (bytes_eq name) l.defines ≡ m.defines name
  pub defines_in_order : AreInOrder (keys_of l.defines)
  pub names : (name : List ℕ) → is_among l.names name ≡ m.records name
  pub names_in_order : AreInOrder l.names

-- the lines of metadata
abbrev pub IsListing : Metadata → List ℕ → Type 0
IsListing m shown = (l : Listed) × Tells m l × (shown ≡ listing l)

-- the lines of a text's metadata
abbrev pub IsListed : (text shown : List ℕ) → Type 0
IsListed text shown = (m : Metadata) × (metadata true text ≡ Ok m) × IsListing m shown
