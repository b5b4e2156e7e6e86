-- What files say of themselves, and the order in which their modules are registered.
use Rattle.std.specs.Prelude.{◌≡◌, ℕ, ◌-◌, List, [], ◌∷◌, ◌++◌, length, map, option_map, option_to_list, Option, Some, None, Result, Ok, Err, Vec, String, string_bytes, true}
use Rattle.std.specs.Borrow.{Bor}
use Rattle.std.specs.HashMap.{HashMap}
use Rattle.std.specs.List.{flat_map}
use Rattle.std.specs.Map.{lookup}
use Rattle.std.specs.Str.{bytes_eq}
use Rattle.std.specs.declared.alloc.Global.{Global}
use Rattle.indexmap.specs.IndexMap.{insert_entry}
use Rattle.naga_oil_imports.specs.Uses.{Import, import_of}
use Rattle.naga_oil_pre.specs.Metadata.{metadata, data_of}
use Rattle.yettuvam_files.specs.Rounds.{Uses, ordered}
use Rattle.yettuvam_files.specs.declared.files.Header.{Header as HeaderOfCode}
use Rattle.yettuvam_files.specs.declared.files.Unsorted.{Unsorted}
use Rattle.yettuvam_files.specs.declared.files.Unsorted.TheVariants as code

-- the import path of a text, and what it imports
pub record Header : Type 0 where
  pub name : Option (List ℕ)
  pub imports : List Import

abbrev pub header_of : HeaderOfCode → Header
header_of h = record { name = option_map string_bytes h.name; imports = map import_of h.imports.items }

abbrev pub headers_of : List HeaderOfCode → List Header
headers_of hs = map header_of hs

abbrev pub texts_of : List (Bor (List ℕ)) → List (List ℕ)
texts_of ts = map (λ t. t.now) ts

-- the header of a text; a text with an error has neither a path nor imports
unfoldable pub header : (text : List ℕ) → Header
header text = let d = data_of (metadata true text) in record { name = d.0; imports = d.1 }

-- ---- files by their import paths

-- import paths with the places of their files
abbrev pub Places : Type 0
Places = List (List ℕ × ℕ)

abbrev pub places_of : {S : Type 0} → HashMap (String Global) ℕ S → Places
places_of m = map (λ e. (string_bytes e.0, e.1)) m.entries

abbrev pub place_of : Places → (name : List ℕ) → Option ℕ
place_of ps name = lookup (bytes_eq name) ps

abbrev pub with_place : Places → (name : List ℕ) → ℕ → Places
with_place ps name place = insert_entry bytes_eq ps name place

-- why files have no order: two that have one import path, or a cycle
pub data Unordered : Type 0 where
  twins : (first second : ℕ) → Unordered
  cycle : (members : List ℕ) → Unordered

abbrev pub added_by : Option ℕ → Places → (name : List ℕ) → ℕ → Result Places Unordered
added_by (Some first) ps name place = Err (twins first place)
added_by None ps name place = Ok (with_place ps name place)

abbrev pub add_name : Places → (name : List ℕ) → ℕ → Result Places Unordered
add_name ps name place = added_by (place_of ps name) ps name place

abbrev pub add_named : Option (List ℕ) → Places → ℕ → Result Places Unordered
add_named None ps place = Ok ps
add_named (Some name) ps place = add_name ps name place

abbrev pub add_header : Places → Header → ℕ → Result Places Unordered
add_header ps h place = add_named h.name ps place

abbrev pub and_then : Result Places Unordered → (Places → Result Places Unordered) → Result Places Unordered
and_then (Ok ps) more = more ps
and_then (Err e) more = Err e

-- the files of a count by their import paths, each of which is new
unfoldable pub add_headers : ℕ → Places → List Header → Result Places Unordered
add_headers n ps [] = Ok ps
add_headers n ps (h ∷ hs) = and_then (add_header ps h (n - length (h ∷ hs))) (λ more. add_headers n more hs)

-- ---- the order

abbrev pub some_place : Option ℕ → List ℕ
some_place p = option_to_list p

-- the places of the files that are imported
abbrev pub used_places : Places → List Import → List ℕ
used_places ps is = flat_map (λ i. some_place (place_of ps i.import)) is

abbrev pub all_uses : Places → List Header → Uses
all_uses ps hs = map (λ h. used_places ps h.imports) hs

abbrev pub cycle_in : Result (List ℕ) (List ℕ) → Result (List ℕ) Unordered
cycle_in (Ok order) = Ok order
cycle_in (Err members) = Err (cycle members)

abbrev pub in_order : Uses → Result (List ℕ) Unordered
in_order us = cycle_in (ordered us)

abbrev pub order_by : Result Places Unordered → List Header → Result (List ℕ) Unordered
order_by (Ok ps) hs = in_order (all_uses ps hs)
order_by (Err e) hs = Err e

unfoldable pub sorted_headers : List Header → Result (List ℕ) Unordered
sorted_headers hs = order_by (add_headers (length hs) [] hs) hs

-- the places of files in an order in which each stands after those that it imports
abbrev pub sorted_files : (texts : List (List ℕ)) → Result (List ℕ) Unordered
sorted_files ts = sorted_headers (map header ts)

-- ---- what functions return

abbrev pub Gives : Result (Unit {0}) Unsorted → Places → Result Places Unordered → Type 0
Gives (Ok u) new expected = expected ≡ Ok new
Gives (Err (code.Twins first second)) new expected = expected ≡ Err (twins first second)
Gives (Err (code.Cycle v)) new expected = expected ≡ Err (cycle v.items)
Gives (Err code.Memory) new expected = Unit {0}

-- an order, or why there is none, unless memory ran out
abbrev pub Orders : Result (Vec ℕ Global) Unsorted → Result (List ℕ) Unordered → Type 0
Orders (Ok v) expected = expected ≡ Ok v.items
Orders (Err (code.Twins first second)) expected = expected ≡ Err (twins first second)
Orders (Err (code.Cycle v)) expected = expected ≡ Err (cycle v.items)
Orders (Err code.Memory) expected = Unit {0}
