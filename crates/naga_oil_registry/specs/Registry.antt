-- The registry as a list, the newest module first: what a module imports comes later in the list.
use Rattle.std.specs.Prelude.{◌≡◌, ◌≤◌, ℕ, List, [], ◌∷◌, ◌++◌, Bool, true, false, not, ◌&&◌, ◌||◌, ◌==◌, Option, Some, unwrap_or, option_map, if◌then◌else◌, filter, find, position, bytes_eq}
use Rattle.std.specs.List.{list_any, list_all, flat_map, range_with_len}
use Rattle.naga_oil_words.specs.Texts.{in_order, is_among}
use Rattle.naga_oil_imports.specs.Uses.{Use}
use Rattle.naga_oil_pre.specs.Recorded.{is_recorded}
use Rattle.naga_oil_registry.specs.Registered.{Registered}
use Rattle.naga_oil_registry.specs.Merged.{recorded_names}
use Rattle.naga_oil_ir.specs.Spans.{max_modules}

-- whether a module with this name is registered
abbrev pub registered : List ℕ → List Registered → Bool
registered name ds = list_any (λ d. bytes_eq d.name name) ds

-- the module with this name
abbrev pub module_named : List ℕ → List Registered → Option Registered
module_named name ds = find (λ d. bytes_eq d.name name) ds

-- the place of the module with this name
abbrev pub place_named : List ℕ → List Registered → Option ℕ
place_named name ds = position (λ d. bytes_eq d.name name) ds

-- the module with this index
abbrev pub module_indexed : ℕ → List Registered → Option Registered
module_indexed index ds = find (λ d. d.index == index) ds

-- whether the named module is the other one, or reaches it by imports
unfoldable pub reaches : List Registered → (name other : List ℕ) → Bool
reaches [] name other = false
reaches (d ∷ earlier) name other = if bytes_eq d.name name then bytes_eq name other || list_any (λ u. reaches earlier u.import.import other) d.imports else reaches earlier name other

-- what stays when the modules with some names are removed
abbrev pub standing : (goes : List ℕ → Bool) → List Registered → List Registered
standing goes ds = filter (λ d. not (goes d.name)) ds

-- what stays when a module is removed, with all that reach it
abbrev pub removed : List ℕ → List Registered → List Registered
removed name ds = standing (λ other. reaches ds other name) ds

-- whether a module has this index
abbrev pub taken : List Registered → ℕ → Bool
taken ds index = list_any (λ d. d.index == index) ds

-- the smallest index from 1 to the count that no module has
unfoldable pub free_among : (count : ℕ) → List Registered → Option ℕ
free_among count ds = find (λ index. not (taken ds index)) (range_with_len 1 count)

unfoldable pub free_index : List Registered → Option ℕ
free_index ds = free_among max_modules ds

-- the effective names of the imported modules, one after another
abbrev pub effective_names : List Registered → List Use → List (List ℕ)
effective_names ds uses = flat_map (λ u. unwrap_or (option_map (λ d. d.effective) (module_named u.import.import ds)) []) uses

-- a module may be added to the registered ones: its name and index are its own, its imports are among them, and its effective
-- names are those that its text records and those of its imports
pub record MayFollow (d : Registered) (earlier : List Registered) : Type 0 where
  pub name : registered d.name earlier ≡ false
  pub index : taken earlier d.index ≡ false
  pub positive : 1 ≤ d.index
  pub small : d.index ≤ max_modules
  pub imports : list_all (λ u. registered u.import.import earlier) d.imports ≡ true
  pub effective : d.effective ≡ in_order (recorded_names d.source ++ effective_names earlier d.imports)

abbrev pub IsRegistry : List Registered → Type 0
IsRegistry [] = Unit {0}
IsRegistry (d ∷ earlier) = MayFollow d earlier × IsRegistry earlier

-- whether a module records a name, or one that it reaches does
abbrev pub is_reached_name : List Registered → (module_name name : List ℕ) → Bool
is_reached_name ds module_name name = list_any (λ d. reaches ds module_name d.name && is_recorded d.source name) ds

-- the effective names of each module are those recorded by the modules that it reaches
abbrev pub AreReachedNames : List Registered → Type 0
AreReachedNames ds = (d : Registered) (name : List ℕ) → module_named d.name ds ≡ Some d → is_among d.effective name ≡ is_reached_name ds d.name name
