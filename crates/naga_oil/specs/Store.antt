-- The builds that a composer keeps between makes, and their keys.
use Rattle.std.specs.Prelude.{◌≡◌, ℕ, Bool, false, not, ◌&&◌, ◌+◌, ◌-◌, List, ◌++◌, fold, filter, length, Option, Some, None, option_map, unwrap_or, bytes_eq, min}
use Rattle.std.specs.Cmp.Lexicographic.{pointwise}
use Rattle.std.specs.List.{list_any}
use Rattle.std.specs.Map.{lookup}
use Rattle.indexmap.specs.IndexMap.{insert_entry}
use Rattle.naga_oil_words.specs.Texts.{is_among}
use Rattle.naga_oil_conditions.specs.declared.shader_def.ShaderDefValue.{ShaderDefValue}
use Rattle.naga_oil_registry.specs.Registered.{Registered, Defs}
use Rattle.naga_oil_registry.specs.Registry.{module_named}
use Rattle.naga_oil_link.specs.BuiltModule.{BuiltModule, Builds}
use Rattle.naga_oil.specs.Shader.{same_value}

-- ---- the key of a build

-- definitions projected on a module: those of the names on which its build may depend, sorted by name
abbrev pub project : Registered → Defs → Defs
project d defs = filter (λ e. is_among d.effective e.0) defs

pub record Key : Type 0 where
  -- the name of a module
  pub name : List ℕ
  -- the definitions on which its build may depend
  pub defs : Defs

-- the key of a module's build under definitions
abbrev pub key_under : Registered → Defs → Key
key_under d defs = record { name = d.name; defs = project d defs }

-- the key of the build of a name under definitions, if a module with the name is registered
abbrev pub key_named : List Registered → Defs → (name : List ℕ) → Option Key
key_named ds defs name = option_map (λ d. key_under d defs) (module_named name ds)

abbrev pub same_def : List ℕ × ShaderDefValue → List ℕ × ShaderDefValue → Bool
same_def d e = bytes_eq d.0 e.0 && same_value d.1 e.1

abbrev pub same_key : Key → Key → Bool
same_key k l = bytes_eq k.name l.name && pointwise same_def k.defs l.defs

-- ---- what is kept

-- builds by their keys, in the order of keeping
abbrev pub Kept : Type 0
Kept = List (Key × BuiltModule)

abbrev pub kept_under : Kept → Key → Option BuiltModule
kept_under kept k = lookup (same_key k) kept

abbrev pub is_kept : Kept → Key → Bool
is_kept kept k = list_any (λ e. same_key k e.0) kept

-- whether the build of a name is kept under definitions
abbrev pub is_kept_named : List Registered → Kept → (name : List ℕ) → Defs → Bool
is_kept_named ds kept name defs = unwrap_or (option_map (is_kept kept) (key_named ds defs name)) false

-- no kept build is lost
pub record KeepsAll (old new : Kept) : Type 0 where
  pub more : Kept
  pub is : new ≡ old ++ more

-- one build more, unless its key has one
abbrev pub keep_build : Kept → Key → BuiltModule → Kept
keep_build kept k b = insert_entry same_key kept k (unwrap_or (kept_under kept k) b)

abbrev pub keep_named : Option Key → BuiltModule → Kept → Kept
keep_named None b kept = kept
keep_named (Some k) b kept = keep_build kept k b

-- the builds that a make makes under definitions are kept, one after the other
abbrev pub keep_builds : List Registered → Defs → Kept → Builds → Kept
keep_builds ds defs kept builds = fold (λ kept e. keep_named (key_named ds defs e.0) e.1 kept) kept builds

-- the builds of removed modules are forgotten
abbrev pub forget : (goes : List ℕ → Bool) → Kept → Kept
forget goes kept = filter (λ e. not (goes e.0.name)) kept

-- the number of builds ever kept, to which the number of those newly kept is added, up to the largest number of 64 bits
abbrev pub count_kept : (count : ℕ) → (old new : Kept) → ℕ
count_kept count old new = min (count + (length new - length old)) 18446744073709551615
