-- Adding a module.
use Rattle.std.specs.Prelude.{◌≡◌, ℕ, ◌+◌, List, [], ◌∷◌, ◌++◌, map, Option, Some, None, Result, Ok, Err, false}
use Rattle.std.specs.List.{flat_map}
use Rattle.naga_oil_words.specs.Texts.{in_order}
use Rattle.naga_oil_words.specs.ResultSteps.{◌>>=◌}
use Rattle.naga_oil_imports.specs.Uses.{Import, Use}
use Rattle.naga_oil_conditions.specs.Fault.{Fault, decoration_in_source, bindings_exhausted, no_module_name, import_not_found, too_many_modules}
use Rattle.naga_oil_pre.specs.Metadata.{Metadata, metadata}
use Rattle.naga_oil_registry.specs.Registered.{Registered}
use Rattle.naga_oil_registry.specs.Descriptor.{ModuleSource}
use Rattle.naga_oil_registry.specs.Merged.{recorded_names, merged, used_at_start}
use Rattle.naga_oil_registry.specs.Registry.{module_named, removed, free_index}
use Rattle.naga_oil_registry.specs.Sanitized.{first_decoration, sanitized}

abbrev pub read_as : Option ℕ → Option (List ℕ × ℕ) → Result (List ℕ × ℕ) Fault
read_as (Some at) read = Err (decoration_in_source at (at + 16))
read_as None (Some read) = Ok read
read_as None None = Err bindings_exhausted

-- a prepared source and the counter after it: the source may contain no mark of a decoration, and the numbers must suffice
unfoldable pub read_source : (counter : ℕ) → (source : List ℕ) → Result (List ℕ × ℕ) Fault
read_source counter source = read_as (first_decoration source) (sanitized counter source)

abbrev pub next_counter : ℕ → Result (List ℕ × ℕ) Fault → ℕ
next_counter counter (Ok read) = read.1
next_counter counter (Err f) = counter

-- the counter after a source; a source that is refused leaves the counter as it was
abbrev pub counter_after : (counter : ℕ) → (source : List ℕ) → ℕ
counter_after counter source = next_counter counter (read_source counter source)

-- the given name, or else the import path
abbrev pub name_among : (given path : Option (List ℕ)) → Result (List ℕ) Fault
name_among (Some name) path = Ok name
name_among None (Some path) = Ok path
name_among None None = Err no_module_name

-- the name of a module, and the metadata of its text
pub record Described : Type 0 where
  pub name : List ℕ
  pub metadata : Metadata

-- the name and metadata of a module's text, which may define nothing
unfoldable pub described : (given : Option (List ℕ)) → (text : List ℕ) → Result Described Fault
described given text = do
  found ← metadata false text
  name ← name_among given found.name
  Ok (record { name = name; metadata = found })

-- the imports of a module: what its text uses, then the additional imports
abbrev pub all_uses : Metadata → List Import → List Use
all_uses found additional = found.uses ++ map used_at_start additional

abbrev pub with_module : Use → Option Registered → Result (List Registered) Fault → Result (List Registered) Fault
with_module u None more = Err (import_not_found u.import.import u.offset)
with_module u (Some d) (Ok ds) = Ok (d ∷ ds)
with_module u (Some d) (Err f) = Err f

-- the imported modules, or the first import that isn't among these
abbrev pub imported_among : List Registered → List Use → Result (List Registered) Fault
imported_among ds [] = Ok []
imported_among ds (u ∷ more) = with_module u (module_named u.import.import ds) (imported_among ds more)

abbrev pub indexed : Option ℕ → Result ℕ Fault
indexed (Some index) = Ok index
indexed None = Err too_many_modules

-- the definition of a module with these imported modules
abbrev pub definition_over : ModuleSource → Described → (imported : List Registered) → (index : ℕ) → Registered
definition_over m d imported index = record {
  name = d.name;
  source = d.metadata.cleaned;
  language = m.language;
  file_path = m.file_path;
  defs = merged m.defs imported;
  effective = in_order (recorded_names d.metadata.cleaned ++ flat_map (λ i. i.effective) imported);
  imports = all_uses d.metadata m.additional;
  additional = m.additional;
  directives = d.metadata.directives;
  index = index;
}

-- the definition of a new module, over the modules that stay
unfoldable pub new_definition : List Registered → ModuleSource → Described → Result Registered Fault
new_definition ds m d = do
  imported ← imported_among ds (all_uses d.metadata m.additional)
  index ← indexed (free_index ds)
  Ok (definition_over m d imported index)

-- a registry with a new module, in place of the one with its name and of all that reach that one
abbrev pub registry_with : List Registered → Registered → List Registered
registry_with ds d = d ∷ removed d.name ds

-- the definition that is given is entered
abbrev pub Enters : {F : Type 0} → (old : List Registered) → Result Registered F → (new : List Registered) → Type 0
Enters old value new = (d : Registered) × (value ≡ Ok d) × (new ≡ registry_with old d)

-- a view of a definition, if there is one
abbrev pub shown_by : {Y F : Type 0} → (Registered → Y) → Result Registered F → Result Y F
shown_by shown (Ok d) = Ok (shown d)
shown_by shown (Err f) = Err f
