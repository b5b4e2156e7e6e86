-- What a make reads of a shader, and how it merges definitions.
use Rattle.std.specs.Prelude.{ℕ, Bool, true, false, nat_eq, List, [], ◌∷◌, Option, Some, None, option_map, Result, Ok, Err, if◌then◌else◌, bytes_eq}
use Rattle.std.specs.List.{list_all, filter_map, flat_map}
use mathlib.Core.Bool.{beq}
use Rattle.std.specs.Map.{lookup}
use Rattle.std.specs.Ordering.{int_eq}
use Rattle.naga_oil_words.specs.Texts.{in_order}
use Rattle.naga_oil_imports.specs.Uses.{Use}
use Rattle.naga_oil_conditions.specs.Fault.{Fault, Definitions, import_not_found, inconsistent_def}
use Rattle.naga_oil_conditions.specs.Kind.{LineKind, define, unversioned_kind_of}
use Rattle.naga_oil_conditions.specs.Line.{source_lines}
use Rattle.naga_oil_pre.specs.Metadata.{Metadata, metadata}
use Rattle.naga_oil_conditions.specs.declared.shader_def.ShaderDefValue.{ShaderDefValue}
use Rattle.naga_oil_conditions.specs.declared.shader_def.ShaderDefValue.TheVariants as def
use Rattle.naga_oil_words.specs.ResultSteps.{◌>>=◌}
use Rattle.naga_oil_registry.specs.Registered.{Defs, Registered}
use Rattle.naga_oil_registry.specs.Descriptor.{ShaderSource, language_of}
use Rattle.naga_oil_registry.specs.Merged.{with_def, recorded_names}
use Rattle.naga_oil_registry.specs.Registry.{module_named}

-- the name that a define line defines
abbrev pub name_defined : LineKind → List (List ℕ)
name_defined (define name value) = name ∷ []
name_defined _ = []

-- the names defined by the define lines of a text, each once, sorted by bytes
abbrev pub names_defined : (text : List ℕ) → List (List ℕ)
names_defined text = in_order (flat_map (λ l. name_defined (unversioned_kind_of l.covered)) (source_lines text))

-- the definitions of some names, as a list
abbrev pub defs_among : Definitions → List (List ℕ) → Defs
defs_among defs names = filter_map (λ n. option_map (λ v. (n, v)) (defs n)) names

-- a shader as a module without a name and with index 0, by its metadata, its definitions and the names that its text records
abbrev pub shader_definition : ShaderSource → Metadata → (defs : Defs) → (recorded : List (List ℕ)) → Registered
shader_definition s found defs recorded = record {
  name = [];
  source = found.cleaned;
  language = language_of s.shader_type;
  file_path = s.file_path;
  defs = defs;
  effective = recorded;
  imports = found.uses;
  additional = s.additional;
  directives = found.directives;
  index = 0;
}

abbrev pub shader_found : ShaderSource → Metadata → Registered
shader_found m found = shader_definition m found (defs_among found.defines (names_defined found.cleaned)) (in_order (recorded_names found.cleaned))

-- a shader's text is read
unfoldable pub read_shader : ShaderSource → (text : List ℕ) → Result Registered Fault
read_shader m text = metadata true text >>= λ found. Ok (shader_found m found)

-- ---- definitions

abbrev pub module_for : Use → Option Registered → Result Registered Fault
module_for u (Some d) = Ok d
module_for u None = Err (import_not_found u.import.import u.offset)

-- the imported module
abbrev pub imported : List Registered → Use → Result Registered Fault
imported ds u = module_for u (module_named u.import.import ds)

-- what a name is defined as
abbrev pub value_of : Defs → Definitions
value_of defs name = lookup (λ n. bytes_eq name n) defs

-- whether two values are the same, of one kind
abbrev pub same_value : ShaderDefValue → ShaderDefValue → Bool
same_value (def.Bool a) (def.Bool b) = beq a b
same_value (def.Int a) (def.Int b) = int_eq a b
same_value (def.UInt a) (def.UInt b) = nat_eq a b
same_value a b = false

-- whether a definition, if any, has the value
abbrev pub has_value : ShaderDefValue → Option ShaderDefValue → Bool
has_value value None = false
has_value value (Some known) = same_value known value

-- whether a name may be defined as the value: it has no other value
abbrev pub agrees : ShaderDefValue → Option ShaderDefValue → Bool
agrees value None = true
agrees value (Some known) = same_value known value

-- definitions with others added one after the other, or the first name with two values
abbrev pub defs_union : Defs → Defs → Result Defs Fault
defs_union defs [] = Ok defs
defs_union defs (d ∷ more) = if agrees d.1 (value_of defs d.0) then defs_union (with_def defs d) more else Err (inconsistent_def d.0)

-- definitions with those of each imported module added
abbrev pub defs_union_over : List Registered → Defs → List Use → Result Defs Fault
defs_union_over ds defs [] = Ok defs
defs_union_over ds defs (u ∷ more) = imported ds u >>= λ d. defs_union defs d.defs >>= λ defs. defs_union_over ds defs more

-- whether all of these definitions are among others
abbrev pub are_among : Defs → Defs → Bool
are_among defs others = list_all (λ d. has_value d.1 (value_of others d.0)) defs

abbrev pub among_those : Defs → Result Registered Fault → Bool
among_those defs (Ok d) = are_among d.defs defs
among_those defs (Err f) = false

-- whether the second reading may import a module: it is registered, and its definitions are among those of the make
abbrev pub may_use : List Registered → Defs → Use → Bool
may_use ds defs u = among_those defs (imported ds u)
