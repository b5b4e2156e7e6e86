-- The metadata of a text, read before any build: its import path, its uses, its defines and the
-- names that it records.
use Rattle.std.specs.Prelude.{ℕ, zero, suc, ◌+◌, Bool, if◌then◌else◌, List, [], ◌∷◌, map, bytes_eq, unwrap_or, Option, Some, None, Result, Ok, Err}
use Rattle.naga_oil_lines.specs.Directives.{Directives}
use Rattle.naga_oil_imports.specs.Leaves.{Leaf, SyntaxFault, import_leaves, with_leaves}
use Rattle.naga_oil_imports.specs.Uses.{Import, Use}
use Rattle.naga_oil_imports.specs.Substituted.{used_by}
use Rattle.naga_oil_conditions.specs.declared.shader_def.ShaderDefValue.{ShaderDefValue}
use Rattle.naga_oil_conditions.specs.Line.{Line, source_lines}
use Rattle.naga_oil_conditions.specs.Kind.{LineKind, version, condition, endif, imports, import_path, define, other, unversioned_kind_of}
use Rattle.naga_oil_conditions.specs.Fault.{Fault, Definitions, invalid_definition, invalid_import, define_in_module}
use Rattle.naga_oil_conditions.specs.DefineValue.{defined_value}
use Rattle.naga_oil_pre.specs.Extracted.{extracted}
use Rattle.naga_oil_pre.specs.Reading.{braces_after, taken}
use Rattle.naga_oil_pre.specs.Preprocessed.{Known, nothing_known, tokens_of, import_text}
use Rattle.naga_oil_pre.specs.Recorded.{is_recorded}

-- the findings so far: the last import path, the declarations and uses, and the last define of each
-- name
pub record Found : Type 0 where
  pub name : Option (List ℕ)
  pub known : Known
  pub defines : Definitions

-- nothing is defined
abbrev pub none_defined : Definitions
none_defined name = None

-- before the first line
abbrev pub nothing_found : Found
nothing_found = record { name = None; known = nothing_known; defines = none_defined }

-- the definitions with a name defined; its earlier value is replaced
abbrev pub with_definition : Definitions → (name : List ℕ) → ShaderDefValue → Definitions
with_definition defs name value asked = if bytes_eq name asked then Some value else defs asked

-- the definitions after a define of this value, or the fault of a text that is no value
abbrev pub defined_as : Definitions → ℕ → (name : List ℕ) → (text : Option (List ℕ)) → Option ShaderDefValue → Result Definitions Fault
defined_as defs at name text (Some value) = Ok (with_definition defs name value)
defined_as defs at name text None = Err (invalid_definition at name (unwrap_or text []))

-- the definitions after a define at the place
abbrev pub defined_after : (allow_defines : Bool) → Definitions → ℕ → (name : List ℕ) → (text : Option (List ℕ)) → Result Definitions Fault
defined_after allow_defines defs at name text = if allow_defines then defined_as defs at name text (defined_value text) else Err (define_in_module at)

-- the findings after a define
abbrev pub with_defines : Found → Result Definitions Fault → Result Found Fault
with_defines found (Ok defs) = Ok (record found { defines = defs })
with_defines found (Err f) = Err f

-- the findings after an import at the place
abbrev pub with_import : Found → ℕ → Result (List Leaf) SyntaxFault → Result Found Fault
with_import found at (Ok leaves) = Ok (record found { known = record found.known { declared = with_leaves found.known.declared leaves } })
with_import found at (Err f) = Err (invalid_import f.0 (at + f.1))

-- the findings after a line of no kind: its uses are those of its covered line, with no names
-- replaced
abbrev pub with_uses : Found → Line → Found
with_uses found l = record found { known = record found.known { uses = used_by found.known.declared l.at (tokens_of l.covered) found.known.uses } }

-- the findings after a line of this kind, with more lines after it; conditions select nothing
abbrev pub found_after : (allow_defines : Bool) → Found → Line → LineKind → (more : List Line) → Result Found Fault
found_after allow_defines found l (condition is_else c) more = Ok found
found_after allow_defines found l endif more = Ok found
found_after allow_defines found l imports more = with_import found l.at (import_leaves (import_text (l ∷ taken (braces_after 0 l.covered) more)))
found_after allow_defines found l (import_path name) more = Ok (record found { name = Some name })
found_after allow_defines found l (define name text) more = with_defines found (defined_after allow_defines found.defines l.at name text)
found_after allow_defines found l (version known) more = Ok (with_uses found l)
found_after allow_defines found l other more = Ok (with_uses found l)

-- the number of braces that a line leaves open for the lines after it
abbrev pub left_open : Line → LineKind → ℕ
left_open l imports = braces_after 0 l.covered
left_open l _ = 0

-- the findings of the rest, unless there is an earlier fault
abbrev pub going_on : Result Found Fault → (Found → Result Found Fault) → Result Found Fault
going_on (Ok found) rest = rest found
going_on (Err f) rest = Err f

-- the findings in lines, or the earliest fault; an import before the lines may take the first of
-- them
abbrev pub found_in : (allow_defines : Bool) → Found → (braces : ℕ) → List Line → Result Found Fault
found_in allow_defines found braces [] = Ok found
found_in allow_defines found zero (l ∷ more) =
    going_on (found_after allow_defines found l (unversioned_kind_of l.covered) more) (λ next. found_in allow_defines next (left_open l (unversioned_kind_of l.covered)) more)
found_in allow_defines found (suc n) (l ∷ more) = found_in allow_defines found (braces_after (suc n) l.covered) more

-- the defines of the findings
abbrev pub defines_of : Result Found Fault → Result Definitions Fault
defines_of (Ok found) = Ok found.defines
defines_of (Err f) = Err f

-- findings with these defines and nothing else
abbrev pub defining : Definitions → Found
defining defs = record nothing_found { defines = defs }

-- the defines after the lines, given those before them; or the earliest fault
abbrev pub own_defines : (allow_defines : Bool) → Definitions → List Line → Result Definitions Fault
own_defines allow_defines defs lines = defines_of (found_in allow_defines (defining defs) 0 lines)

-- the metadata of a text
pub record Metadata : Type 0 where
  -- the import path
  pub name : Option (List ℕ)
  -- the uses of each module, in order of first use
  pub uses : List Use
  pub defines : Definitions
  -- whether a name is recorded
  pub records : List ℕ → Bool
  pub directives : Directives
  -- the text without the directives
  pub cleaned : List ℕ

-- the metadata from the findings in the cleaned text, with its directives
abbrev pub metadata_with : (cleaned : List ℕ) → Directives → Result Found Fault → Result Metadata Fault
metadata_with cleaned directives (Ok found) =
    Ok (record { name = found.name; uses = map (λ u. u.1) found.known.uses; defines = found.defines; records = is_recorded cleaned; directives = directives; cleaned = cleaned })
metadata_with cleaned directives (Err f) = Err f

-- the metadata of a cleaned text with its directives, or the fault of its earliest line
abbrev pub metadata_of_cleaned : (allow_defines : Bool) → (cleaned : List ℕ) → Directives → Result Metadata Fault
metadata_of_cleaned allow_defines cleaned directives = metadata_with cleaned directives (found_in allow_defines nothing_found 0 (source_lines cleaned))

abbrev pub metadata_after : (allow_defines : Bool) → Result (List ℕ × Directives) Fault → Result Metadata Fault
metadata_after allow_defines (Ok r) = metadata_of_cleaned allow_defines r.0 r.1
metadata_after allow_defines (Err f) = Err f

-- the metadata of a text, whose directives are removed first, or its first fault
unfoldable pub metadata : (allow_defines : Bool) → (text : List ℕ) → Result Metadata Fault
metadata allow_defines text = metadata_after allow_defines (extracted text)

-- the import path, the uses of each module, and the defines; nothing if there is a fault
abbrev pub data_of : Result Metadata Fault → Option (List ℕ) × List Import × Definitions
data_of (Ok m) = (m.name, map (λ u. u.import) m.uses, m.defines)
data_of (Err f) = (None, [], none_defined)

-- the cleaned source and the defines, or the fault
abbrev pub source_and_defines : Result Metadata Fault → Result (List ℕ × Definitions) Fault
source_and_defines (Ok m) = Ok (m.cleaned, m.defines)
source_and_defines (Err f) = Err f
