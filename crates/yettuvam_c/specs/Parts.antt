-- The parts of a text, of its metadata or of an error.
use Rattle.std.specs.Prelude.{ℕ, pos, if◌then◌else◌, List, [], ◌∷◌, ◌++◌, map, flat_map, option_map, string_bytes, Option, Some, None}
use Rattle.naga_oil_lines.specs.Directives.{directives_of}
use Rattle.naga_oil_lines.specs.DirectivesText.{directives_text}
use Rattle.naga_oil_words.specs.Texts.{texts}
use Rattle.naga_oil_imports.specs.Uses.{Use, use_of}
use Rattle.naga_oil_conditions.specs.Fault.{Fault}
use Rattle.naga_oil_pre.specs.Preprocessed.{Output}
use Rattle.naga_oil_pre.specs.declared.metadata.PreprocessorMetaData.{PreprocessorMetaData}
use Rattle.naga_oil_conditions.specs.declared.shader_def.ShaderDefValue.{ShaderDefValue}
use Rattle.naga_oil_conditions.specs.declared.shader_def.ShaderDefValue.TheVariants as def
use Rattle.naga_oil_registry.specs.Registered.{defs_of}
use Rattle.naga_oil_registry.specs.Report.{ErrorPlaces, no_place, byte, line, item, spans, fault_places, report}
use Rattle.yettuvam_c.specs.Kinds.{text_kind, import_kind, item_kind, path_kind, bool_kind, int_kind, uint_kind, recorded_kind, directives_kind, byte_fault_kind, line_fault_kind, whole_fault_kind}
use Rattle.yettuvam_c.specs.Laid.{Part, plain}

-- a module's name at the place of its first use, and the items that are used of it
abbrev pub use_parts : Use → List Part
use_parts u = plain import_kind u.import.import u.offset ∷ map (λ name. plain item_kind name 0) u.import.items

-- a preprocessed text, and its imports
abbrev pub output_parts : Output → List Part
output_parts o = plain text_kind o.text 0 ∷ flat_map use_parts o.uses

-- a name and its value; true is 1
abbrev pub define_part : List ℕ × ShaderDefValue → Part
define_part (name, def.Bool truth) = record { kind = bool_kind; text = name; place = 0; value = pos (if truth then 1 else 0) }
define_part (name, def.Int number) = record { kind = int_kind; text = name; place = 0; value = number }
define_part (name, def.UInt number) = record { kind = uint_kind; text = name; place = 0; value = pos number }

abbrev pub recorded_part : List ℕ → Part
recorded_part name = plain recorded_kind name 0

abbrev pub path_parts : Option (List ℕ) → List Part
path_parts None = []
path_parts (Some path) = plain path_kind path 0 ∷ []

-- the cleaned text, its import path, its imports, its defines and the names that it records, both in byte order, and its directives
abbrev pub metadata_parts : PreprocessorMetaData → List Part
metadata_parts m =
    plain text_kind (string_bytes m.cleaned_source) 0 ∷ path_parts (option_map string_bytes m.name) ++ flat_map use_parts (map use_of m.imports.items)
    ++ map define_part (defs_of m.defines) ++ map recorded_part (texts m.effective_defs.keys) ++ plain directives_kind (directives_text (directives_of m.wgsl_directives)) 0 ∷ []

-- ---- errors

-- the kind of an error's place: a byte, the index of a line, or none
abbrev pub fault_kind : ErrorPlaces → ℕ
fault_kind (byte at) = byte_fault_kind
fault_kind (line index) = line_fault_kind
fault_kind no_place = whole_fault_kind
fault_kind (item s) = whole_fault_kind
fault_kind (spans ss) = whole_fault_kind

abbrev pub fault_place : ErrorPlaces → ℕ
fault_place (byte at) = at
fault_place (line index) = index
fault_place no_place = 0
fault_place (item s) = 0
fault_place (spans ss) = 0

-- the report of an error, with its place
abbrev pub fault_part : (path text : List ℕ) → Option Fault → Part
fault_part path text f = plain (fault_kind (fault_places f)) (report path text 0 f) (fault_place (fault_places f))
