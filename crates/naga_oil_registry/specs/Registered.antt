-- A registered module, as a value.
use Rattle.std.specs.Prelude.{ℕ, List, map, String, string_bytes}
use Rattle.std.specs.declared.alloc.Global.{Global}
use Rattle.std.specs.BTreeMap.{BTreeMap}
use Rattle.naga_oil_ir.specs.declared.language.ShaderLanguage.{ShaderLanguage}
use Rattle.naga_oil_words.specs.Texts.{texts}
use Rattle.naga_oil_imports.specs.Uses.{Import, Use, import_of, use_of}
use Rattle.naga_oil_lines.specs.Directives.{Directives, directives_of}
use Rattle.naga_oil_conditions.specs.declared.shader_def.ShaderDefValue.{ShaderDefValue}
use Rattle.naga_oil_registry.specs.declared.definition.ComposableModuleDefinition.{ComposableModuleDefinition}

-- definitions of names, in the byte order of the names
abbrev pub Defs : Type 0
Defs = List (List ℕ × ShaderDefValue)

abbrev pub defs_of : BTreeMap (String Global) ShaderDefValue → Defs
defs_of m = map (λ e. (string_bytes e.0, e.1)) m.entries

pub record Registered : Type 0 where
  pub name : List ℕ
  -- the text without directives
  pub source : List ℕ
  pub language : ShaderLanguage
  pub file_path : List ℕ
  pub defs : Defs
  -- the names on which the module's build may depend, in byte order
  pub effective : List (List ℕ)
  -- what the module may import: what its text uses under some definitions, then the additional imports
  pub imports : List Use
  -- imports besides those that the text uses
  pub additional : List Import
  pub directives : Directives
  pub index : ℕ

abbrev pub definition_of : ComposableModuleDefinition → Registered
definition_of d = record {
  name = string_bytes d.name;
  source = string_bytes d.sanitized_source;
  language = d.language;
  file_path = string_bytes d.file_path;
  defs = defs_of d.shader_defs;
  effective = texts d.effective_defs.keys;
  imports = map use_of d.all_imports.items;
  additional = map import_of d.additional_imports.items;
  directives = directives_of d.wgsl_directives;
  index = d.module_index;
}
