-- The descriptors that callers pass, as values.
use Rattle.std.specs.Prelude.{ℕ, List, [], map, Option, None, option_map, string_bytes}
use Rattle.naga_oil_ir.specs.declared.language.ShaderLanguage.{ShaderLanguage}
use Rattle.naga_oil_ir.specs.declared.language.ShaderLanguage.TheVariants as language
use Rattle.naga_oil_imports.specs.Uses.{Import, import_of}
use Rattle.naga_oil_registry.specs.Registered.{Defs, defs_of}
use Rattle.naga_oil_registry.specs.declared.descriptor.ShaderType.{ShaderType}
use Rattle.naga_oil_registry.specs.declared.descriptor.ShaderType.TheVariants as shader
use Rattle.naga_oil_registry.specs.declared.descriptor.OwnedShaderDefs.{OwnedShaderDefs}
use Rattle.naga_oil_registry.specs.declared.descriptor.ComposableModuleDescriptor.{ComposableModuleDescriptor}
use Rattle.naga_oil_registry.specs.declared.descriptor.NagaModuleDescriptor.{NagaModuleDescriptor}

-- the language of a shader's text
abbrev pub language_of : ShaderType → ShaderLanguage
language_of shader.Wgsl = language.Wgsl
language_of shader.GlslVertex = language.Glsl
language_of shader.GlslFragment = language.Glsl

abbrev pub owned_defs_of : OwnedShaderDefs → Defs
owned_defs_of d = defs_of d.0

-- a module to add
pub record ModuleSource : Type 0 where
  pub source : List ℕ
  pub file_path : List ℕ
  pub language : ShaderLanguage
  -- its name, which replaces the import path that the text defines
  pub as_name : Option (List ℕ)
  pub additional : List Import
  pub defs : Defs

abbrev pub module_source : ComposableModuleDescriptor → ModuleSource
module_source d = record {
  source = d.source.now;
  file_path = d.file_path.now;
  language = d.language;
  as_name = option_map string_bytes d.as_name;
  additional = map import_of d.additional_imports.now;
  defs = defs_of d.shader_defs;
}

abbrev pub no_module : ModuleSource
no_module = record { source = []; file_path = []; language = language.Wgsl; as_name = None; additional = []; defs = [] }

-- a shader to build
pub record ShaderSource : Type 0 where
  pub source : List ℕ
  pub file_path : List ℕ
  pub shader_type : ShaderType
  pub defs : Defs
  pub additional : List Import

abbrev pub shader_source : NagaModuleDescriptor → ShaderSource
shader_source d = record {
  source = d.source.now;
  file_path = d.file_path.now;
  shader_type = d.shader_type;
  defs = defs_of d.shader_defs;
  additional = map import_of d.additional_imports.now;
}

abbrev pub no_shader : ShaderSource
no_shader = record { source = []; file_path = []; shader_type = shader.Wgsl; defs = []; additional = [] }
