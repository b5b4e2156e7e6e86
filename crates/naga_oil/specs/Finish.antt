-- The module made of a preprocessed shader. Its builds are given, so the steps of `do` here are results.
use Rattle.std.specs.Prelude.{ℕ, List, Result, Ok, Err}
use Rattle.naga_oil_ir.specs.ModuleValue.{ModuleValue}
use Rattle.naga_oil_pre.specs.Preprocessed.{Output}
use Rattle.naga_oil_words.specs.ResultSteps.{◌>>=◌}
use Rattle.naga_oil_registry.specs.Registered.{Registered, Defs}
use Rattle.naga_oil_registry.specs.declared.descriptor.ShaderType.{ShaderType}
use Rattle.naga_oil_link.specs.BuiltModule.{BuiltModule, Builds}
use Rattle.naga_oil_link.specs.Linked.{link_whole}
use Rattle.naga_oil_build.specs.Build.{Unbuilt, build}
use Rattle.naga_oil_build.specs.Held.{Settings}
use Rattle.naga_oil.specs.Chain.{chain, with_stages}
use Rattle.naga_oil.specs.Refused.{Refused, Place, in_preprocessed, placed}
use Rattle.naga_oil.specs.Validate.{validate}

-- the build of a preprocessed text, with the text as the place of its faults
abbrev pub built_in_text : (path text : List ℕ) → Result BuiltModule Unbuilt → Result BuiltModule Refused
built_in_text path text (Ok b) = Ok b
built_in_text path text (Err u) = Err (record { fault = u.fault; place = in_preprocessed path text u.offset })

-- a shader's build is linked whole after what it imports, its entry points get their stage, calls of overridden functions are
-- redirected, and the module is validated
unfoldable pub compose : Settings → Defs → Builds → BuiltModule → ShaderType → Place → Result ModuleValue Refused
compose s defs builds b shader_type place = do
  made ← placed place (chain b.overriding (with_stages shader_type (link_whole builds b)))
  validate s builds defs place made

-- a preprocessed shader is built and composed
unfoldable pub finish : Settings → Defs → Builds → Registered → Output → ShaderType → Result ModuleValue Refused
finish s defs builds d out shader_type = do
  b ← built_in_text d.file_path out.text (build s d out builds)
  compose s defs builds b shader_type (in_preprocessed d.file_path out.text b.offset)
