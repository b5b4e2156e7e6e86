-- Worked rows: makes that are refused, as a module is missing or can't be built.
use Rattle.std.proofs.Common.{◌≡◌, true, [], ◌∷◌, refl, Ok, Err}
use Rattle.std.specs.Prelude.{codes}
use Rattle.naga_oil_ir.specs.declared.backend.Capabilities.{Capabilities}
use Rattle.naga_oil_form.specs.Form.{is_formed}
use Rattle.naga_oil_form_laws.specs.ShapeTest.{has_shape}
use Rattle.naga_oil_lines.specs.Decorate.{letters}
use Rattle.naga_oil_conditions.specs.Fault.{import_not_found, wgsl_parse}
use Rattle.naga_oil_conditions.specs.Replaced.{name_at, name_in_braces, hash_name, pieces, replaced_from, replaced, hash_names}
use Rattle.naga_oil_conditions.specs.declared.shader_def.ShaderDefValue.TheVariants.{Bool}
use Rattle.naga_oil_pre.specs.Preprocessed.{Output, preprocessed}
use Rattle.naga_oil_pre.specs.Reading.{reading, read_block, read_arms}
use Rattle.naga_oil_registry.specs.Descriptor.{ShaderSource}
use Rattle.naga_oil_registry.specs.Registered.{Registered, Defs}
use Rattle.naga_oil_build.specs.Build.{write_whole, build}
use Rattle.naga_oil_build.specs.Built.{preprocessed_of}
use Rattle.naga_oil_build.specs.Held.{parse_whole, hold}
use Rattle.naga_oil.specs.Answer.{refusal, read_and_build_first, module_of_text, answer}
use Rattle.naga_oil.specs.Reach.{missing, unbuilt, defined, reach, reach_each, reach_module, unless_built}
use Rattle.naga_oil.specs.Refused.{in_module, in_read}
use Rattle.naga_oil.specs.Shader.{read_shader}
use Rattle.naga_oil_faithful_laws.specs.SmallMake.{small_settings, module_definition, not_read, shader}
use Rattle.naga_oil_faithful_laws.proofs.Builds.{copies, keywords}
use Rattle.naga_oil_faithful_laws.proofs.Texts.{texts, source_read, described, shader_read, shader_definition, shader_output}

-- ---- refusals

-- a missing module is a fault of the shader's text
missing_in_shader : refusal (codes "p") (codes "t") [] (missing (codes "m") 8) ≡ record { fault = import_not_found (codes "m") 8; place = in_read (codes "p") (codes "t") }
missing_in_shader = refl

-- one that can't be built has a fault of its own text, with the definitions that it was given
unbuilt_in_module : (defs : Defs) → refusal (codes "p") (codes "t") defs (unbuilt (codes "m") (record { fault = wgsl_parse not_read; offset = 2 })) ≡
    record { fault = wgsl_parse not_read; place = in_module (codes "m") 2 defs }
unbuilt_in_module defs = refl

-- ---- the small make where nothing is registered

pub nothing_registered_answers : (c : Capabilities) → answer (small_settings c) [] 0 shader ≡
    record { counter = 0; builds = []; result = Err (record { fault = import_not_found (codes "m") 22; place = in_read [] shader.source }) }
unfolding answer module_of_text read_and_build_first
nothing_registered_answers c = rw (source_read, described, shader_read) refl

-- ---- a module that the front end doesn't read

abbrev unread : Registered
unread = record module_definition { source = codes "fn x() {}" }

abbrev unread_output : Output
unread_output = record { text = codes "fn x() {}\n"; uses = [] }

abbrev given : Defs
given = (codes "FOG", Bool true) ∷ []

-- the small make's shader, under a definition
abbrev foggy : ShaderSource
foggy = record shader { defs = given }

unread_read : preprocessed_of (defined given) unread ≡ Ok unread_output
unfolding texts preprocessed reading read_block read_arms letters replaced replaced_from pieces name_at name_in_braces hash_name hash_names
unread_read = refl

foggy_described : read_shader foggy foggy.source ≡ Ok shader_definition
unfolding read_shader
foggy_described = described

foggy_read : preprocessed_of (defined given) shader_definition ≡ Ok shader_output
unfolding texts preprocessed reading read_block read_arms letters replaced replaced_from pieces name_at name_in_braces hash_name hash_names
foggy_read = refl

not_built : (c : Capabilities) → build (small_settings c) unread unread_output [] ≡ Err (record { fault = wgsl_parse not_read; offset = 0 })
unfolding build write_whole parse_whole is_formed has_shape hold copies keywords
not_built c = refl

-- its fault lies in the module's text, and carries the definitions of the make
pub unread_answers : (c : Capabilities) → answer (small_settings c) (unread ∷ []) 0 foggy ≡
    record { counter = 0; builds = []; result = Err (record { fault = wgsl_parse not_read; place = in_module (codes "m") 0 given }) }
unfolding answer module_of_text read_and_build_first reach_each reach_module reach
unread_answers c = rw (source_read, foggy_described, foggy_read, unread_read, not_built) refl

-- ---- an import that isn't recorded

-- the text of a module with an import that its definition leaves out
abbrev unrecorded : Registered
unrecorded = record shader_definition { name = codes "n"; imports = [] }

as_text : preprocessed_of (defined []) unrecorded ≡ Ok shader_output
unfolding texts preprocessed reading read_block read_arms letters replaced replaced_from pieces name_at name_in_braces hash_name hash_names
as_text = refl

not_recorded : (c : Capabilities) → reach_module (small_settings c) [] unrecorded (unless_built (reach (small_settings c) [] [])) [] ≡
    record { builds = []; result = Err (missing (codes "m") 0) }
unfolding reach_module reach_each
not_recorded c = rw (as_text) refl
