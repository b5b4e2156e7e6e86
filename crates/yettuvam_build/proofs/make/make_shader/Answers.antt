use Rattle.std.proofs.Common.{◌≡◌, ◌∷◌, ◌∙◌, map, ap, refl}
use Rattle.naga_oil_imports.specs.Uses.{import_of}
use Rattle.naga_oil_registry.specs.declared.descriptor.NagaModuleDescriptor.{NagaModuleDescriptor}
use Rattle.naga_oil_registry.specs.declared.descriptor.ShaderType.TheVariants.{Wgsl}
use Rattle.yettuvam_files.specs.Files.{texts_of}
use Rattle.yettuvam_build.specs.Built.{bare_import}
use Rattle.yettuvam_build.specs.Files.{file_of}
use Rattle.yettuvam_build.proofs.BuiltLemmas.{as_shader, made_value, not_made}
use Rattle.yettuvam_build.proofs.make.make_shader.Goals as goal

pub returns-in-Ok : goal.returns-in-Ok
returns-in-Ok g c =
    let desc : NagaModuleDescriptor = record { source = c.as_str.result; file_path = c.args.top.now.0; shader_type = Wgsl; shader_defs = c.args.definitions; additional_imports = c.as_slice.result } in
    let additional : map import_of desc.additional_imports.now ≡ map bare_import (texts_of c.args.imports.now) = ap (map import_of) c.as_slice.ensures.value ∙ c.in_ok-imports.ensures in
    made_value g.B.Backend.front (file_of c.args.top.now ∷ map file_of c.args.others.now) _ _ _ _ (as_shader desc (texts_of c.args.imports.now) (file_of c.args.top.now) c.as_str.ensures.value refl refl additional) _ c.in-Ok.ensures

pub returns : goal.returns
returns g c =
    let desc : NagaModuleDescriptor = record { source = c.as_str.result; file_path = c.args.top.now.0; shader_type = Wgsl; shader_defs = c.args.definitions; additional_imports = c.as_slice.result } in
    let additional : map import_of desc.additional_imports.now ≡ map bare_import (texts_of c.args.imports.now) = ap (map import_of) c.as_slice.ensures.value ∙ c.in_ok-imports.ensures in
    not_made g.B.Backend.front (file_of c.args.top.now ∷ map file_of c.args.others.now) _ _ _ _ (as_shader desc (texts_of c.args.imports.now) (file_of c.args.top.now) c.as_str.ensures.value refl refl additional) _ c.in-Err.ensures _ _ c.binding_counter-counter.ensures c.told.ensures
