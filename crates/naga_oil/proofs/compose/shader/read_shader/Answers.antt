use Rattle.std.proofs.Common.{ℕ, Bool, true, List, ap, string_bytes}
use Rattle.naga_oil_pre.specs.Metadata.{metadata}
use Rattle.naga_oil_pre.specs.MetadataView.{metadata_of}
use Rattle.naga_oil_registry.specs.Registered.{definition_of, defs_of}
use Rattle.naga_oil_words.specs.Texts.{texts}
use Rattle.naga_oil_registry.specs.Descriptor.{shader_source}
use Rattle.naga_oil_registry.specs.Merged.{recorded_names}
use Rattle.naga_oil_registry.proofs.NamesLemmas.{set_names, records-cleaned}
use Rattle.naga_oil.specs.Shader.{read_shader}
use Rattle.naga_oil.proofs.PlacedLemmas.{gives_err}
use Rattle.naga_oil.proofs.ReachLemmas.{defined_same}
use Rattle.naga_oil.proofs.ReadLemmas.{defines_listed, shader_read, shader_unread}
use Rattle.naga_oil.proofs.compose.shader.read_shader.Goals as goal

pub returns-in_err-metadata : goal.returns-in_err-metadata
returns-in_err-metadata c =
    let m = shader_source c.args.desc.now in
    let text = c.args.text.now in
    gives_err definition_of c.in_err-metadata.field-0.0 c.from_residual.result (metadata true text) (read_shader m text) (shader_unread m text) c.in_err-metadata.ensures.value c.from_residual.ensures.1

pub returns : goal.returns
returns c =
    let found = c.in_ok-metadata.metadata in
    let text = c.args.text.now in
    let says = c.in_ok-metadata.ensures.value in
    shader_read (shader_source c.args.desc.now) text (metadata_of found) (defs_of found.defines) (texts found.effective_defs.keys) (definition_of c.in_ok-shader_of.field-0) says
    (defines_listed text (metadata_of found) found.defines.entries says (defined_same found.defines) c.len.ensures.ordered)
    (set_names found.effective_defs.keys (recorded_names (string_bytes found.cleaned_source)) c.len-2.ensures.ordered (λ n. ap (λ (f : List ℕ → Bool). f n) (records-cleaned true text (metadata_of found) says)))
    c.in_ok-shader_of.ensures
