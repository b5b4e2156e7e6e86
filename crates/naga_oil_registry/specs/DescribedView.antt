-- What the code knows of a module to add.
use Rattle.std.specs.Prelude.{◌≡◌, string_bytes}
use Rattle.naga_oil_words.specs.Texts.{in_order, texts}
use Rattle.naga_oil_pre.specs.MetadataView.{metadata_of}
use Rattle.naga_oil_registry.specs.Added.{Described}
use Rattle.naga_oil_registry.specs.Merged.{recorded_names}
use Rattle.naga_oil_registry.specs.declared.adding.Described as code

abbrev pub described_of : code.Described → Described
described_of d = record { name = string_bytes d.name; metadata = metadata_of d.metadata }

-- its effective names are those that the text records, in byte order
abbrev pub KnowsRecorded : code.Described → Type 0
KnowsRecorded d = texts d.metadata.effective_defs.keys ≡ in_order (recorded_names (string_bytes d.metadata.cleaned_source))
