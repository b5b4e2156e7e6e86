-- What an addition registers, or what is wrong with it, and where.
use Rattle.std.specs.Prelude.{ℕ, List, Result}
use Rattle.naga_oil_words.specs.ResultSteps.{◌>>=◌}
use Rattle.naga_oil_registry.specs.Added.{read_source, described, new_definition}
use Rattle.naga_oil_registry.specs.Registered.{Registered}
use Rattle.naga_oil_registry.specs.Descriptor.{ModuleSource}
use Rattle.naga_oil_registry.specs.Registry.{removed}
use Rattle.naga_oil.specs.Refused.{Refused, placed, in_given, in_read}

-- the definition that an addition registers, or the first fault. Faults up to the missing name lie in the source as given, later
-- ones in the text as it is read
unfoldable pub addition : List Registered → (counter : ℕ) → ModuleSource → Result Registered Refused
addition ds counter m = do
  read ← placed (in_given m.file_path m.source) (read_source counter m.source)
  d ← placed (in_given m.file_path m.source) (described m.as_name read.0)
  placed (in_read m.file_path read.0) (new_definition (removed d.name ds) m d)
