-- Worked rows: the words that `oil` itself doesn't take, and the lines of metadata.
use Rattle.std.specs.Prelude.{◌≡◌, refl, true, false, Some, None, [], ◌∷◌, codes}
use Rattle.naga_oil_mini.specs.Extra.{extra, help, version, metadata_of_file}
use Rattle.naga_oil_mini.specs.Listing.{listing}
use Rattle.naga_oil_mini.specs.Words.{asked}
use Rattle.naga_oil_mini.specs.declared.mini.words.Task.TheVariants.{Preprocess}
use Rattle.naga_oil_conditions.specs.declared.shader_def.ShaderDefValue.TheVariants as def

-- ---- words
pub help_asked : extra (codes "--help" ∷ []) ≡ Some help
help_asked = refl

pub version_asked : extra (codes "--version" ∷ []) ≡ Some version
version_asked = refl

pub metadata_asked : extra (codes "pre" ∷ codes "--metadata" ∷ codes "t.txt" ∷ []) ≡ Some (metadata_of_file (codes "t.txt"))
metadata_asked = refl

pub help_of_a_command : extra (codes "pre" ∷ codes "--help" ∷ []) ≡ None
help_of_a_command = refl

-- alone, and with definitions, `--metadata` is the name of a file
pub option_alone : extra (codes "pre" ∷ codes "--metadata" ∷ []) ≡ None
option_alone = refl

pub option_with_a_definition : extra (codes "pre" ∷ codes "--metadata" ∷ codes "K=2" ∷ []) ≡ None
option_with_a_definition = refl

pub file_of_the_options_name : asked (codes "pre" ∷ codes "--metadata" ∷ codes "K=2" ∷ []) ≡ Some (record { task = Preprocess; override_any = false; files = codes "--metadata" ∷ []; imports = [] })
file_of_the_options_name = refl

pub option_after_its_file : extra (codes "pre" ∷ codes "t.txt" ∷ codes "--metadata" ∷ []) ≡ None
option_after_its_file = refl

-- ---- lines
pub listed_row : listing (record {
  path = Some (codes "water");
  imports = record { import = codes "noise"; items = codes "ripple" ∷ codes "swell" ∷ [] } ∷ record { import = codes "\"a\tb\""; items = [] } ∷ [];
  defines = (codes "OFF", def.Bool false) ∷ (codes "ON", def.Bool true) ∷ [];
  names = codes "CALM" ∷ codes "LAYERS" ∷ [];
}) ≡ codes "path\twater\nimport\tnoise\tripple\tswell\nimport\t\"a\\tb\"\ndefine\tOFF\tfalse\ndefine\tON\ttrue\nname\tCALM\nname\tLAYERS\n"
unfolding listing
listed_row = refl
