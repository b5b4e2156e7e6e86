-- The code's findings and metadata, seen as those of `Metadata`.
use Rattle.std.specs.Prelude.{◌≡◌, ℕ, Bool, ◌||◌, List, map, String, string_bytes, option_map}
use Rattle.std.specs.BTreeMap.{get_by_text}
use Rattle.std.specs.BTreeSet.{BTreeSet, contains_text}
use Rattle.std.specs.declared.alloc.Global.{Global}
use Rattle.naga_oil_lines.specs.Directives.{directives_of}
use Rattle.naga_oil_imports.specs.Uses.{use_of}
use Rattle.naga_oil_pre.specs.declared.metadata.Findings.{Findings}
use Rattle.naga_oil_pre.specs.declared.metadata.PreprocessorMetaData.{PreprocessorMetaData}
use Rattle.naga_oil_pre.specs.KnownView.{known_of}
use Rattle.naga_oil_pre.specs.Metadata.{Found, Metadata}
use Rattle.naga_oil_words.specs.Texts.{is_among}

-- whether a name is in the set or among the names that are left
abbrev pub has_with : BTreeSet (String Global) → (left : List (List ℕ)) → List ℕ → Bool
has_with names left name = contains_text names name || is_among left name

-- the new set has the names of the old one and these
abbrev pub Gains : (old new : BTreeSet (String Global)) → List (List ℕ) → Type 0
Gains old new names = (name : List ℕ) → contains_text new name ≡ has_with old names name

-- the findings of the code
abbrev pub found_of : Findings → Found
found_of f = record { name = option_map string_bytes f.name; known = known_of f.imports; defines = get_by_text f.defines }

abbrev pub metadata_of : PreprocessorMetaData → Metadata
metadata_of m = record {
  name = option_map string_bytes m.name;
  uses = map use_of m.imports.items;
  defines = get_by_text m.defines;
  records = contains_text m.effective_defs;
  directives = directives_of m.wgsl_directives;
  cleaned = string_bytes m.cleaned_source;
}
