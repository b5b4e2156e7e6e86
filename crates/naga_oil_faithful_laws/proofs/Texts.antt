-- The texts of the small make, read.
use Rattle.std.proofs.Common.{◌≡◌, List, [], ◌∷◌, refl, Ok}
use lib.Utf8.{encode}
use Rattle.std.specs.Prelude.{codes}
use Rattle.std.specs.Str.{chars, trim_start, trim_end}
use Rattle.ucd_perl.proofs.Computing.{ucd_perl}
use Rattle.unicode_ident.specs.Ident.{is_xid_start, is_xid_continue}
use Rattle.unicode_ident.proofs.Computing.{unicode_ident}
use Rattle.naga_oil_ir.specs.declared.language.ShaderLanguage.TheVariants.{Wgsl}
use Rattle.naga_oil_lines.specs.Cover.{cover}
use Rattle.naga_oil_lines.specs.Decorate.{letters}
use Rattle.naga_oil_lines.specs.Directives.{no_directives}
use Rattle.naga_oil_words.specs.Texts.{in_order}
use Rattle.naga_oil_imports.specs.Leaves.{parts, leaves_of, line_leaves}
use Rattle.naga_oil_imports.specs.Substituted.{paths_for, path_text, mentions_at}
use Rattle.naga_oil_lines.specs.Text.{past_word}
use Rattle.naga_oil_lines.specs.Tokens.{lexemes, more_in_token, tail_len}
use Rattle.naga_oil_imports.specs.Uses.{Use}
use Rattle.naga_oil_conditions.specs.Computing.{line_kinds}
use Rattle.naga_oil_pre.specs.DirectiveLines.{cut_at, listed, treated, directive_of}
use Rattle.naga_oil_pre.specs.Extracted.{taken_out, extracted}
use Rattle.naga_oil_pre.specs.Metadata.{metadata}
use Rattle.naga_oil_pre.specs.Preprocessed.{Output, preprocessed}
use Rattle.naga_oil_pre.specs.Reading.{reading, read_block, read_arms}
use Rattle.naga_oil_pre.specs.Recorded.{names_from, names_of}
use Rattle.naga_oil_conditions.specs.Replaced.{name_at, name_in_braces, hash_name, pieces, replaced_from, replaced, hash_names}
use Rattle.naga_oil_registry.specs.Added.{read_source}
use Rattle.naga_oil_registry.specs.Registered.{Registered}
use Rattle.naga_oil_registry.specs.Sanitized.{first_decoration, sanitized}
use Rattle.naga_oil_build.specs.Built.{preprocessed_of}
use Rattle.naga_oil.specs.Reach.{defined}
use Rattle.naga_oil.specs.Shader.{read_shader}
use Rattle.naga_oil_faithful_laws.specs.SmallMake.{shader, module_definition}

-- `unfolding texts` lets `refl` compute lines and their tokens
unfoldable pub texts : Unit {0}
unfolding cover line_kinds chars encode ucd_perl unicode_ident is_xid_start is_xid_continue lexemes more_in_token tail_len line_leaves leaves_of parts paths_for path_text mentions_at
texts = tt

pub source_read : read_source 0 shader.source ≡ Ok (shader.source, 0)
unfolding read_source first_decoration sanitized
source_read = refl

abbrev pub used : List Use
used = record { import = record { import = codes "m"; items = codes "f" ∷ [] }; offset = 22 } ∷ []

abbrev pub shader_definition : Registered
shader_definition = record {
  name = [];
  source = codes "#import m\noverride fn m::f() {}";
  language = Wgsl;
  file_path = [];
  defs = [];
  effective = [];
  imports = used;
  additional = [];
  directives = no_directives;
  index = 0;
}

pub described : read_shader shader shader.source ≡ Ok shader_definition
unfolding texts read_shader metadata extracted taken_out cut_at listed treated directive_of trim_start trim_end in_order names_from names_of past_word replaced replaced_from pieces name_at name_in_braces hash_name hash_names
described = refl

abbrev pub shader_output : Output
shader_output = record { text = codes "         \noverride fn fX_naga_oil_mod_XNUX() {}\n"; uses = used }

pub shader_read : preprocessed_of (defined []) shader_definition ≡ Ok shader_output
unfolding texts preprocessed reading read_block read_arms letters replaced replaced_from pieces name_at name_in_braces hash_name hash_names
shader_read = refl

abbrev pub module_output : Output
module_output = record { text = codes "fn f() {}\n"; uses = [] }

pub module_read : preprocessed_of (defined []) module_definition ≡ Ok module_output
unfolding texts preprocessed reading read_block read_arms letters replaced replaced_from pieces name_at name_in_braces hash_name hash_names
module_read = refl
