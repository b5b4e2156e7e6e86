-- The builds of the small make.
use Rattle.std.proofs.Common.{◌≡◌, [], ◌∷◌, ◌++◌, refl, map, Some, Ok}
use lib.Utf8.{encode}
use Rattle.std.specs.Prelude.{codes}
use Rattle.std.specs.Str.{chars, is_utf8}
use Rattle.naga_oil_form.specs.Links.{trail}
use Rattle.naga_oil_ir.specs.ModuleValue.{ModuleValue, no_items}
use Rattle.naga_oil_ir.specs.Spans.{undefined}
use Rattle.naga_oil_ir.specs.declared.backend.Capabilities.{Capabilities}
use Rattle.naga_oil_lines.specs.Cover.{cover}
use Rattle.naga_oil_lines.specs.Decorate.{letters, bytes_of, decoded}
use Rattle.naga_oil_words.specs.Texts.{in_order}
use Rattle.naga_oil_lines.specs.Text.{past_word}
use Rattle.naga_oil_words.specs.Marks.{has_module_mark}
use Rattle.naga_oil_registry.specs.Keywords.{marked_name, marked_after, edited}
use Rattle.naga_oil_derive.specs.Answered.{import_callee}
use Rattle.naga_oil_derive.specs.Collected.{reached}
use Rattle.naga_oil_derive.specs.Copied.{put_type, put, copy_within}
use Rattle.naga_oil_derive.specs.CopiedFunction.{expressions_upto, copy_function}
use Rattle.naga_oil_derive.specs.Equal.{row_eq, parts_eq}
use Rattle.naga_oil_derive.specs.World.{world, span_at, goes}
use Rattle.naga_oil_walk.specs.Naming.{names_from}
use Rattle.naga_oil_link.specs.BuiltModule.{BuiltModule}
use Rattle.naga_oil_link.specs.CopiedBuild.{copy_places, copy_build, copies_special}
use Rattle.naga_oil_form.specs.Form.{is_formed}
use Rattle.naga_oil_form_laws.specs.ShapeTest.{has_shape}
use Rattle.naga_oil_link.specs.Linked.{link_items, link_import, link_header}
use Rattle.naga_oil_link.specs.OwnPlaces.{nothing_own}
use Rattle.ucd_perl.proofs.Computing.{ucd_perl}
use Rattle.naga_oil_build.specs.Build.{write_whole, build}
use Rattle.naga_oil_build.specs.Held.{parse_whole, hold}
use Rattle.naga_oil_build.specs.Virtuals.{around_last, item_and_code, functions_in}
use Rattle.naga_oil_faithful_laws.specs.SmallMake.{function, ray_of, local_of, zero_of, literal, negated, span, number, struct, specials, mark, helper_name, base_name, override_name, kill, module_definition, small_settings, shader_parse}
use Rattle.naga_oil_faithful_laws.proofs.Texts.{module_output, shader_output, shader_definition, used}
use Rattle.naga_oil_ir.specs.declared.tokens.Token.TheVariants.{At, Head, Absent, Emitted, Callee}

-- `unfolding copies` lets `refl` compute copies of items and functions
unfoldable pub copies : Unit {0}
unfolding trail names_from import_callee reached put_type put copy_within expressions_upto copy_function row_eq parts_eq world span_at goes copy_places copy_build copies_special link_items link_import link_header has_module_mark in_order
copies = tt

-- `unfolding keywords` lets `refl` compute the functions after keywords
unfoldable pub keywords : Unit {0}
unfolding cover chars encode is_utf8 ucd_perl letters bytes_of decoded around_last item_and_code functions_in marked_name marked_after edited past_word
keywords = tt

abbrev pub module_value : ModuleValue
module_value = record no_items {
  types = number ∷ struct (codes "Ray") ∷ struct (codes "Hit") ∷ struct (codes "S" ++ mark) ∷ [];
  special_types = specials (Some 1) (Some 2);
  functions = (function helper_name [] [] [] kill, undefined) ∷ (function base_name (ray_of 1 ∷ []) (local_of 3 0 ∷ []) (zero_of 3 ∷ literal 7 ∷ negated 1 (span 5 8) ∷ []) (At (span 1 3) ∷ Head 16 ∷ Callee 0 ∷ Absent ∷ At (span 4 8) ∷ Head 0 ∷ Emitted (2, 3) ∷ []), span 0 9) ∷ [];
}

abbrev pub module_header : ModuleValue
module_header = record module_value {
  functions = (function helper_name [] [] [] [], undefined) ∷ (function base_name (ray_of 1 ∷ []) [] [] [], span 0 9) ∷ [];
}

abbrev pub module_build : BuiltModule
module_build = record {
  decoration = mark;
  imports = [];
  types = (codes "S" ++ mark) ∷ [];
  constants = [];
  pipeline_overrides = [];
  globals = [];
  functions = base_name ∷ helper_name ∷ [];
  virtuals = [];
  overriding = [];
  value = module_value;
  header = module_header;
  own_in_value = record nothing_own { types = 3 ∷ [] };
  own_in_header = record nothing_own { types = 3 ∷ [] };
  offset = 0;
  index = 1;
}

pub module_is_built : (c : Capabilities) → build (small_settings c) module_definition module_output [] ≡ Ok module_build
unfolding build write_whole parse_whole is_formed has_shape hold copies keywords
module_is_built c = refl

abbrev pub shader_build : BuiltModule
shader_build = record {
  decoration = [];
  imports = map (λ u. u.import) used;
  types = [];
  constants = [];
  pipeline_overrides = [];
  globals = [];
  functions = override_name ∷ [];
  virtuals = [];
  overriding = (base_name, override_name ∷ []) ∷ [];
  value = shader_parse;
  header = record shader_parse { functions = (function override_name (ray_of 1 ∷ []) [] [] [], undefined) ∷ []; entry_points = [] };
  own_in_value = nothing_own;
  own_in_header = nothing_own;
  offset = 0;
  index = 0;
}

pub shader_is_built : (c : Capabilities) → build (small_settings c) shader_definition shader_output ((codes "m", module_build) ∷ []) ≡ Ok shader_build
unfolding build write_whole parse_whole is_formed has_shape hold copies keywords
shader_is_built c = refl
