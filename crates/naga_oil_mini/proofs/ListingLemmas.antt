-- The lines of metadata, as the code has them.
use Rattle.std.proofs.Common.{◌≡◌, ℕ, Bool, cond, List, [], ◌∷◌, ◌++◌, map, refl, sym, ap, ◌∙◌, Some, option_map, string_bytes, String}
use Rattle.std.specs.Prelude.{bytes_eq}
use Rattle.std.specs.BTreeMap.{BTreeMap, get_by_text, IsOrdered as MapIsOrdered}
use Rattle.std.specs.BTreeSet.{BTreeSet, IsOrdered as SetIsOrdered}
use Rattle.std.specs.Cmp.Lexicographic.{slice_cmp}
use Rattle.std.specs.List.{flat_map}
use Rattle.std.specs.Map.{lookup}
use Rattle.std.specs.Ordering.{nat_cmp, eq_by_cmp}
use Rattle.std.specs.String.{string_cmp}
use Rattle.std.specs.declared.alloc.Global.{Global}
use Rattle.std.proofs.lemmas.Map.Text.{is_eq-slice_cmp}
use Rattle.naga_oil_words.specs.Texts.{texts}
use Rattle.naga_oil_imports.specs.Uses.{use_of}
use Rattle.naga_oil_imports.specs.declared.import_definition.ImportDefWithOffset.{ImportDefWithOffset}
use Rattle.naga_oil_pre.specs.MetadataView.{metadata_of}
use Rattle.naga_oil_pre.specs.declared.metadata.PreprocessorMetaData.{PreprocessorMetaData}
use Rattle.naga_oil_registry.proofs.NamesLemmas.{sorted_texts, among_texts}
use Rattle.naga_oil_registry.specs.Registered.{defs_of}
use Rattle.naga_oil_mini.specs.Listing.{Listed, Tells, IsListing, listing, path_lines, import_line, define_lines, name_lines}
use Rattle.naga_oil_mini.proofs.OverwriteLemmas.{Entries, named, sorted_named}

-- a name is found among entries by its bytes
lookup_text : (name : List ℕ) (es : Entries) → lookup (bytes_eq name) (named es) ≡ lookup (λ k. eq_by_cmp (slice_cmp nat_cmp) name (string_bytes k)) es
lookup_text name [] = refl
lookup_text name (e ∷ es) =
    ap (λ b. cond b (Some e.1) (lookup (bytes_eq name) (named es))) (sym (is_eq-slice_cmp name (string_bytes e.0)))
    ∙ ap (λ o. cond (eq_by_cmp (slice_cmp nat_cmp) name (string_bytes e.0)) (Some e.1) o) (lookup_text name es)

-- metadata, as the code has it
abbrev listed_of : PreprocessorMetaData → Listed
listed_of m = record {
  path = option_map string_bytes m.name;
  imports = map (λ u. u.import) (map use_of m.imports.items);
  defines = defs_of m.defines;
  names = texts m.effective_defs.keys;
}

tells : (m : PreprocessorMetaData) → MapIsOrdered string_cmp m.defines → SetIsOrdered string_cmp m.effective_defs → Tells (metadata_of m) (listed_of m)
tells m defines names = record {
  path = refl;
  imports = refl;
  defines = λ name. lookup_text name m.defines.entries;
  defines_in_order = sorted_named m.defines.entries defines;
  names = λ name. sym (among_texts m.effective_defs.keys name);
  names_in_order = sorted_texts m.effective_defs.keys names;
}

-- the lines that were pushed one after the other are the listing
pub listing_of : (m : PreprocessorMetaData) (start paths imports defines names : List ℕ) (uses : List ImportDefWithOffset) → MapIsOrdered string_cmp m.defines → SetIsOrdered string_cmp m.effective_defs
    → start ≡ [] → paths ≡ start ++ path_lines (option_map string_bytes m.name)
    → uses ≡ m.imports.items → imports ≡ paths ++ flat_map import_line (map (λ u. u.import) (map use_of uses))
    → defines ≡ imports ++ define_lines (defs_of m.defines) → names ≡ defines ++ name_lines (texts m.effective_defs.keys)
    → IsListing (metadata_of m) names
unfolding listing
listing_of m start paths imports defines names uses defines_ordered names_ordered none is_path is_uses is_imports is_defines is_names =
    let P = path_lines (option_map string_bytes m.name) in
    let I = flat_map import_line (map (λ u. u.import) (map use_of m.imports.items)) in
    let D = define_lines (defs_of m.defines) in
    let N = name_lines (texts m.effective_defs.keys) in
    let to_paths : paths ≡ P = is_path ∙ ap (λ o. o ++ P) none in
    let to_imports : imports ≡ P ++ I = is_imports ∙ ap (λ us. paths ++ flat_map import_line (map (λ u. u.import) (map use_of us))) is_uses ∙ ap (λ o. o ++ I) to_paths in
    let to_defines : defines ≡ (P ++ I) ++ D = is_defines ∙ ap (λ o. o ++ D) to_imports in
    (listed_of m, tells m defines_ordered names_ordered, is_names ∙ ap (λ o. o ++ N) to_defines)
