-- The test of form of a module, as a value.
use Rattle.std.specs.Prelude.{ℕ, Bool, ◌&&◌, List, [], length, map, Option, unwrap_or, is_some, nat_eq, nat_lt, codes}
use Rattle.std.specs.List.{list_all, enumerate_from}
use Rattle.std.specs.Cmp.Lexicographic.{pointwise}
use Rattle.naga_oil_words.specs.Marks.{with_decoration}
use Rattle.naga_oil_ir.specs.ModuleValue.{ModuleValue, EntryValue}
use Rattle.naga_oil_ir.specs.declared.module.MeshInfo.{MeshInfo}
use Rattle.naga_oil_form.specs.FormItems.{are_names_formed, are_expressions_formed, are_specials_formed, are_distinct, links_of, specials_of}
use Rattle.naga_oil_form.specs.FormParts.{passes_if_there, are_earlier, is_span_fine, is_function_formed}

-- whether the items of a module pass
abbrev pub are_items_formed : ModuleValue → Bool
are_items_formed m = are_earlier (links_of m.types) && are_names_formed m && are_expressions_formed m && are_specials_formed m (specials_of m.special_types)

-- whether the spans of its items lie in a text of n bytes
abbrev pub are_spans_formed : ModuleValue → ℕ → Bool
are_spans_formed m n =
    list_all (λ e. is_span_fine n e.1) m.types && list_all (λ e. is_span_fine n e.1) m.constants && list_all (λ e. is_span_fine n e.1) m.overrides
    && list_all (λ e. is_span_fine n e.1) m.global_variables && list_all (λ e. is_span_fine n e.1) m.global_expressions && list_all (λ e. is_span_fine n e.1) m.functions

-- whether functions are named, their decorated names distinct, and so those of the entry points' functions, `main` where there is none
abbrev pub are_function_names_formed : ModuleValue → (decoration : List ℕ) → Bool
are_function_names_formed m d =
    list_all (λ e. is_some e.0.name) m.functions && are_distinct (pointwise nat_eq) (map (λ e. with_decoration d (unwrap_or e.0.name [])) m.functions)
    && are_distinct (pointwise nat_eq) (map (λ e. with_decoration d (unwrap_or e.function.name (codes "main"))) m.entry_points)

-- whether a global expression that may be named is there
abbrev pub is_expression_there : ModuleValue → Option ℕ → Bool
is_expression_there m o = passes_if_there (λ k. nat_lt k (length m.global_expressions)) o

-- whether what a mesh shader puts out is there
abbrev pub is_mesh_formed : ModuleValue → MeshInfo → Bool
is_mesh_formed m i =
    nat_lt i.vertex_output_type (length m.types) && nat_lt i.primitive_output_type (length m.types) && nat_lt i.output (length m.global_variables)
    && is_expression_there m i.max_vertices && is_expression_there m i.max_primitives

-- whether an entry point passes, in a text of n bytes
abbrev pub is_entry_formed : ModuleValue → ℕ → EntryValue → Bool
is_entry_formed m n e =
    is_function_formed m (length m.functions) n e.function && passes_if_there (list_all (is_expression_there m)) e.workgroup_size_overrides
    && passes_if_there (is_mesh_formed m) e.mesh_info && passes_if_there (λ k. nat_lt k (length m.global_variables)) e.task_payload

-- whether a module passes the test of form under a decoration, over a text of n bytes: each function calls functions before it
unfoldable pub is_formed : ModuleValue → (decoration : List ℕ) → ℕ → Bool
is_formed m decoration n =
    are_items_formed m && are_spans_formed m n && are_function_names_formed m decoration
    && list_all (λ e. is_function_formed m e.0 n e.1.0) (enumerate_from 0 m.functions) && list_all (is_entry_formed m n) m.entry_points
