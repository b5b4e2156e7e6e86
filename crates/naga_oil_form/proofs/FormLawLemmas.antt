-- The test of form decides which modules are well formed.
use Rattle.std.proofs.Common.{◌≡◌, ℕ, ◌<◌, true, List, [], length, map, Option, Some, None, option_map, unwrap_or, is_some, All, Decides, nat_eq, string_bytes, codes, refl, ap}
use Rattle.std.specs.List.{list_all, enumerate_from}
use Rattle.std.specs.Cmp.Lexicographic.{pointwise}
use Rattle.std.proofs.lemmas.Bool.Decides.{Decides-at}
use Rattle.std.proofs.lemmas.List.{length-map}
use Rattle.std.proofs.lemmas.Simd.{map-map}
use Rattle.naga_oil_words.specs.Marks.{with_decoration}
use Rattle.naga_oil_form.specs.BodyForm.{IsSpanFine}
use Rattle.naga_oil_ir.specs.ModuleValue.{FunctionValue, EntryValue, module_value, function_value, entry_value}
use Rattle.naga_oil_form.specs.NameForm.{NameForm, function_name, entry_name}
use Rattle.naga_oil_form.specs.WellFormed.{FunctionForm, FunctionsForm, IsExpressionThere, MeshForm, EntryForm, SpanForm, WellFormed}
use Rattle.naga_oil_ir.specs.declared.module.EntryPoint.{EntryPoint}
use Rattle.naga_oil_ir.specs.declared.module.Function.{Function}
use Rattle.naga_oil_ir.specs.declared.module.MeshInfo.{MeshInfo}
use Rattle.naga_oil_ir.specs.declared.module.Module.{Module}
use Rattle.naga_oil_ir.specs.declared.span.Span.{Span}
use Rattle.naga_oil_form.specs.Form.{are_spans_formed, are_function_names_formed, is_expression_there, is_mesh_formed, is_entry_formed, is_formed}
use Rattle.naga_oil_form.specs.FormItems.{are_distinct}
use Rattle.naga_oil_form.specs.FormParts.{is_function_formed}
use Rattle.naga_oil_form.proofs.DecisionLemmas.{both, like, itself, each_from, each_itself, in_order, if_there, distinct}
use Rattle.naga_oil_form.proofs.FormItemsLemmas.{items_tested}
use Rattle.naga_oil_form.proofs.FormPartsLemmas.{below, span_fine, function_tested}

some_mapped : {A B : Type 0} (f : A → B) (o : Option A) → is_some (option_map f o) ≡ is_some o
some_mapped f None = refl
some_mapped f (Some x) = refl

module _ (m : Module) where
  spans_tested : (n : ℕ) → Decides (are_spans_formed (module_value m) n) (SpanForm m n)
  spans_tested n =
      like _ (λ h. record { types = h.0.0.0.0.0; constants = h.0.0.0.0.1; overrides = h.0.0.0.1; globals = h.0.0.1; expressions = h.0.1; functions = h.1 })
      (λ r. (((((r.types, r.constants), r.overrides), r.globals), r.expressions), r.functions))
      (both _ _ (both _ _ (both _ _ (both _ _ (both _ _
      (each_from _ _ (λ e. IsSpanFine n e.1) (λ e. span_fine n e.1) m.types)
      (each_from _ _ (λ e. IsSpanFine n e.1) (λ e. span_fine n e.1) m.constants))
      (each_from _ _ (λ e. IsSpanFine n e.1) (λ e. span_fine n e.1) m.overrides))
      (each_from _ _ (λ e. IsSpanFine n e.1) (λ e. span_fine n e.1) m.global_variables))
      (each_from _ _ (λ e. IsSpanFine n e.1) (λ e. span_fine n e.1) m.global_expressions))
      (each_from _ _ (λ e. IsSpanFine n e.1) (λ e. span_fine n e.1) m.functions))

  function_names : (d : List ℕ) → map (λ e. with_decoration d (unwrap_or e.0.name [])) (module_value m).functions ≡ map (λ e. with_decoration d (function_name e.0)) m.functions
  function_names d = map-map (λ (e : FunctionValue × Span). with_decoration d (unwrap_or e.0.name [])) (λ (e : Function × Span). (function_value e.0, e.1)) m.functions

  entry_names : (d : List ℕ) → map (λ e. with_decoration d (unwrap_or e.function.name (codes "main"))) (module_value m).entry_points ≡ map (λ e. with_decoration d (entry_name e.function)) m.entry_points.items
  entry_names d = map-map (λ (e : EntryValue). with_decoration d (unwrap_or e.function.name (codes "main"))) entry_value m.entry_points.items

  names_tested : (d : List ℕ) → Decides (are_function_names_formed (module_value m) d) (NameForm m d)
  names_tested d =
      like _ (λ h. record { named = h.0.0; functions = h.0.1; entry_points = h.1 }) (λ r. ((r.named, r.functions), r.entry_points))
      (both _ _ (both _ _
      (each_from _ _ (λ e. is_some e.0.name ≡ true) (λ e. Decides-at _ _ (some_mapped string_bytes e.0.name) (itself (is_some e.0.name))) m.functions)
      (Decides-at _ _ (ap (are_distinct (pointwise nat_eq)) (function_names d)) (distinct (pointwise nat_eq) (map (λ e. with_decoration d (function_name e.0)) m.functions))))
      (Decides-at _ _ (ap (are_distinct (pointwise nat_eq)) (entry_names d)) (distinct (pointwise nat_eq) (map (λ e. with_decoration d (entry_name e.function)) m.entry_points.items))))

  functions_tested : (n : ℕ) → Decides (list_all (λ e. is_function_formed (module_value m) e.0 n e.1.0) (enumerate_from 0 (module_value m).functions)) (FunctionsForm m n m.functions)
  unfolding FunctionsForm
  functions_tested n = in_order _ _ (λ k e. FunctionForm m k n e.0) (λ k e. function_tested m k n e.0) m.functions

  expression_there : (o : Option ℕ) → Decides (is_expression_there (module_value m) o) (IsExpressionThere m o)
  expression_there o = if_there _ (λ k. k < length m.global_expressions) (λ k. below _ k m.global_expressions) o

  mesh_tested : (i : MeshInfo) → Decides (is_mesh_formed (module_value m) i) (MeshForm m i)
  mesh_tested i =
      like _ (λ h. record { vertex = h.0.0.0.0; primitive = h.0.0.0.1; output = h.0.0.1; max_vertices = h.0.1; max_primitives = h.1 }) (λ r. ((((r.vertex, r.primitive), r.output), r.max_vertices), r.max_primitives))
      (both _ _ (both _ _ (both _ _ (both _ _
      (below _ i.vertex_output_type m.types)
      (below _ i.primitive_output_type m.types))
      (below _ i.output m.global_variables))
      (expression_there i.max_vertices))
      (expression_there i.max_primitives))

  functions_long : length (module_value m).functions ≡ length m.functions
  functions_long = length-map m.functions _

  entry_function : (n : ℕ) (f : Function) → Decides (is_function_formed (module_value m) (length (module_value m).functions) n (function_value f)) (FunctionForm m (length m.functions) n f)
  entry_function n f = Decides-at _ _ (ap (λ c. is_function_formed (module_value m) c n (function_value f)) functions_long) (function_tested m (length m.functions) n f)

  entry_tested : (n : ℕ) (e : EntryPoint) → Decides (is_entry_formed (module_value m) n (entry_value e)) (EntryForm m n e)
  entry_tested n e =
      like _ (λ h. record { function = h.0.0.0; workgroup_size = h.0.0.1; mesh_info = h.0.1; task_payload = h.1 }) (λ r. (((r.function, r.workgroup_size), r.mesh_info), r.task_payload))
      (both _ _ (both _ _ (both _ _
      (entry_function n e.function)
      (if_there _ (λ os. All (IsExpressionThere m) os) (λ os. each_itself _ (IsExpressionThere m) expression_there os) e.workgroup_size_overrides))
      (if_there _ (MeshForm m) mesh_tested e.mesh_info))
      (if_there _ (λ k. k < length m.global_variables) (λ k. below _ k m.global_variables) e.task_payload))

  pub module_tested : (d : List ℕ) (n : ℕ) → Decides (is_formed (module_value m) d n) (WellFormed m d n)
  unfolding is_formed
  module_tested d n =
      like _ (λ h. record { items = h.0.0.0.0; spans = h.0.0.0.1; names = h.0.0.1; functions = h.0.1; entry_points = h.1 }) (λ r. ((((r.items, r.spans), r.names), r.functions), r.entry_points))
      (both _ _ (both _ _ (both _ _ (both _ _
      (items_tested m)
      (spans_tested n))
      (names_tested d))
      (functions_tested n))
      (each_from _ _ (EntryForm m n) (entry_tested n) m.entry_points.items))
