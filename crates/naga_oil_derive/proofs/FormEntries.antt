-- Entry points that pass the test of form can be copied.
use Rattle.std.proofs.Common.{◌≡◌, ℕ, ◌<◌, List, length, map, Option, Some, None, IsSome, option_map, IfSome, refl, sym, subst, All}
use Rattle.std.proofs.lemmas.List.Elements.{All-weaker, All-map}
use Rattle.naga_oil_ir.specs.ModuleValue.{ModuleValue, FunctionValue, EntryValue, entry_value, function_value}
use Rattle.naga_oil_ir.specs.Rows.{Row}
use Rattle.naga_oil_form.specs.WellFormed.{IsExpressionThere, MeshForm, FunctionForm, EntryForm}
use Rattle.naga_oil_ir.specs.declared.module.EntryPoint.{EntryPoint}
use Rattle.naga_oil_ir.specs.declared.module.Function.{Function}
use Rattle.naga_oil_ir.specs.declared.module.MeshInfo.{MeshInfo}
use Rattle.naga_oil_ir.specs.declared.module.Module.{Module}
use Rattle.naga_oil_ir.specs.declared.names.ItemPlace.{ItemPlace}
use Rattle.naga_oil_ir.specs.declared.names.ItemPlace.TheVariants.{TypeItem, GlobalItem, ExpressionItem}
use Rattle.naga_oil_derive.specs.World.{value_of, world}
use Rattle.naga_oil_derive.specs.Copying.{IsThere}
use Rattle.naga_oil_derive.specs.Derived.{Source, Derived, HasItem}
use Rattle.naga_oil_derive.specs.DerivedFunctions.{Meanings, MayCopy, MayCall, MayReach, CanCopy}
use Rattle.naga_oil_derive.specs.DerivedEntries.{HasNamed, HasSizes, HasMesh, CanCopyEntry, CanCopyEntries}
use Rattle.naga_oil_derive.proofs.RankLemmas.{place_there}

-- ---- a source that is a module

abbrev IsOf : ModuleValue → Option Source → Type 0
IsOf v o = IsSome o × IfSome o (λ s. s.value ≡ v)

abbrev pub HasSource : ModuleValue → Derived → Type 0
HasSource v d = IsOf v d.source

-- an item of the module is there for callers
pub item_in : (m : Module) (o : Option Source) (p : ItemPlace) → IsOf (value_of m) o → IsThere m p → IsSome o × IfSome o (λ s. (r : Row) × (world s.value p ≡ Some r))
item_in m None p h i = (h.0, tt)
item_in m (Some s) p h i = (h.0, subst (λ (v : ModuleValue). (r : Row) × (world v p ≡ Some r)) (sym h.1) i)

copy_in : (m : Module) (o : Option Source) (ns : Meanings) (v : FunctionValue) → IsOf (value_of m) o → MayCopy (value_of m) (MayCall (value_of m) ns (length (value_of m).functions)) v → IsSome o × IfSome o (λ s. MayCopy s.value (MayReach ns s) v)
copy_in m None ns v h i = (h.0, tt)
copy_in m (Some s) ns v h i = (h.0, subst (λ (w : ModuleValue). MayCopy w (MayCall w ns (length w.functions)) v) (sym h.1) i)

-- what may be copied of the module can be copied
pub source_copy : (m : Module) (d : Derived) (v : FunctionValue) → HasSource (value_of m) d → MayCopy (value_of m) (MayCall (value_of m) d.function_names (length (value_of m).functions)) v → CanCopy d v
source_copy m d v h i = copy_in m d.source d.function_names v h i

-- ---- an entry point

module _ (m : Module) (d : Derived) (own : HasSource (value_of m) d) where
  item_has : (p : ItemPlace) → IsThere m p → HasItem d p
  item_has p i = item_in m d.source p own i

  expression_has : (o : Option ℕ) → IsExpressionThere m o → HasNamed d (option_map ExpressionItem o)
  expression_has None h = tt
  expression_has (Some k) h = item_has (ExpressionItem k) (place_there m (ExpressionItem k) h)

  global_has : (o : Option ℕ) → IfSome o (λ k. k < length m.global_variables) → HasNamed d (option_map GlobalItem o)
  global_has None h = tt
  global_has (Some k) h = item_has (GlobalItem k) (place_there m (GlobalItem k) h)

  sizes_has : (o : Option (List (Option ℕ))) → IfSome o (λ os. All (IsExpressionThere m) os) → HasSizes d o
  sizes_has None h = tt
  sizes_has (Some xs) h = All-weaker (IsExpressionThere m) (λ x. HasNamed d (option_map ExpressionItem x)) expression_has xs h

  mesh_has : (o : Option MeshInfo) → IfSome o (MeshForm m) → IfSome o (HasMesh d)
  mesh_has None h = tt
  mesh_has (Some i) h = record {
    vertex = item_has (TypeItem i.vertex_output_type) (place_there m (TypeItem i.vertex_output_type) h.vertex);
    primitive = item_has (TypeItem i.primitive_output_type) (place_there m (TypeItem i.primitive_output_type) h.primitive);
    output = item_has (GlobalItem i.output) (place_there m (GlobalItem i.output) h.output);
    max_vertices = expression_has i.max_vertices h.max_vertices;
    max_primitives = expression_has i.max_primitives h.max_primitives;
  }

  entry_can : (n : ℕ) (e : EntryPoint) → EntryForm m n e → CanCopy d (function_value e.function) → CanCopyEntry d (entry_value e)
  entry_can n e h c = record {
    function = c;
    sizes = sizes_has e.workgroup_size_overrides h.workgroup_size;
    mesh_info = mesh_has e.mesh_info h.mesh_info;
    task_payload = global_has e.task_payload h.task_payload;
  }

entry_values : (m : Module) → (value_of m).entry_points ≡ map entry_value m.entry_points.items
unfolding value_of
entry_values m = refl

entries_at : (m : Module) (d : Derived) (o : Option Source) → IsOf (value_of m) o → All (CanCopyEntry d) (map entry_value m.entry_points.items) → IfSome o (λ s. All (CanCopyEntry d) s.value.entry_points)
entries_at m d None h i = tt
entries_at m d (Some s) h i = subst (λ (v : ModuleValue). All (CanCopyEntry d) v.entry_points) (sym h.1) (subst (λ (vs : List EntryValue). All (CanCopyEntry d) vs) (sym (entry_values m)) i)

-- where the functions of entry points can be copied, so can they
pub entries_can : (m : Module) (d : Derived) (n : ℕ) → HasSource (value_of m) d → ((f : Function) → FunctionForm m (length m.functions) n f → CanCopy d (function_value f)) → All (EntryForm m n) m.entry_points.items → CanCopyEntries d
entries_can m d n own can h =
    let each : All (CanCopyEntry d) (map entry_value m.entry_points.items) = All-map (CanCopyEntry d) entry_value m.entry_points.items (All-weaker (EntryForm m n) (λ x. CanCopyEntry d (entry_value x)) (λ e i. entry_can m d own n e i (can e.function i.function)) m.entry_points.items h) in
    entries_at m d d.source own each
