-- The state after entry points are copied, as values.
use Rattle.std.specs.Prelude.{ℕ, List, [], ◌∷◌, ◌++◌, map, Option, Some, None, option_map}
use Rattle.naga_oil_ir.specs.ModuleValue.{ModuleValue, FunctionValue, EntryValue}
use Rattle.naga_oil_ir.specs.declared.module.MeshInfo.{MeshInfo}
use Rattle.naga_oil_ir.specs.declared.names.ItemPlace.{ItemPlace}
use Rattle.naga_oil_ir.specs.declared.names.ItemPlace.TheVariants.{TypeItem, GlobalItem, ExpressionItem}
use Rattle.naga_oil_derive.specs.Derived.{Source, Derived}
use Rattle.naga_oil_derive.specs.DerivedFunctions.{requests_of}
use Rattle.naga_oil_derive.specs.DerivedValue.{import_item, place_by, answer_requests, localize_function}

-- ---- what an entry point names besides its function, in the order of copying

abbrev pub sizes_names : Option (List (Option ℕ)) → List (Option ItemPlace)
sizes_names None = []
sizes_names (Some xs) = map (option_map ExpressionItem) xs

abbrev pub mesh_names : Option MeshInfo → List (Option ItemPlace)
mesh_names None = []
mesh_names (Some m) =
    Some (TypeItem m.vertex_output_type) ∷ Some (TypeItem m.primitive_output_type) ∷
    Some (GlobalItem m.output) ∷ option_map ExpressionItem m.max_vertices ∷
    option_map ExpressionItem m.max_primitives ∷ []

abbrev pub entry_names : EntryValue → List (Option ItemPlace)
entry_names v =
    sizes_names v.workgroup_size_overrides ++
    (mesh_names v.mesh_info ++ option_map GlobalItem v.task_payload ∷ [])

-- items that may be absent are copied one after another
abbrev pub import_items : Derived → List (Option ItemPlace) → Derived
import_items d [] = d
import_items d (None ∷ ps) = import_items d ps
import_items d (Some p ∷ ps) = import_items (import_item d p) ps

-- ---- an entry point, with what it names mapped

abbrev pub place_expression : Option Source → Option ℕ → Option ℕ
place_expression o x = option_map (place_by (λ p. p.global_expressions) o) x

abbrev pub place_mesh : Option Source → MeshInfo → MeshInfo
place_mesh o m = record {
  vertex_output_type = place_by (λ p. p.types) o m.vertex_output_type;
  primitive_output_type = place_by (λ p. p.types) o m.primitive_output_type;
  output = place_by (λ p. p.global_variables) o m.output;
  max_vertices = place_expression o m.max_vertices;
  max_primitives = place_expression o m.max_primitives;
  topology = m.topology;
}

-- the copy of an entry point with f as its function
abbrev pub place_entry : Option Source → FunctionValue → EntryValue → EntryValue
place_entry o f v = record v {
  function = f;
  workgroup_size_overrides = option_map (map (place_expression o)) v.workgroup_size_overrides;
  mesh_info = option_map (place_mesh o) v.mesh_info;
  task_payload = option_map (place_by (λ p. p.global_variables) o) v.task_payload;
}

-- ---- entry points one after another

-- a derived module, and copies of entry points
pub record EntriesState : Type 0 where
  pub derived : Derived
  pub entries : List EntryValue

abbrev pub entry_last : List EntryValue → Derived → FunctionValue → EntryValue → EntriesState
entry_last done e f v = record { derived = e; entries = done ++ place_entry e.source f v ∷ [] }

-- the copy of an entry point is appended, after its function is copied and then what else it names
abbrev pub copy_entry : EntriesState → EntryValue → EntriesState
copy_entry s v =
    let e = answer_requests s.derived (requests_of v.function) in
    entry_last s.entries (import_items e (entry_names v)) (localize_function e.source e.function_names v.function) v

abbrev pub copy_entries : EntriesState → List EntryValue → EntriesState
copy_entries s [] = s
copy_entries s (v ∷ vs) = copy_entries (copy_entry s v) vs

abbrev pub entries_state : Derived → List EntryValue → EntriesState
entries_state d ws = record { derived = d; entries = ws }

-- the module with copies of the source's entry points
abbrev pub module_of : EntriesState → ModuleValue
module_of s = record s.derived.target { entry_points = s.entries }

abbrev pub module_by : Derived → Option Source → ModuleValue
module_by d None = d.target
module_by d (Some s) = module_of (copy_entries (entries_state d []) s.value.entry_points)

abbrev pub make_module : Derived → ModuleValue
make_module d = module_by d d.source
