-- Copies of entry points.
use Rattle.std.specs.Prelude.{ℕ, List, Option, option_map, All, IfSome}
use Rattle.naga_oil_ir.specs.ModuleValue.{EntryValue}
use Rattle.naga_oil_ir.specs.declared.module.MeshInfo.{MeshInfo}
use Rattle.naga_oil_ir.specs.declared.names.ItemPlace.{ItemPlace}
use Rattle.naga_oil_ir.specs.declared.names.ItemPlace.TheVariants.{TypeItem, GlobalItem, ExpressionItem}
use Rattle.naga_oil_derive.specs.Derived.{Derived, HasItem}
use Rattle.naga_oil_derive.specs.DerivedFunctions.{CanCopy}

-- ---- what can be copied

-- an item of the source that may be absent is there
abbrev pub HasNamed : Derived → Option ItemPlace → Type 0
HasNamed d o = IfSome o (HasItem d)

abbrev pub HasSizes : Derived → Option (List (Option ℕ)) → Type 0
HasSizes d o = IfSome o (All (λ x. HasNamed d (option_map ExpressionItem x)))

pub record HasMesh (d : Derived) (m : MeshInfo) : Type 0 where
  pub vertex : HasItem d (TypeItem m.vertex_output_type)
  pub primitive : HasItem d (TypeItem m.primitive_output_type)
  pub output : HasItem d (GlobalItem m.output)
  pub max_vertices : HasNamed d (option_map ExpressionItem m.max_vertices)
  pub max_primitives : HasNamed d (option_map ExpressionItem m.max_primitives)

-- an entry point over the handles of the source can be copied
pub record CanCopyEntry (d : Derived) (v : EntryValue) : Type 0 where
  pub function : CanCopy d v.function
  pub sizes : HasSizes d v.workgroup_size_overrides
  pub mesh_info : IfSome v.mesh_info (HasMesh d)
  pub task_payload : HasNamed d (option_map GlobalItem v.task_payload)

-- a source is set, whose entry points can be copied
abbrev pub CanCopyEntries : Derived → Type 0
CanCopyEntries d = IfSome d.source (λ s. All (CanCopyEntry d) s.value.entry_points)
