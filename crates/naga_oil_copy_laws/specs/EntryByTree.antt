-- Copies of entry points without the handles of either module: everything but their functions.
use Rattle.std.specs.Prelude.{ℕ, ◌≡◌, List, [], ◌∷◌, Option, Some, None}
use Rattle.naga_oil_ir.specs.ModuleValue.{EntryValue}
use Rattle.naga_oil_ir.specs.declared.module.MeshInfo.{MeshInfo}
use Rattle.naga_oil_ir.specs.declared.names.ItemPlace.TheVariants.{TypeItem, GlobalItem, ExpressionItem}
use Rattle.naga_oil_copy_laws.specs.Scope.{Scope, ReadAlike}

-- both are absent, or both are there and a relation holds of them
abbrev pub BothOrNone : {A B : Type 0} → (A → B → Type 0) → Option A → Option B → Type 0
BothOrNone R None None = Unit {0}
BothOrNone R None (Some y) = ⊥
BothOrNone R (Some x) None = ⊥
BothOrNone R (Some x) (Some y) = R x y

-- two lists have as many elements, and a relation holds of those at each place
abbrev pub PlaceByPlace : {A B : Type 0} → (A → B → Type 0) → List A → List B → Type 0
PlaceByPlace R [] [] = Unit {0}
PlaceByPlace R [] (y ∷ ys) = ⊥
PlaceByPlace R (x ∷ xs) [] = ⊥
PlaceByPlace R (x ∷ xs) (y ∷ ys) = R x y × PlaceByPlace R xs ys

-- optional global expressions that read alike
abbrev pub ExpressionsAlike : Scope → Scope → Option ℕ → Option ℕ → Type 0
ExpressionsAlike a b = BothOrNone (λ k h. ReadAlike a b (ExpressionItem k) (ExpressionItem h))

-- outputs of mesh shaders that read alike
pub record MeshAlike (a b : Scope) (x y : MeshInfo) : Type 0 where
  pub vertex : ReadAlike a b (TypeItem x.vertex_output_type) (TypeItem y.vertex_output_type)
  pub primitive : ReadAlike a b (TypeItem x.primitive_output_type) (TypeItem y.primitive_output_type)
  pub output : ReadAlike a b (GlobalItem x.output) (GlobalItem y.output)
  pub max_vertices : ExpressionsAlike a b x.max_vertices y.max_vertices
  pub max_primitives : ExpressionsAlike a b x.max_primitives y.max_primitives
  pub topology : y.topology ≡ x.topology

-- apart from its function, the entry point y in the scope b is a copy of x in the scope a, whose stage becomes another
pub record EntryAlike (stages : ℕ → ℕ) (a b : Scope) (x y : EntryValue) : Type 0 where
  pub name : y.name ≡ x.name
  pub stage : y.stage ≡ stages x.stage
  pub early_depth_test : y.early_depth_test ≡ x.early_depth_test
  pub workgroup_size : y.workgroup_size ≡ x.workgroup_size
  pub sizes : BothOrNone (PlaceByPlace (ExpressionsAlike a b)) x.workgroup_size_overrides y.workgroup_size_overrides
  pub mesh_info : BothOrNone (MeshAlike a b) x.mesh_info y.mesh_info
  pub task_payload : BothOrNone (λ k h. ReadAlike a b (GlobalItem k) (GlobalItem h)) x.task_payload y.task_payload

-- LAW: a copy of a copy of an entry point is a copy
abbrev pub EntryComposeLaw : Type 0
EntryComposeLaw = (p q : ℕ → ℕ) (a b c : Scope) (x y z : EntryValue) →
    EntryAlike p a b x y → EntryAlike q b c y z → EntryAlike (λ s. q (p s)) a c x z
