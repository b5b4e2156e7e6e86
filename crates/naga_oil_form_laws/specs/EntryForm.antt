-- Which entry points and modules pass the test of form, and that the module that a derived module becomes does.
use Rattle.std.specs.Prelude.{◌≡◌, ◌<◌, ◌≤◌, ℕ, nat_eq, List, [], length, slice_get, Option, Some, unwrap_or, codes, All, IfSome, IsSome}
use Rattle.std.specs.List.{IsDistinct}
use Rattle.naga_oil_form.specs.ItemForm.{special_types}
use Rattle.naga_oil_ir.specs.ModuleValue.{ModuleValue, EntryValue}
use Rattle.naga_oil_form.specs.WellFormed.{SpanForm, FunctionsForm, EntryForm, WellFormed}
use Rattle.naga_oil_form.specs.NameForm.{NameForm}
use Rattle.naga_oil_ir.specs.declared.module.MeshInfo.{MeshInfo}
use Rattle.naga_oil_ir.specs.declared.module.Module.{Module}
use Rattle.naga_oil_ir.specs.Spans.{u32_max}
use Rattle.naga_oil_derive.specs.CopiedEntry.{make_module}
use Rattle.naga_oil_derive.specs.Copyable.{CopyableItems}
use Rattle.naga_oil_derive.specs.Derived.{Derived}
use Rattle.naga_oil_derive.specs.Tree.{Kept}
use Rattle.naga_oil_derive.specs.World.{value_of}
use Rattle.naga_oil_form_laws.specs.DerivedForm.{IsFormed}
use Rattle.naga_oil_form_laws.specs.FunctionForm.{IsFunctionFormed, AreFunctionsFormed}
use Rattle.naga_oil_form_laws.specs.ItemsStand.{AreFormed}

-- a global expression that may be named is there
abbrev pub IsExpressionIn : ModuleValue → Option ℕ → Type 0
IsExpressionIn m o = IfSome o (λ k. k < length m.global_expressions)

-- what a mesh shader's output names is there
pub record IsMeshFormed (m : ModuleValue) (i : MeshInfo) : Type 0 where
  pub vertex : i.vertex_output_type < length m.types
  pub primitive : i.primitive_output_type < length m.types
  pub output : i.output < length m.global_variables
  pub max_vertices : IsExpressionIn m i.max_vertices
  pub max_primitives : IsExpressionIn m i.max_primitives

-- the test of form of an entry point
pub record IsEntryFormed (m : ModuleValue) (n : ℕ) (e : EntryValue) : Type 0 where
  pub function : IsFunctionFormed m (length m.functions) n e.function
  pub workgroup_size : IfSome e.workgroup_size_overrides (λ os. All (IsExpressionIn m) os)
  pub mesh_info : IfSome e.mesh_info (IsMeshFormed m)
  pub task_payload : IfSome e.task_payload (λ k. k < length m.global_variables)

-- the name of an entry point's function, `main` if it has none
abbrev pub entry_name : EntryValue → List ℕ
entry_name e = unwrap_or e.function.name (codes "main")

-- the entry points of a module pass the test of form, and no two have the same name
pub record AreEntriesFormed (m : ModuleValue) (n : ℕ) : Type 0 where
  pub forms : All (IsEntryFormed m n) m.entry_points
  pub distinct :
      (j k : ℕ) (e f : EntryValue) → slice_get m.entry_points j ≡ Some e → slice_get m.entry_points k ≡ Some f →
      entry_name e ≡ entry_name f → j ≡ k

-- a module passes the test of form over the joined texts of all modules, except that two of its special types may be one type;
-- such a module may be copied
pub record IsModuleFormed (m : ModuleValue) : Type 0 where
  pub items : AreFormed m
  pub functions : AreFunctionsFormed m u32_max
  pub entry_points : AreEntriesFormed m u32_max

-- LAW: a derived module of good form becomes a module of good form, with copies of its source's entry points
abbrev pub MakeLaw : Type 0
MakeLaw =
    (first : Kept) (d : Derived) → IsFormed first d → IsSome d.source →
    IfSome d.source (λ s. AreEntriesFormed s.value u32_max) → IsModuleFormed (make_module d)

-- LAW: the value of a module that passes the test of form under a decoration, over a text that spans can cover, is formed
abbrev pub ParsedLaw : Module → Type 0
ParsedLaw m = (decoration : List ℕ) (n : ℕ) → n ≤ u32_max → WellFormed m decoration n → IsModuleFormed (value_of m)

-- LAW: the items of a module whose value is formed can be copied
abbrev pub CopyableModuleLaw : Type 0
CopyableModuleLaw = (m : Module) → AreFormed (value_of m) → CopyableItems m

-- LAW: a module whose value is formed passes the test of form over the texts of all modules, if its special types are distinct
abbrev pub WellFormedLaw : Type 0
WellFormedLaw =
    (m : Module) → IsModuleFormed (value_of m) → IsDistinct nat_eq (special_types m.special_types) →
    WellFormed m [] u32_max

-- what copying and redirecting require of a module: the test of form, except that two of its special types may be one type
pub record MayBeCopiedFrom (m : Module) : Type 0 where
  pub items : CopyableItems m
  pub spans : SpanForm m u32_max
  pub names : NameForm m []
  pub functions : FunctionsForm m u32_max m.functions
  pub entry_points : All (EntryForm m u32_max) m.entry_points.items

-- LAW: each module whose value is formed may be copied and redirected
abbrev pub CopiedFromLaw : Type 0
CopiedFromLaw = (m : Module) → IsModuleFormed (value_of m) → MayBeCopiedFrom m
