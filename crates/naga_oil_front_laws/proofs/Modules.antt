-- Modules that have the shape of modules stay so as items are added.
use Rattle.std.proofs.Common.{◌≡◌, ℕ, true, List, [], ◌∷◌, ◌++◌, map, nat_eq, Option, Some, None, option_map, slice_get, refl, subst, All, IfSome}
use Rattle.std.specs.List.{IsDistinct}
use Rattle.std.proofs.lemmas.List.Elements.{All-nil, All-cons, All-push}
use Rattle.naga_oil_ir.specs.ModuleValue.{ModuleValue, FunctionValue, EntryValue, no_items}
use Rattle.naga_oil_ir.specs.Parts.{Parts}
use Rattle.naga_oil_ir.specs.Rows.{Row, Text, row, TypeKind, ConstantKind, GlobalKind, parts_row}
use Rattle.naga_oil_ir.specs.declared.names.ItemPlace.{ItemPlace}
use Rattle.naga_oil_ir.specs.declared.names.ItemPlace.TheVariants.{TypeItem, ConstantItem, OverrideItem, GlobalItem, ExpressionItem}
use Rattle.naga_oil_ir.specs.declared.span.Span.{Span}
use Rattle.naga_oil_derive.specs.World.{world}
use Rattle.naga_oil_derive.specs.CopiedLaw.{kind_number, place_number, IsKinded}
use Rattle.naga_oil_form_laws.proofs.ParsedItems.{one_row}
use Rattle.naga_oil_form_laws.proofs.RequestLemmas.{all_at}
use Rattle.naga_oil_form_laws.specs.ItemsStand.{may_name_kind}
use Rattle.naga_oil_form_laws.specs.Shape.{NamesAsType, NamesTypeAndValue, NamesGlobalAsGlobal, HasFunctionShape, HasModuleShape}

-- a row is of a kind, by number
abbrev IsOfKind : ℕ → Row → Type 0
IsOfKind n r = kind_number r.label.kind ≡ n

-- each row is among those of its kind
pub record AreRowsInPlace (m : ModuleValue) : Type 0 where
  pub types : All (λ e. IsOfKind 0 e.0) m.types
  pub constants : All (λ e. IsOfKind 1 e.0) m.constants
  pub overrides : All (λ e. IsOfKind 2 e.0) m.overrides
  pub globals : All (λ e. IsOfKind 3 e.0) m.global_variables

row_at : (n : ℕ) (rs : List (Row × Span)) (k : ℕ) (r : Row) → All (λ e. IsOfKind n e.0) rs → option_map (λ (e : Row × Span). e.0) (slice_get rs k) ≡ Some r → IsOfKind n r
row_at n rs k r a e = let x = one_row (λ (y : Row). y) (slice_get rs k) r e in subst (IsOfKind n) x.2 (all_at (λ (y : Row × Span). IsOfKind n y.0) rs k x.0 a x.1)

kinds_by_rows : (m : ModuleValue) → AreRowsInPlace m → IsKinded m
unfolding world
kinds_by_rows m a (TypeItem k) r e = row_at 0 m.types k r a.types e
kinds_by_rows m a (ConstantItem k) r e = row_at 1 m.constants k r a.constants e
kinds_by_rows m a (OverrideItem k) r e = row_at 2 m.overrides k r a.overrides e
kinds_by_rows m a (GlobalItem k) r e = row_at 3 m.global_variables k r a.globals e
kinds_by_rows m a (ExpressionItem k) r e = let x = one_row parts_row (slice_get m.global_expressions k) r e in subst (IsOfKind 4) x.2 refl

-- all parts of a module's shape, with kinds listed by list
pub record IsInShape (m : ModuleValue) : Type 0 where
  pub rows : AreRowsInPlace m
  pub keys : IsDistinct nat_eq (map (λ e. e.0) m.special_types.predeclared_types)
  pub types : All (λ e. NamesAsType e.0.names) m.types
  pub constants : All (λ e. NamesTypeAndValue e.0.names) m.constants
  pub overrides : All (λ e. NamesTypeAndValue e.0.names) m.overrides
  pub globals : All (λ e. NamesTypeAndValue e.0.names) m.global_variables
  pub global_expressions : All (λ e. NamesGlobalAsGlobal e.0) m.global_expressions
  pub functions : All (λ e. HasFunctionShape e.0) m.functions
  pub entry_points : All (λ e. HasFunctionShape e.function) m.entry_points

pub shape_of : (m : ModuleValue) → IsInShape m → HasModuleShape m
shape_of m s = record {
  kinds = kinds_by_rows m s.rows;
  keys = s.keys;
  types = s.types;
  constants = s.constants;
  overrides = s.overrides;
  globals = s.globals;
  global_expressions = s.global_expressions;
  functions = s.functions;
  entry_points = s.entry_points;
}

-- ---- no items but a scalar

abbrev pub scalar_only : Span → ModuleValue
scalar_only at = record no_items { types = (row (TypeKind 0) None (Some 1 ∷ []) [] [], at) ∷ [] }

pub start_shape : (at : Span) → IsInShape (scalar_only at)
unfolding IsDistinct
start_shape at = record {
  rows = record {
    types = All-cons (λ (e : Row × Span). IsOfKind 0 e.0) _ [] refl (All-nil (λ (e : Row × Span). IsOfKind 0 e.0));
    constants = All-nil (λ (e : Row × Span). IsOfKind 1 e.0);
    overrides = All-nil (λ (e : Row × Span). IsOfKind 2 e.0);
    globals = All-nil (λ (e : Row × Span). IsOfKind 3 e.0);
  };
  keys = tt;
  types = All-cons (λ (e : Row × Span). NamesAsType e.0.names) _ [] (All-nil (λ (o : Option ItemPlace). IfSome o (λ q. may_name_kind 0 (place_number q) ≡ true))) (All-nil (λ (e : Row × Span). NamesAsType e.0.names));
  constants = All-nil (λ (e : Row × Span). NamesTypeAndValue e.0.names);
  overrides = All-nil (λ (e : Row × Span). NamesTypeAndValue e.0.names);
  globals = All-nil (λ (e : Row × Span). NamesTypeAndValue e.0.names);
  global_expressions = All-nil (λ (e : Parts × Span). NamesGlobalAsGlobal e.0);
  functions = All-nil (λ (e : FunctionValue × Span). HasFunctionShape e.0);
  entry_points = All-nil (λ (e : EntryValue). HasFunctionShape e.function);
}

-- ---- an item more

-- a constant, an override or a global of a type and an initialiser
names_value : (ty value : ℕ) → NamesTypeAndValue (Some (TypeItem ty) ∷ Some (ExpressionItem value) ∷ [])
names_value ty value = record { ty = ty; value = Some value; are = refl }

pub constant_shape : (m : ModuleValue) (p : Parts) (n : Text) (ty value : ℕ) (at to : Span) → NamesGlobalAsGlobal p → IsInShape m → IsInShape (record m {
  global_expressions = m.global_expressions ++ (p, at) ∷ [];
  constants = m.constants ++ (row ConstantKind n [] [] (Some (TypeItem ty) ∷ Some (ExpressionItem value) ∷ []), to) ∷ [];
})
constant_shape m p n ty value at to g s = record {
  rows = record { types = s.rows.types; constants = All-push (λ (e : Row × Span). IsOfKind 1 e.0) m.constants _ s.rows.constants refl; overrides = s.rows.overrides; globals = s.rows.globals };
  keys = s.keys;
  types = s.types;
  constants = All-push (λ (e : Row × Span). NamesTypeAndValue e.0.names) m.constants _ s.constants (names_value ty value);
  overrides = s.overrides;
  globals = s.globals;
  global_expressions = All-push (λ (e : Parts × Span). NamesGlobalAsGlobal e.0) m.global_expressions (p, at) s.global_expressions g;
  functions = s.functions;
  entry_points = s.entry_points;
}

pub global_shape : (m : ModuleValue) (p : Parts) (n : Text) (ns : List (Option ℕ)) (ty value : ℕ) (at to : Span) → NamesGlobalAsGlobal p → IsInShape m → IsInShape (record m {
  global_expressions = m.global_expressions ++ (p, at) ∷ [];
  global_variables = m.global_variables ++ (row GlobalKind n ns [] (Some (TypeItem ty) ∷ Some (ExpressionItem value) ∷ []), to) ∷ [];
})
global_shape m p n ns ty value at to g s = record {
  rows = record { types = s.rows.types; constants = s.rows.constants; overrides = s.rows.overrides; globals = All-push (λ (e : Row × Span). IsOfKind 3 e.0) m.global_variables _ s.rows.globals refl };
  keys = s.keys;
  types = s.types;
  constants = s.constants;
  overrides = s.overrides;
  globals = All-push (λ (e : Row × Span). NamesTypeAndValue e.0.names) m.global_variables _ s.globals (names_value ty value);
  global_expressions = All-push (λ (e : Parts × Span). NamesGlobalAsGlobal e.0) m.global_expressions (p, at) s.global_expressions g;
  functions = s.functions;
  entry_points = s.entry_points;
}

pub function_shape : (m : ModuleValue) (f : FunctionValue) (at : Span) → HasFunctionShape f → IsInShape m → IsInShape (record m { functions = m.functions ++ (f, at) ∷ [] })
function_shape m f at h s = record {
  rows = record { types = s.rows.types; constants = s.rows.constants; overrides = s.rows.overrides; globals = s.rows.globals };
  keys = s.keys;
  types = s.types;
  constants = s.constants;
  overrides = s.overrides;
  globals = s.globals;
  global_expressions = s.global_expressions;
  functions = All-push (λ (e : FunctionValue × Span). HasFunctionShape e.0) m.functions (f, at) s.functions h;
  entry_points = s.entry_points;
}

pub entry_shape : (m : ModuleValue) (e : EntryValue) → HasFunctionShape e.function → IsInShape m → IsInShape (record m { entry_points = m.entry_points ++ e ∷ [] })
entry_shape m e h s = record {
  rows = record { types = s.rows.types; constants = s.rows.constants; overrides = s.rows.overrides; globals = s.rows.globals };
  keys = s.keys;
  types = s.types;
  constants = s.constants;
  overrides = s.overrides;
  globals = s.globals;
  global_expressions = s.global_expressions;
  functions = s.functions;
  entry_points = All-push (λ (x : EntryValue). HasFunctionShape x.function) m.entry_points e s.entry_points h;
}
