-- Which items may stand: the items that they name, and the order and kinds of global expressions.
use Rattle.std.specs.Prelude.{◌≡◌, ◌<◌, ◌⊎◌, ℕ, Bool, true, false, List, ◌++◌, length, map, slice_get, Option, Some, None, option_to_list, is_none, All, IfSome, nat_eq, ◌||◌}
use Rattle.std.specs.List.{filter_map, list_any, IsDistinct}
use Rattle.naga_oil_form.specs.BodyForm.{kinds, operand_links}
use Rattle.naga_oil_ir.specs.Kinds.{global_variable_kind, last_result_kind}
use Rattle.naga_oil_ir.specs.Rows.{Row, type_row, constant_row, override_row, global_row, expression_row}
use Rattle.naga_oil_form.specs.Links.{Links, AreEarlier, AtEach, trail, has, reaches}
use Rattle.naga_oil_ir.specs.declared.module.Module.{Module}
use Rattle.naga_oil_ir.specs.declared.module.SpecialTypes.{SpecialTypes}
use Rattle.naga_oil_ir.specs.declared.expression.Expression.{Expression}
use Rattle.naga_oil_ir.specs.declared.span.Span.{Span}
use Rattle.naga_oil_ir.specs.declared.types.Type.{«Type» as TypeOfShader}
use Rattle.naga_oil_ir.specs.declared.types.Constant.{Constant}
use Rattle.naga_oil_ir.specs.declared.types.Override.{Override}
use Rattle.naga_oil_ir.specs.declared.names.ItemPlace.{ItemPlace}
use Rattle.naga_oil_ir.specs.declared.names.ItemPlace.TheVariants.{TypeItem, ConstantItem, OverrideItem, GlobalItem, ExpressionItem}

-- ---- existing items

-- an item exists
abbrev pub IsThere : Module → ItemPlace → Type 0
IsThere m (TypeItem k) = k < length m.types
IsThere m (ConstantItem k) = k < length m.constants
IsThere m (OverrideItem k) = k < length m.overrides
IsThere m (GlobalItem k) = k < length m.global_variables
IsThere m (ExpressionItem k) = k < length m.global_expressions

-- all that an item names exists
abbrev pub NamesThere : Module → Row → Type 0
NamesThere m r = All (λ o. IfSome o (IsThere m)) r.names

-- ---- types

-- the named type, if the item is a type
abbrev pub type_at : Option ItemPlace → Option ℕ
type_at None = None
type_at (Some (TypeItem k)) = Some k
type_at (Some (ConstantItem k)) = None
type_at (Some (OverrideItem k)) = None
type_at (Some (GlobalItem k)) = None
type_at (Some (ExpressionItem k)) = None

-- the types that an item names
abbrev pub types_named : Row → List ℕ
types_named r = filter_map type_at r.names

-- the types of a module
abbrev pub types_of : Module → List TypeOfShader
types_of m = map (λ e. e.0) m.types

-- for each type the types that it names
abbrev pub type_links : List TypeOfShader → Links
type_links ts = map (λ t. types_named (type_row t)) ts

-- whether an override is named
abbrev pub is_override : Option ItemPlace → Bool
is_override None = false
is_override (Some (TypeItem k)) = false
is_override (Some (ConstantItem k)) = false
is_override (Some (OverrideItem k)) = true
is_override (Some (GlobalItem k)) = false
is_override (Some (ExpressionItem k)) = false

-- for each type whether an override gives its size
abbrev pub pending : List TypeOfShader → List Bool
pending ts = map (λ t. list_any is_override (type_row t).names) ts

-- a type is sized: an override gives its size, or the size of a type that it reaches
abbrev pub is_sized : Module → ℕ → Bool
is_sized m k = reaches (type_links (types_of m)) (pending (types_of m)) k

-- all that an item names exists, and none of it is a type that passes a test
abbrev pub NamesWell : Module → (ℕ → Bool) → Row → Type 0
NamesWell m p r = NamesThere m r × (list_any p (types_named r) ≡ false)

-- what the items name exists, and constants, overrides and global expressions name no sized type
pub record NamesForm (m : Module) : Type 0 where
  pub types : AtEach (λ t. NamesThere m (type_row t)) (types_of m)
  pub constants : AtEach (λ e. NamesWell m (is_sized m) (constant_row e.0)) m.constants
  pub overrides : AtEach (λ e. NamesWell m (is_sized m) (override_row e.0)) m.overrides
  pub globals : AtEach (λ e. NamesThere m (global_row e.0)) m.global_variables
  pub expressions : AtEach (λ e. NamesWell m (is_sized m) (expression_row e.0)) m.global_expressions

-- ---- global expressions

-- the initialiser of a constant, and of an override
abbrev pub init_of_constant : Option (Constant × Span) → Option ℕ
init_of_constant None = None
init_of_constant (Some e) = Some e.0.init

abbrev pub init_of_override : Option (Override × Span) → Option ℕ
init_of_override None = None
init_of_override (Some e) = e.0.init

-- the initialiser of the constant or override that is named
abbrev pub initialiser : Module → Option ItemPlace → Option ℕ
initialiser m None = None
initialiser m (Some (TypeItem k)) = None
initialiser m (Some (ConstantItem k)) = init_of_constant (slice_get m.constants k)
initialiser m (Some (OverrideItem k)) = init_of_override (slice_get m.overrides k)
initialiser m (Some (GlobalItem k)) = None
initialiser m (Some (ExpressionItem k)) = None

-- each expression that names a constant or an override stands after its initialiser
abbrev pub StandAfter : Module → List (Expression × Span) → Type 0
StandAfter m es = (k : ℕ) (e : Expression × Span) → slice_get es k ≡ Some e → All (λ o. IfSome (initialiser m o) (λ i. i < k)) (expression_row e.0).names

-- a global expression is no global, local, argument or result
abbrev pub IsGlobalKind : ℕ → Type 0
IsGlobalKind k = (k < global_variable_kind) ⊎ (last_result_kind < k)

-- global expressions have the kinds of global expressions, and stand after the expressions that they need
pub record ExpressionForm (m : Module) : Type 0 where
  pub earlier_operands : AreEarlier (operand_links m.global_expressions)
  pub after : StandAfter m m.global_expressions
  pub kinds : All IsGlobalKind (kinds m.global_expressions)

-- ---- special types

-- the special types, the three named ones first
abbrev pub special_types : SpecialTypes → List ℕ
special_types s = option_to_list s.ray_desc ++ option_to_list s.ray_intersection ++ option_to_list s.ray_vertex_return ++ map (λ e. e.1) s.predeclared_types.entries

-- a type has no name
abbrev pub is_unnamed : Option TypeOfShader → Bool
is_unnamed None = false
is_unnamed (Some t) = is_none t.name

-- a type is unnamed or special
abbrev pub is_plain : Module → ℕ → Bool
is_plain m k = is_unnamed (slice_get (types_of m) k) || has (special_types m.special_types) k

-- all that some types reach is unnamed or special
abbrev pub ReachPlain : Module → List ℕ → Type 0
ReachPlain m ks = All (λ k. All (λ j. is_plain m j ≡ true) (trail (type_links (types_of m)) k)) ks

-- special types exist, are distinct, aren't sized, and reach only unnamed or special types
pub record SpecialForm (m : Module) : Type 0 where
  pub there : All (λ k. k < length m.types) (special_types m.special_types)
  pub distinct : IsDistinct nat_eq (special_types m.special_types)
  pub unsized : All (λ k. is_sized m k ≡ false) (special_types m.special_types)
  pub plain : ReachPlain m (special_types m.special_types)

-- the test of form of the items
pub record ItemForm (m : Module) : Type 0 where
  pub earlier_types : AreEarlier (type_links (types_of m))
  pub names : NamesForm m
  pub expressions : ExpressionForm m
  pub special : SpecialForm m
