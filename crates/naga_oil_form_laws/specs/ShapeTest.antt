-- Whether plain data has the shape of a module, as a value.
use Rattle.std.specs.Prelude.{ℕ, ◌≡◌, ◌==◌, ◌&&◌, ◌||◌, Bool, true, false, not, List, [], ◌∷◌, map, nat_eq, nat_lt, Option, Some, None, option_to_list, Decides}
use Rattle.std.specs.List.{flat_map, list_all, list_any}
use Rattle.naga_oil_form.specs.BodyForm.{result_kind}
use Rattle.naga_oil_form.specs.FormItems.{are_distinct}
use Rattle.naga_oil_form.specs.FormParts.{passes_if_there}
use Rattle.naga_oil_ir.specs.Body.{Tokens}
use Rattle.naga_oil_ir.specs.Kinds.{global_variable_kind, first_operation_kind}
use Rattle.naga_oil_ir.specs.ModuleValue.{ModuleValue, FunctionValue}
use Rattle.naga_oil_ir.specs.Parts.{Parts}
use Rattle.naga_oil_ir.specs.Rows.{Row, parts_row}
use Rattle.naga_oil_ir.specs.declared.names.ItemPlace.{ItemPlace}
use Rattle.naga_oil_ir.specs.declared.names.ItemPlace.TheVariants.{TypeItem, ConstantItem, OverrideItem, GlobalItem, ExpressionItem}
use Rattle.naga_oil_ir.specs.declared.parts.Named.{Named}
use Rattle.naga_oil_ir.specs.declared.parts.Named.TheVariants.{Nothing, TypeOf, ConstantAt, OverrideAt, GlobalAt, LocalAt, ArgumentAt, FunctionAt}
use Rattle.naga_oil_ir.specs.declared.tokens.Token.{Token}
use Rattle.naga_oil_ir.specs.declared.tokens.Token.TheVariants.{At, Head, Plain, Flag, Absent, Use, Give, GiveCall, Emitted, Callee, Open, Close}
use Rattle.naga_oil_derive.specs.CopiedLaw.{place_number, kind_number}
use Rattle.naga_oil_form_laws.specs.ItemsStand.{may_name_kind}
use Rattle.naga_oil_form_laws.specs.Shape.{HasModuleShape}

-- ---- items

-- whether an item is of the kind with a number
abbrev pub is_of_kind : ℕ → Row → Bool
is_of_kind n r = kind_number r.label.kind == n

-- whether each item stands among those of its kind
abbrev pub are_of_their_kinds : ModuleValue → Bool
are_of_their_kinds m =
    list_all (λ e. is_of_kind 0 e.0) m.types && list_all (λ e. is_of_kind 1 e.0) m.constants && list_all (λ e. is_of_kind 2 e.0) m.overrides
    && list_all (λ e. is_of_kind 3 e.0) m.global_variables && list_all (λ e. is_of_kind 4 (parts_row e.0)) m.global_expressions

-- whether only types and overrides are named
abbrev pub names_as_type : List (Option ItemPlace) → Bool
names_as_type names = list_all (passes_if_there (λ q. may_name_kind 0 (place_number q))) names

abbrev pub is_type_place : Option ItemPlace → Bool
is_type_place None = false
is_type_place (Some (TypeItem k)) = true
is_type_place (Some (ConstantItem k)) = false
is_type_place (Some (OverrideItem k)) = false
is_type_place (Some (GlobalItem k)) = false
is_type_place (Some (ExpressionItem k)) = false

abbrev pub is_expression_place : ItemPlace → Bool
is_expression_place (TypeItem k) = false
is_expression_place (ConstantItem k) = false
is_expression_place (OverrideItem k) = false
is_expression_place (GlobalItem k) = false
is_expression_place (ExpressionItem k) = true

-- whether a type and an optional expression are named, in this order
abbrev pub names_type_and_value : List (Option ItemPlace) → Bool
names_type_and_value [] = false
names_type_and_value (t ∷ []) = false
names_type_and_value (t ∷ v ∷ []) = is_type_place t && passes_if_there is_expression_place v
names_type_and_value (t ∷ v ∷ x ∷ names) = false

-- ---- expressions

-- whether a global is named
abbrev pub is_global_name : Named → Bool
is_global_name (GlobalAt g) = true
is_global_name Nothing = false
is_global_name (TypeOf k) = false
is_global_name (ConstantAt k) = false
is_global_name (OverrideAt k) = false
is_global_name (LocalAt k) = false
is_global_name (ArgumentAt k) = false
is_global_name (FunctionAt k) = false

-- whether a function is named
abbrev pub is_function_name : Named → Bool
is_function_name (FunctionAt f) = true
is_function_name Nothing = false
is_function_name (TypeOf k) = false
is_function_name (ConstantAt k) = false
is_function_name (OverrideAt k) = false
is_function_name (GlobalAt k) = false
is_function_name (LocalAt k) = false
is_function_name (ArgumentAt k) = false

-- whether an expression that names a global is of that kind
abbrev pub names_global_as_global : Parts → Bool
names_global_as_global p = not (is_global_name p.named) || (p.kind == global_variable_kind)

-- whether an expression that names a function is a result
abbrev pub names_function_as_result : Parts → Bool
names_function_as_result p = not (is_function_name p.named) || result_kind (Some p.kind)

-- whether an expression has no operands, or is neither external nor a result
abbrev pub stands_alone : Parts → Bool
stands_alone p = not (nat_lt p.kind first_operation_kind) || has_none (flat_map option_to_list p.operands)
  where
    has_none : List ℕ → Bool
    has_none [] = true
    has_none (x ∷ xs) = false

-- ---- bodies

-- whether a part of a body calls the function f
abbrev pub is_call_of : ℕ → Token → Bool
is_call_of f (Callee g) = g == f
is_call_of f (At s) = false
is_call_of f (Head k) = false
is_call_of f (Plain k) = false
is_call_of f (Flag b) = false
is_call_of f Absent = false
is_call_of f (Use h) = false
is_call_of f (Give h) = false
is_call_of f (GiveCall g h) = false
is_call_of f (Emitted r) = false
is_call_of f Open = false
is_call_of f Close = false

-- whether the function whose result a part takes is called in the body
abbrev pub is_result_of_call : Tokens → Token → Bool
is_result_of_call ts (GiveCall f h) = list_any (is_call_of f) ts
is_result_of_call ts (Callee f) = true
is_result_of_call ts (At s) = true
is_result_of_call ts (Head k) = true
is_result_of_call ts (Plain k) = true
is_result_of_call ts (Flag b) = true
is_result_of_call ts Absent = true
is_result_of_call ts (Use h) = true
is_result_of_call ts (Give h) = true
is_result_of_call ts (Emitted r) = true
is_result_of_call ts Open = true
is_result_of_call ts Close = true

-- ---- modules

-- whether a function has the shape of functions
abbrev pub has_function_shape : FunctionValue → Bool
has_function_shape f =
    list_all (λ e. names_function_as_result e.0) f.expressions && list_all (is_result_of_call f.body) f.body && list_all (λ e. stands_alone e.0) f.expressions

-- whether plain data has the shape of a module
unfoldable pub has_shape : ModuleValue → Bool
has_shape m =
    are_of_their_kinds m && are_distinct nat_eq (map (λ e. e.0) m.special_types.predeclared_types)
    && list_all (λ e. names_as_type e.0.names) m.types && list_all (λ e. names_type_and_value e.0.names) m.constants
    && list_all (λ e. names_type_and_value e.0.names) m.overrides && list_all (λ e. names_type_and_value e.0.names) m.global_variables
    && list_all (λ e. names_global_as_global e.0) m.global_expressions && list_all (λ e. has_function_shape e.0) m.functions
    && list_all (λ e. has_function_shape e.function) m.entry_points

-- LAW: the test decides whether plain data has the shape of a module
abbrev pub ShapeTestLaw : Type 0
ShapeTestLaw = (m : ModuleValue) → Decides (has_shape m) (HasModuleShape m)
