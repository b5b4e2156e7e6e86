-- What is known of the types of values: whether they have members, and which.
use Rattle.std.specs.Prelude.{ℕ, ◌==◌, ◌&&◌, ◌||◌, not, nat_lt, nat_le, if◌then◌else◌, Bool, List, [], ◌∷◌, map, Option, Some, None, slice_get, codes}
use Rattle.naga_oil_ir.specs.Parts.{Parts}
use Rattle.naga_oil_ir.specs.Rows.{Row, Member, Kind, TypeKind, member_label, member_type}
use Rattle.naga_oil_ir.specs.declared.module.FunctionResult.{FunctionResult}
use Rattle.naga_oil_ir.specs.declared.names.ItemPlace.{ItemPlace}
use Rattle.naga_oil_ir.specs.declared.names.ItemPlace.TheVariants.{TypeItem}
use Rattle.naga_oil_ir.specs.declared.parts.Named.{Named}
use Rattle.naga_oil_ir.specs.declared.parts.Named.TheVariants.{Nothing, TypeOf, ConstantAt, OverrideAt, GlobalAt, LocalAt, ArgumentAt, FunctionAt}
use Rattle.naga_oil_ir.specs.declared.types.StructMember.{StructMember}
use Rattle.naga_oil_ir.specs.declared.span.Span.{Span}
use Rattle.yettuvam_wgsl_names.specs.Table.{Name}
use Rattle.yettuvam_wgsl_written.specs.Codes.{component_name}
use Rattle.yettuvam_wgsl_write_types.specs.Types.{scalar_kind, pointer_kind, array_kind, binding_array_kind, first_mark}
use Rattle.yettuvam_wgsl_write_types.specs.Results.{first_result, result_member_name, modf_result, frexp_result}
use Rattle.yettuvam_wgsl_write_expressions.specs.Context.{Context, Scope, type_at, constant_at, override_at, global_at, result_at}
use Rattle.yettuvam_wgsl_write_expressions.specs.Kinds.{access_kind, member_kind, load_kind, math_kind, conversion_kind, modf_code, frexp_code, bitcast_conversion, typed_let, typed_const}
use Rattle.yettuvam_wgsl_write_expressions.specs.declared.shapes.Shape.{Shape}
use Rattle.yettuvam_wgsl_write_expressions.specs.declared.shapes.Shape.TheVariants as shape

abbrev pub struct_kind : ℕ
struct_kind = 10

-- ---- types by their rows

-- a pointer type is seen as what it is a pointer to, and a mark of a `let` or of a `const` with a type as the type
abbrev pub passes : ℕ → Bool
passes space = nat_lt space first_mark || ((space == typed_let) || (space == typed_const))

abbrev pub pointed : ℕ → List (Option ℕ) → List (Option ItemPlace) → ℕ
pointed ty (Some space ∷ []) (Some (TypeItem base) ∷ []) = if passes space then base else ty
pointed ty _ _ = ty

abbrev pub shown_by : ℕ → Kind → List (Option ℕ) → List (Option ItemPlace) → ℕ
shown_by ty (TypeKind kind) plain names = if kind == pointer_kind then pointed ty plain names else ty
shown_by ty _ plain names = ty

-- the type that a type is seen as
abbrev pub shown : ℕ → Row → ℕ
shown ty r = shown_by ty r.label.kind r.label.plain r.names

abbrev pub shown_at : ℕ → Option Row → ℕ
shown_at ty (Some r) = shown ty r
shown_at ty None = ty

-- the shape of values of a type
unfoldable pub of_type : Context → ℕ → Shape
of_type c ty = shape.Of (shown_at ty (type_at c ty))

-- ---- elements and members

abbrev pub shape_by : Option Shape → Shape
shape_by (Some s) = s
shape_by None = shape.Plain

-- the shape of an earlier expression
abbrev pub shape_at : Scope → ℕ → Shape
shape_at s h = shape_by (slice_get s.shapes h)

abbrev pub base_shape : Context → List (Option ItemPlace) → Shape
base_shape c (Some (TypeItem base) ∷ more) = of_type c base
base_shape c _ = shape.Plain

abbrev pub is_array : ℕ → Bool
is_array kind = (kind == array_kind) || (kind == binding_array_kind)

abbrev pub element_by : Context → Kind → List (Option ItemPlace) → Shape
element_by c (TypeKind kind) names = if is_array kind then base_shape c names else shape.Plain
element_by c _ names = shape.Plain

abbrev pub element_of : Context → Row → Shape
element_of c r = element_by c r.label.kind r.names

abbrev pub element_at : Context → Option Row → Shape
element_at c (Some r) = element_of c r
element_at c None = shape.Plain

-- the shape of an element of a value
abbrev pub element : Context → Shape → Shape
element c (shape.Of ty) = element_at c (type_at c ty)
element c _ = shape.Plain

abbrev pub place_shape : Context → Option (Option ItemPlace) → Shape
place_shape c (Some (Some (TypeItem ty))) = of_type c ty
place_shape c _ = shape.Plain

abbrev pub named_type : Context → List (Option ItemPlace) → ℕ → Shape
named_type c names index = place_shape c (slice_get names index)

abbrev pub member_by : Context → Kind → List (Option ItemPlace) → ℕ → Shape
member_by c (TypeKind kind) names index = if kind == struct_kind then named_type c names index else shape.Plain
member_by c _ names index = shape.Plain

abbrev pub member_of : Context → Row → ℕ → Shape
member_of c r index = member_by c r.label.kind r.names index

abbrev pub member_at : Context → Option Row → ℕ → Shape
member_at c (Some r) index = member_of c r index
member_at c None index = shape.Plain

-- the shape of a member of a value
abbrev pub member : Context → Shape → ℕ → Shape
member c (shape.Of ty) index = member_at c (type_at c ty) index
member c _ index = shape.Plain

-- ---- expressions

-- the shape of an item with a row, whose type is what it names first
abbrev pub item_shape : Context → Option Row → Shape
item_shape c (Some r) = base_shape c r.names
item_shape c None = shape.Plain

abbrev pub constant_shape : Context → ℕ → Shape
constant_shape c place = item_shape c (constant_at c place)

abbrev pub override_shape : Context → ℕ → Shape
override_shape c place = item_shape c (override_at c place)

abbrev pub global_shape : Context → ℕ → Shape
global_shape c place = item_shape c (global_at c place)

abbrev pub typed_shape : Context → Option ℕ → Shape
typed_shape c (Some ty) = of_type c ty
typed_shape c None = shape.Plain

abbrev pub argument_shape : Scope → ℕ → Shape
argument_shape s place = typed_shape s.context (slice_get s.argument_types place)

abbrev pub local_by : Option ℕ → Shape
local_by (Some ty) = shape.Of ty
local_by None = shape.Plain

abbrev pub local_shape : List ℕ → ℕ → Shape
local_shape locals place = local_by (slice_get locals place)

abbrev pub shape_of_result : Context → Option FunctionResult → Shape
shape_of_result c (Some r) = of_type c r.ty
shape_of_result c None = shape.Plain

abbrev pub result_shape : Context → ℕ → Shape
result_shape c place = shape_of_result c (result_at c place)

abbrev pub math_shape : List ℕ → Shape
math_shape (fun ∷ []) = if fun == modf_code then shape.Result modf_result else (if fun == frexp_code then shape.Result frexp_result else shape.Plain)
math_shape _ = shape.Plain

-- a copy has the shape of the value
abbrev pub conversion_shape : Scope → (h convert : ℕ) → Shape
conversion_shape s h convert = if convert == bitcast_conversion then shape.Plain else shape_at s h

-- with the plain values
abbrev pub with_one : (ℕ → Shape) → List ℕ → Shape
with_one f (n ∷ []) = f n
with_one f _ = shape.Plain

abbrev pub with_second : (ℕ → Shape) → List ℕ → Shape
with_second f (m ∷ n ∷ []) = f n
with_second f _ = shape.Plain

-- the shape of an operation by its kind
abbrev pub operation_shape : Scope → ℕ → List ℕ → List (Option ℕ) → Shape
operation_shape s kind plain (Some h ∷ more) =
    if kind == access_kind then element s.context (shape_at s h)
    else (if kind == member_kind then with_one (member s.context (shape_at s h)) plain
    else (if kind == load_kind then shape_at s h
    else (if kind == math_kind then math_shape plain
    else (if kind == conversion_kind then with_second (conversion_shape s h) plain else shape.Plain))))
operation_shape s kind plain _ = shape.Plain

abbrev pub named_shape : Scope → List ℕ → Named → Parts → Shape
named_shape s locals (TypeOf ty) p = of_type s.context ty
named_shape s locals (ConstantAt c) p = constant_shape s.context c
named_shape s locals (OverrideAt o) p = override_shape s.context o
named_shape s locals (GlobalAt g) p = global_shape s.context g
named_shape s locals (LocalAt l) p = local_shape locals l
named_shape s locals (ArgumentAt n) p = argument_shape s n
named_shape s locals (FunctionAt f) p = result_shape s.context f
named_shape s locals Nothing p = operation_shape s p.kind p.plain p.operands

-- the shape of an expression; `locals` are the types of the function's locals
unfoldable pub shape_of : Scope → (locals : List ℕ) → Parts → Shape
shape_of s locals p = named_shape s locals p.named p

-- ---- names of members

abbrev pub member_labels : List StructMember → List Member
member_labels ms = map member_label ms

abbrev pub member_types : List StructMember → List (Option ItemPlace)
member_types ms = map member_type ms

abbrev pub label_by : Option Member → Option Name
label_by (Some m) = m.name
label_by None = None

abbrev pub label_name : List Member → ℕ → Option Name
label_name members index = label_by (slice_get members index)

-- a result of a built-in function has members, and vectors have components
abbrev pub scalar_member : (code index : ℕ) → Option Name
scalar_member code index = if nat_le first_result code then result_member_name code index else component_name index

abbrev pub scalar_by : List (Option ℕ) → ℕ → Option Name
scalar_by (Some code ∷ []) index = scalar_member code index
scalar_by _ index = component_name index

abbrev pub member_name_by : Kind → List (Option ℕ) → List Member → ℕ → Option Name
member_name_by (TypeKind kind) plain members index =
    if kind == struct_kind then label_name members index
    else (if kind == scalar_kind then scalar_by plain index else component_name index)
member_name_by _ plain members index = component_name index

-- the name of a member of a value of a type
abbrev pub member_name_of : Row → ℕ → Option Name
member_name_of r index = member_name_by r.label.kind r.label.plain r.label.members index

abbrev pub member_name_at : Option Row → ℕ → Option Name
member_name_at (Some r) index = member_name_of r index
member_name_at None index = None

abbrev pub name_in : Context → Shape → ℕ → Option Name
name_in c shape.Plain index = component_name index
name_in c (shape.Result code) index = result_member_name code index
name_in c (shape.Of ty) index = member_name_at (type_at c ty) index

-- the name of a member of an earlier expression
unfoldable pub member_name : Scope → (base index : ℕ) → Option Name
member_name s base index = name_in s.context (shape_at s base) index
