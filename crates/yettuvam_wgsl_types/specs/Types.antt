-- The types of a module, each once, and their shapes.
use Rattle.std.specs.Prelude.{◌≡◌, ℕ, ◌*◌, min, Bool, true, false, if◌then◌else◌, ◌==◌, nat_le, nat_lt, List, [], ◌∷◌, ◌++◌, map, position, slice_get, Option, Some, None, option_map, Result, Ok, Err, Vec, codes}
use Rattle.std.specs.declared.alloc.Global.{Global}
use Rattle.std.specs.declared.alloc.AllocError.{AllocError}
use Rattle.naga_oil_ir.specs.Places.{place_of, with_element}
use Rattle.naga_oil_ir.specs.Rows.{Row, Member as Label, Kind, TypeKind, row, type_row, member_label, member_type, size_plain, size_name}
use Rattle.naga_oil_ir.specs.Spans.{undefined}
use Rattle.naga_oil_ir.specs.declared.names.ItemPlace.{ItemPlace}
use Rattle.naga_oil_ir.specs.declared.names.ItemPlace.TheVariants.{TypeItem}
use Rattle.naga_oil_ir.specs.declared.span.Span.{Span}
use Rattle.naga_oil_ir.specs.declared.types.ArraySize.{ArraySize}
use Rattle.naga_oil_ir.specs.declared.types.StructMember.{StructMember}
use Rattle.yettuvam_wgsl_types.specs.SameRow.{same_row, same_text}
use Rattle.yettuvam_wgsl_types.specs.declared.shape.Shape.{Shape}
use Rattle.yettuvam_wgsl_types.specs.declared.shape.Shape.TheVariants.{Plain, Of}
use Rattle.yettuvam_wgsl_types.specs.declared.types.Member.{Member}
use Rattle.yettuvam_wgsl_types.specs.declared.types.Member.TheVariants.{Typed, Untyped, Missing, NoStruct}
use Rattle.yettuvam_wgsl_types.specs.declared.types.PlainType.{PlainType}
use Rattle.yettuvam_wgsl_types.specs.declared.types.PlainType.TheVariants.{Scalar, Vector, Matrix, Image, Sampler, Atomic}
use Rattle.yettuvam_wgsl_types.specs.declared.types.Types.{Types}

abbrev pub Text : Type 0
Text = List ℕ

-- ---- the state

-- a member of a struct: its label and its type
abbrev pub MemberValue : Type 0
MemberValue = Label × Option ItemPlace

pub record State : Type 0 where
  pub types : List (Row × Span)
  -- the members of the struct that is read
  pub members : List MemberValue

abbrev pub member_of : StructMember → MemberValue
member_of m = (member_label m, member_type m)

abbrev pub members_of : Vec StructMember Global → List MemberValue
members_of v = map member_of v.items

abbrev pub state_of : Types → State
state_of t = record { types = map (λ e. (type_row e.0, e.1)) t.types; members = members_of t.members }

abbrev pub none : State
none = record { types = []; members = [] }

-- ---- rows of types

-- a type without a name and without a base
abbrev pub plain_row : PlainType → Row
plain_row (Scalar code) = row (TypeKind 0) None (Some code ∷ []) [] []
plain_row (Vector code) = row (TypeKind 1) None (Some code ∷ []) [] []
plain_row (Matrix code) = row (TypeKind 2) None (Some code ∷ []) [] []
plain_row (Image code) = row (TypeKind 4) None (Some code ∷ []) [] []
plain_row (Sampler code) = row (TypeKind 5) None (Some code ∷ []) [] []
plain_row (Atomic code) = row (TypeKind 6) None (Some code ∷ []) [] []

abbrev pub pointer_row : Option Text → ℕ → ℕ → Row
pointer_row name base space = row (TypeKind 9) name (Some space ∷ []) [] (Some (TypeItem base) ∷ [])

abbrev pub array_row : ℕ → ArraySize → Row
array_row base size = row (TypeKind 11) None (Some 0 ∷ size_plain size) [] (Some (TypeItem base) ∷ size_name size ∷ [])

abbrev pub binding_array_row : ℕ → ArraySize → Row
binding_array_row base size = row (TypeKind 12) None (size_plain size) [] (Some (TypeItem base) ∷ size_name size ∷ [])

abbrev pub struct_row : Text → List MemberValue → Row
struct_row name members = row (TypeKind 10) (Some name) (Some 0 ∷ []) (map (λ m. m.0) members) (map (λ m. m.1) members)

-- ---- making types

abbrev pub Reads : {A : Type 0} → A × State → Result A AllocError → State → Type 0
Reads outcome (Ok a) new = outcome ≡ (a, new)
Reads outcome (Err _) new = Unit {0}

-- the place of a type, which is put last if it is new
unfoldable pub intern : Row → Span → State → ℕ × State
intern r at s = (place_of (λ e. same_row r e.0) s.types, record s { types = with_element (λ e. same_row r e.0) s.types (r, at) })

unfoldable pub plain : PlainType → State → ℕ × State
plain ty = intern (plain_row ty) undefined

unfoldable pub array : ℕ → ArraySize → State → ℕ × State
array base size = intern (array_row base size) undefined

unfoldable pub binding_array : ℕ → ArraySize → State → ℕ × State
binding_array base size = intern (binding_array_row base size) undefined

unfoldable pub pointer : ℕ → ℕ → State → ℕ × State
pointer base space = intern (pointer_row None base space) undefined

-- a name for a type is a pointer of a space that is none
unfoldable pub alias : Text → ℕ → Span → State → ℕ × State
alias name base = intern (pointer_row (Some name) base 64)

unfoldable pub with_member : MemberValue → State → Unit {0} × State
with_member member s = (tt, record s { members = s.members ++ member ∷ [] })

unfoldable pub struct_end : Text → Span → State → ℕ × State
struct_end name at s = intern (struct_row name s.members) at (record s { members = [] })

-- ---- what is known of types

-- the row at a place
unfoldable pub row_at : State → ℕ → Option Row
row_at s place = option_map (λ e. e.0) (slice_get s.types place)

abbrev pub kind_number : Kind → ℕ
kind_number (TypeKind k) = k
kind_number _ = 13

abbrev pub first_code : List (Option ℕ) → ℕ
first_code (Some code ∷ rest) = code
first_code _ = 0

abbrev pub first_base : List (Option ItemPlace) → ℕ
first_base (Some (TypeItem base) ∷ rest) = base
first_base _ = 0

abbrev pub kind_of : Row → ℕ
kind_of r = kind_number r.label.kind

abbrev pub code_of : Row → ℕ
code_of r = first_code r.label.plain

abbrev pub base_of : Row → ℕ
base_of r = first_base r.names

abbrev pub when : {X : Type 0} → Bool → X → Option X
when b x = if b then Some x else None

-- a scalar from 64 on is a pseudo-type with members; vectors and matrices have no shape
abbrev pub row_shape : Row → ℕ → Shape
row_shape r place =
    if kind_of r == 0 then (if nat_le 64 (code_of r) then Of place else Plain)
    else (if nat_le (kind_of r) 2 then Plain else Of place)

abbrev pub shape_of_option : Option Row → ℕ → Shape
shape_of_option None place = Plain
shape_of_option (Some r) place = row_shape r place

unfoldable pub shape_of : State → ℕ → Shape
shape_of s place = shape_of_option (row_at s place) place

abbrev pub scalar_row : Row → Option ℕ
scalar_row r = when (kind_of r == 0) (code_of r)

abbrev pub bits_row : Row → Option ℕ
bits_row r = if kind_of r == 0 then Some (min (16 * code_of r) 18446744073709551615) else when (kind_of r == 1) (code_of r)

abbrev pub image_row : Row → Option ℕ
image_row r = when (kind_of r == 4) (code_of r)

abbrev pub is_list : Row → Bool
is_list r = if kind_of r == 11 then true else kind_of r == 12

abbrev pub and_then : {X Y : Type 0} → Option X → (X → Option Y) → Option Y
and_then None f = None
and_then (Some x) f = f x

unfoldable pub scalar_of : State → ℕ → Option ℕ
scalar_of s place = and_then (row_at s place) scalar_row

unfoldable pub bits_of : State → ℕ → Option ℕ
bits_of s place = and_then (row_at s place) bits_row

unfoldable pub image_of : State → Shape → Option ℕ
image_of s Plain = None
image_of s (Of place) = and_then (row_at s place) image_row

-- the base of an array, if the type is one
abbrev pub element_base : Row → Option ℕ
element_base r = when (is_list r) (base_of r)

unfoldable pub element_at : State → ℕ → Option ℕ
element_at s place = and_then (row_at s place) element_base

abbrev pub shape_at : State → Option ℕ → Shape
shape_at s None = Plain
shape_at s (Some place) = shape_of s place

unfoldable pub element : State → Shape → Shape
element s Plain = Plain
element s (Of place) = shape_at s (element_at s place)

-- the base of a pointer that is no mark
abbrev pub pointer_base : Row → Option ℕ
pointer_base r = if kind_of r == 9 then when (nat_lt (code_of r) 64) (base_of r) else None

unfoldable pub pointed_at : State → ℕ → Option ℕ
pointed_at s place = and_then (row_at s place) pointer_base

unfoldable pub pointed : State → ℕ → Option Shape
pointed s place = option_map (shape_of s) (pointed_at s place)

-- ---- members

abbrev pub same_name_text : Text → Text → Bool
same_name_text = same_text

abbrev pub has_name : Text → Label → Bool
has_name name m = elim m.name [ Some found ↦ same_name_text found name | None ↦ false ]

-- a number up to the greatest of 32 bits
abbrev pub number_of : ℕ → ℕ
number_of place = if nat_lt place 4294967296 then place else 4294967295

abbrev pub type_in : Option ItemPlace → ℕ
type_in (Some (TypeItem base)) = base
type_in _ = 0

abbrev pub typed_by_option : Option MemberValue → ℕ → Member
typed_by_option None place = Missing
typed_by_option (Some m) place = Typed (number_of place) (type_in m.1)

abbrev pub typed_by : List MemberValue → ℕ → Member
typed_by members place = typed_by_option (slice_get members place) place

abbrev pub typed_if : List MemberValue → Option ℕ → Member
typed_if members None = Missing
typed_if members (Some place) = typed_by members place

-- the place of the first member of a name
abbrev pub member_place : List MemberValue → Text → Option ℕ
member_place members name = position (λ m. has_name name m.0) members

-- the first member of a name
abbrev pub typed_member : List MemberValue → Text → Member
typed_member members name = typed_if members (member_place members name)

-- the members of a row
abbrev pub joined : List Label → List (Option ItemPlace) → List MemberValue
joined [] types = []
joined (label ∷ labels) [] = []
joined (label ∷ labels) (ty ∷ types) = (label, ty) ∷ joined labels types

abbrev pub members_in : Row → List MemberValue
members_in r = joined r.label.members r.names

abbrev pub one_of : Text → Text → Text → Member
one_of first second name = if same_name_text name first then Untyped 0 else (if same_name_text name second then Untyped 1 else Missing)

abbrev pub result_member : ℕ → Text → Member
result_member code name =
    if code == 64 then one_of (codes "fract") (codes "whole") name
    else (if code == 65 then one_of (codes "fract") (codes "exp") name
    else (if code == 66 then one_of (codes "old_value") (codes "exchanged") name else NoStruct))

abbrev pub row_member : Row → Text → Member
row_member r name =
    if kind_of r == 10 then typed_member (members_in r) name
    else (if kind_of r == 0 then result_member (code_of r) name else NoStruct)

abbrev pub member_of_option : Option Row → Text → Member
member_of_option None name = NoStruct
member_of_option (Some r) name = row_member r name

-- the member of a name
unfoldable pub member : State → Shape → Text → Member
member s Plain name = NoStruct
member s (Of place) name = member_of_option (row_at s place) name

-- the type of a shape
unfoldable pub type_of : Shape → State → ℕ × State
type_of Plain s = plain (Scalar 0) s
type_of (Of place) s = (place, s)
