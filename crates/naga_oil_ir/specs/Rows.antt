-- An item as one row: its kind, its label, its members and what it names.
use Rattle.std.specs.Prelude.{ℕ, List, [], ◌∷◌, map, Option, Some, None, option_map, string_bytes}
use Rattle.naga_oil_ir.specs.Parts.{parts, Parts}
use Rattle.naga_oil_ir.specs.declared.parts.Named.{Named}
use Rattle.naga_oil_ir.specs.declared.parts.Named.TheVariants.{Nothing, TypeOf, ConstantAt, OverrideAt, GlobalAt, LocalAt, ArgumentAt, FunctionAt}
use Rattle.naga_oil_ir.specs.declared.expression.Expression.{Expression}
use Rattle.naga_oil_ir.specs.declared.types.Type.{«Type» as TypeOfShader}
use Rattle.naga_oil_ir.specs.declared.types.StructMember.{StructMember}
use Rattle.naga_oil_ir.specs.declared.types.Constant.{Constant as ConstantItself}
use Rattle.naga_oil_ir.specs.declared.types.Override.{Override}
use Rattle.naga_oil_ir.specs.declared.types.GlobalVariable.{GlobalVariable}
use Rattle.naga_oil_ir.specs.declared.types.TypeInner.{TypeInner}
use Rattle.naga_oil_ir.specs.declared.types.TypeInner.TheVariants.{Scalar, Vector, Matrix, ValuePointer, Image, Sampler, Atomic, AccelerationStructure, RayQuery, Pointer, Struct, Array, BindingArray}
use Rattle.naga_oil_ir.specs.declared.types.ArraySize.{ArraySize}
use Rattle.naga_oil_ir.specs.declared.types.ArraySize.TheVariants.{Constant, Pending, Dynamic}
use Rattle.naga_oil_ir.specs.declared.names.ItemPlace.{ItemPlace}
use Rattle.naga_oil_ir.specs.declared.names.ItemPlace.TheVariants.{TypeItem, ConstantItem, OverrideItem, GlobalItem, ExpressionItem}

-- a member of a struct, without its type
pub record Member : Type 0 where
  pub name : Option (List ℕ)
  pub binding : Option ℕ
  pub offset : ℕ

-- the kind of an item: for a type its variant; for an expression its kind and the part of a function that it names
pub data Kind : Type 0 where
  TypeKind : ℕ → Kind
  ConstantKind : Kind
  OverrideKind : Kind
  GlobalKind : Kind
  ExpressionKind : ℕ → Named → Kind

-- an item without what it names
pub record Label : Type 0 where
  pub kind : Kind
  pub name : Option (List ℕ)
  pub plain : List (Option ℕ)
  pub members : List Member

-- an item: its label, and the items that it names in the order of copying; absent ones are None
pub record Row : Type 0 where
  pub label : Label
  pub names : List (Option ItemPlace)

-- a text that may be absent
abbrev pub Text : Type 0
Text = Option (List ℕ)

-- a row from its fields
abbrev pub row : Kind → Text → List (Option ℕ) → List Member → List (Option ItemPlace) → Row
row k n p m names = record { label = record { kind = k; name = n; plain = p; members = m }; names = names }

-- the variant of a size and its plain value
abbrev pub size_plain : ArraySize → List (Option ℕ)
size_plain (Constant n) = Some 0 ∷ Some n ∷ []
size_plain (Pending o) = Some 1 ∷ []
size_plain Dynamic = Some 2 ∷ []

-- the override that a size names
abbrev pub size_name : ArraySize → Option ItemPlace
size_name (Constant n) = None
size_name (Pending o) = Some (OverrideItem o)
size_name Dynamic = None

-- the label of a member of a struct
abbrev pub member_label : StructMember → Member
member_label m = record { name = option_map string_bytes m.name; binding = m.binding; offset = m.offset }

-- the type that a member names
abbrev pub member_type : StructMember → Option ItemPlace
member_type m = Some (TypeItem m.ty)

-- the one list of the 13 kinds of types, for a type with this name
abbrev pub inner_row : Text → TypeInner → Row
inner_row n (Scalar c) = row (TypeKind 0) n (Some c ∷ []) [] []
inner_row n (Vector c) = row (TypeKind 1) n (Some c ∷ []) [] []
inner_row n (Matrix c) = row (TypeKind 2) n (Some c ∷ []) [] []
inner_row n (ValuePointer c) = row (TypeKind 3) n (Some c ∷ []) [] []
inner_row n (Image c) = row (TypeKind 4) n (Some c ∷ []) [] []
inner_row n (Sampler c) = row (TypeKind 5) n (Some c ∷ []) [] []
inner_row n (Atomic c) = row (TypeKind 6) n (Some c ∷ []) [] []
inner_row n (AccelerationStructure c) = row (TypeKind 7) n (Some c ∷ []) [] []
inner_row n (RayQuery c) = row (TypeKind 8) n (Some c ∷ []) [] []
inner_row n (Pointer base space) = row (TypeKind 9) n (Some space ∷ []) [] (Some (TypeItem base) ∷ [])
inner_row n (Struct members span) = row (TypeKind 10) n (Some span ∷ []) (map member_label members.items) (map member_type members.items)
inner_row n (Array base size stride) = row (TypeKind 11) n (Some stride ∷ size_plain size) [] (Some (TypeItem base) ∷ size_name size ∷ [])
inner_row n (BindingArray base size) = row (TypeKind 12) n (size_plain size) [] (Some (TypeItem base) ∷ size_name size ∷ [])

-- the row of a type
abbrev pub type_row : TypeOfShader → Row
type_row t = inner_row (option_map string_bytes t.name) t.inner

-- the row of a constant
abbrev pub constant_row : ConstantItself → Row
constant_row c = row ConstantKind (option_map string_bytes c.name) [] [] (Some (TypeItem c.ty) ∷ Some (ExpressionItem c.init) ∷ [])

-- the row of an override
abbrev pub override_row : Override → Row
override_row o = row OverrideKind (option_map string_bytes o.name) (o.id ∷ []) [] (Some (TypeItem o.ty) ∷ option_map ExpressionItem o.init ∷ [])

-- the row of a global variable
abbrev pub global_row : GlobalVariable → Row
global_row g = row GlobalKind (option_map string_bytes g.name) (Some g.space ∷ g.binding ∷ []) [] (Some (TypeItem g.ty) ∷ option_map ExpressionItem g.init ∷ [])

-- the item that an expression names
abbrev pub named_place : Named → Option ItemPlace
named_place Nothing = None
named_place (TypeOf h) = Some (TypeItem h)
named_place (ConstantAt h) = Some (ConstantItem h)
named_place (OverrideAt h) = Some (OverrideItem h)
named_place (GlobalAt h) = Some (GlobalItem h)
named_place (LocalAt h) = None
named_place (ArgumentAt n) = None
named_place (FunctionAt h) = None

-- what an expression names, if it is no item
abbrev pub named_rest : Named → Named
named_rest Nothing = Nothing
named_rest (TypeOf h) = Nothing
named_rest (ConstantAt h) = Nothing
named_rest (OverrideAt h) = Nothing
named_rest (GlobalAt h) = Nothing
named_rest (LocalAt h) = LocalAt h
named_rest (ArgumentAt n) = ArgumentAt n
named_rest (FunctionAt h) = FunctionAt h

-- the row of an expression from its parts
abbrev pub parts_row : Parts → Row
parts_row p = row (ExpressionKind p.kind (named_rest p.named)) None (map Some p.plain) [] (named_place p.named ∷ map (option_map ExpressionItem) p.operands)

-- the row of an expression
abbrev pub expression_row : Expression → Row
expression_row e = parts_row (parts e)
