use Rattle.std.proofs.Common.{◌≡◌, ℕ, zero, suc, List, [], ◌∷◌, ◌++◌, map, Option, Some, None, option_map, slice_get, refl, ap, sym, ◌∙◌}
use Rattle.std.proofs.Common.{append-nil, append_assoc}
use Rattle.naga_oil_ir.specs.declared.module.Module.{Module}
use Rattle.naga_oil_ir.specs.declared.span.Span.{Span}
use Rattle.naga_oil_ir.specs.declared.expression.Expression.{Expression}
use Rattle.naga_oil_ir.specs.declared.types.TypeInner.{TypeInner}
use Rattle.naga_oil_ir.specs.declared.types.TypeInner.TheVariants.{Scalar, Vector, Matrix, ValuePointer, Image, Sampler, Atomic, AccelerationStructure, RayQuery, Pointer, Struct, Array, BindingArray}
use Rattle.naga_oil_ir.specs.declared.names.ItemPlace.{ItemPlace}
use Rattle.naga_oil_ir.specs.declared.names.ItemPlace.TheVariants.{TypeItem, ConstantItem, OverrideItem, GlobalItem, ExpressionItem}
use Rattle.naga_oil_ir.specs.Parts.{Parts, parts}
use Rattle.naga_oil_ir.specs.ModuleValue.{ModuleValue}
use Rattle.naga_oil_ir.specs.Rows.{Row, Kind, TypeKind, ConstantKind, OverrideKind, GlobalKind, ExpressionKind, Text, inner_row, type_row, constant_row, override_row, global_row, expression_row, parts_row}
use Rattle.naga_oil_derive.specs.Tree.{World}
use Rattle.naga_oil_rename.specs.Renames.{under_name}
use Rattle.naga_oil_derive.specs.World.{value_of, world, Begins, Extends, named_world, name_at}

-- ---- what stands at the places of a module, by its arenas

-- the rows of items
abbrev pub rows : {X : Type 0} → (X → Row) → List (X × Span) → ℕ → Option Row
rows f xs k = option_map (λ e. f e.0) (slice_get xs k)

-- the spans of items
abbrev pub spans : {X : Type 0} → List (X × Span) → ℕ → Option Span
spans xs k = option_map (λ e. e.1) (slice_get xs k)

rows_of : {X : Type 0} (f : X → Row) (xs : List (X × Span)) (k : ℕ) → option_map (λ (e : Row × Span). e.0) (slice_get (map (λ e. (f e.0, e.1)) xs) k) ≡ rows f xs k
rows_of f [] k = refl
rows_of f (x ∷ xs) zero = refl
rows_of f (x ∷ xs) (suc k) = rows_of f xs k

parts_of : (xs : List (Expression × Span)) (k : ℕ) → option_map (λ (e : Parts × Span). parts_row e.0) (slice_get (map (λ e. (parts e.0, e.1)) xs) k) ≡ rows expression_row xs k
parts_of [] k = refl
parts_of (x ∷ xs) zero = refl
parts_of (x ∷ xs) (suc k) = parts_of xs k

pub world_type : (m : Module) (k : ℕ) → world (value_of m) (TypeItem k) ≡ rows type_row m.types k
unfolding world value_of
world_type m k = rows_of type_row m.types k

pub world_constant : (m : Module) (k : ℕ) → world (value_of m) (ConstantItem k) ≡ rows constant_row m.constants k
unfolding world value_of
world_constant m k = rows_of constant_row m.constants k

pub world_override : (m : Module) (k : ℕ) → world (value_of m) (OverrideItem k) ≡ rows override_row m.overrides k
unfolding world value_of
world_override m k = rows_of override_row m.overrides k

pub world_global : (m : Module) (k : ℕ) → world (value_of m) (GlobalItem k) ≡ rows global_row m.global_variables k
unfolding world value_of
world_global m k = rows_of global_row m.global_variables k

pub world_expression : (m : Module) (k : ℕ) → world (value_of m) (ExpressionItem k) ≡ rows expression_row m.global_expressions k
unfolding world value_of
world_expression m k = parts_of m.global_expressions k

-- ---- a row of one kind stands in no arena of another

abbrev pub kind_code : Kind → ℕ
kind_code (TypeKind n) = 0
kind_code ConstantKind = 1
kind_code OverrideKind = 2
kind_code GlobalKind = 3
kind_code (ExpressionKind n r) = 4

abbrev pub place_code : ItemPlace → ℕ
place_code (TypeItem k) = 0
place_code (ConstantItem k) = 1
place_code (OverrideItem k) = 2
place_code (GlobalItem k) = 3
place_code (ExpressionItem k) = 4

abbrev pub row_code : Row → ℕ
row_code r = kind_code r.label.kind

pub inner_code : (n : Text) (i : TypeInner) → row_code (inner_row n i) ≡ 0
inner_code n (Scalar c) = refl
inner_code n (Vector c) = refl
inner_code n (Matrix c) = refl
inner_code n (ValuePointer c) = refl
inner_code n (Image c) = refl
inner_code n (Sampler c) = refl
inner_code n (Atomic c) = refl
inner_code n (AccelerationStructure c) = refl
inner_code n (RayQuery c) = refl
inner_code n (Pointer base space) = refl
inner_code n (Struct members span) = refl
inner_code n (Array base size stride) = refl
inner_code n (BindingArray base size) = refl

at_code : {X : Type 0} (f : X → Row) (c : ℕ) → ((x : X) → row_code (f x) ≡ c) → (o : Option (X × Span)) (r : Row) → option_map (λ e. f e.0) o ≡ Some r → row_code r ≡ c
at_code f c h None r e = cc
at_code f c h (Some x) r e = let q : f x.0 ≡ r = cc in sym (ap row_code q) ∙ h x.0

pub world_code : (m : Module) (p : ItemPlace) (r : Row) → world (value_of m) p ≡ Some r → row_code r ≡ place_code p
world_code m (TypeItem k) r e = at_code type_row 0 (λ t. inner_code _ t.inner) (slice_get m.types k) r (sym (world_type m k) ∙ e)
world_code m (ConstantItem k) r e = at_code constant_row 1 (λ t. refl) (slice_get m.constants k) r (sym (world_constant m k) ∙ e)
world_code m (OverrideItem k) r e = at_code override_row 2 (λ t. refl) (slice_get m.overrides k) r (sym (world_override m k) ∙ e)
world_code m (GlobalItem k) r e = at_code global_row 3 (λ t. refl) (slice_get m.global_variables k) r (sym (world_global m k) ∙ e)
world_code m (ExpressionItem k) r e = at_code expression_row 4 (λ t. refl) (slice_get m.global_expressions k) r (sym (world_expression m k) ∙ e)

-- ---- growth

begins_get : {A : Type 0} (xs zs : List A) (k : ℕ) (x : A) → slice_get xs k ≡ Some x → slice_get (xs ++ zs) k ≡ Some x
begins_get [] zs k x h = cc
begins_get (y ∷ xs) zs zero x h = h
begins_get (y ∷ xs) zs (suc k) x h = begins_get xs zs k x h

grown : {A B : Type 0} (f : A → B) (xs ys : List A) (k : ℕ) (b : B) → Begins xs ys → (o : Option A) → slice_get xs k ≡ o → option_map f o ≡ Some b → option_map f (slice_get ys k) ≡ Some b
grown f xs ys k b z None e h = cc
grown f xs ys k b z (Some x) e h = ap (λ v. option_map f (slice_get v k)) z.1 ∙ ap (option_map f) (begins_get xs z.0 k x e) ∙ h

-- each item keeps its handle
pub Extends-stays : (m n : ModuleValue) → Extends m n → (p : ItemPlace) (r : Row) → world m p ≡ Some r → world n p ≡ Some r
unfolding world
Extends-stays m n e (TypeItem k) r h = grown (λ x. x.0) m.types n.types k r e.types (slice_get m.types k) refl h
Extends-stays m n e (ConstantItem k) r h = grown (λ x. x.0) m.constants n.constants k r e.constants (slice_get m.constants k) refl h
Extends-stays m n e (OverrideItem k) r h = grown (λ x. x.0) m.overrides n.overrides k r e.overrides (slice_get m.overrides k) refl h
Extends-stays m n e (GlobalItem k) r h = grown (λ x. x.0) m.global_variables n.global_variables k r e.global_variables (slice_get m.global_variables k) refl h
Extends-stays m n e (ExpressionItem k) r h = grown (λ x. parts_row x.0) m.global_expressions n.global_expressions k r e.global_expressions (slice_get m.global_expressions k) refl h

pub Begins-refl : {A : Type 0} (xs : List A) → Begins xs xs
Begins-refl xs = ([], sym (append-nil xs))

pub Begins-trans : {A : Type 0} (xs ys zs : List A) → Begins xs ys → Begins ys zs → Begins xs zs
Begins-trans xs ys zs a b = (a.0 ++ b.0, b.1 ∙ ap (λ v. v ++ b.0) a.1 ∙ append_assoc xs a.0 b.0)

pub Extends-refl : (m : ModuleValue) → Extends m m
Extends-refl m = record { types = Begins-refl m.types; constants = Begins-refl m.constants; overrides = Begins-refl m.overrides; global_variables = Begins-refl m.global_variables; global_expressions = Begins-refl m.global_expressions; rest = refl }

pub Extends-trans : (m n o : ModuleValue) → Extends m n → Extends n o → Extends m o
Extends-trans m n o a b = record {
  types = Begins-trans m.types n.types o.types a.types b.types;
  constants = Begins-trans m.constants n.constants o.constants a.constants b.constants;
  overrides = Begins-trans m.overrides n.overrides o.overrides a.overrides b.overrides;
  global_variables = Begins-trans m.global_variables n.global_variables o.global_variables a.global_variables b.global_variables;
  global_expressions = Begins-trans m.global_expressions n.global_expressions o.global_expressions a.global_expressions b.global_expressions;
  rest = b.rest ∙ ap (λ (v : ModuleValue). record v { types = o.types; constants = o.constants; overrides = o.overrides; global_variables = o.global_variables; global_expressions = o.global_expressions }) a.rest;
}

-- ---- names of copies

none_none : (r : Option Row) → option_map (under_name None) r ≡ r
none_none None = refl
none_none (Some r) = refl

pub named_none : (w v : World) (m : ItemPlace → Option ItemPlace) (p : ItemPlace) → m p ≡ None → named_world w v m p ≡ w p
unfolding named_world
named_none w v m p e = ap (λ o. option_map (under_name (name_at v o)) (w p)) e ∙ none_none (w p)

pub named_some : (w v : World) (m : ItemPlace → Option ItemPlace) (p q : ItemPlace) (r s : Row) → m p ≡ Some q → v q ≡ Some s → w p ≡ Some r → named_world w v m p ≡ Some (under_name (Some s.label.name) r)
unfolding named_world
named_some w v m p q r s e f g = ap (λ o. option_map (under_name (name_at v o)) (w p)) e ∙ ap (λ o. option_map (under_name (option_map (λ (x : Row). x.label.name) o)) (w p)) f ∙ ap (option_map (under_name (Some s.label.name))) g

under_names : (n : Option Text) (r : Row) → (under_name n r).names ≡ r.names
under_names None r = refl
under_names (Some n) r = refl

named_row : (n : Option Text) (o : Option Row) (r : Row) → option_map (under_name n) o ≡ Some r → (s : Row) × (o ≡ Some s) × (r.names ≡ s.names)
named_row n None r e = cc
named_row n (Some s) r e = let q : under_name n s ≡ r = cc in (s, refl, sym (ap (λ (x : Row). x.names) q) ∙ under_names n s)

-- a renamed item names the same
pub named_names : (w v : World) (m : ItemPlace → Option ItemPlace) (p : ItemPlace) (r : Row) → named_world w v m p ≡ Some r → (s : Row) × (w p ≡ Some s) × (r.names ≡ s.names)
unfolding named_world
named_names w v m p r e = named_row (name_at v (m p)) (w p) r e

same_names : (n k : Option Text) (o : Option Row) → n ≡ k → option_map (under_name n) o ≡ option_map (under_name k) o
same_names n k o e = ap (λ x. option_map (under_name x) o) e

pub named_same : (w v u : World) (m n : ItemPlace → Option ItemPlace) (x : ItemPlace) → name_at v (m x) ≡ name_at u (n x) → named_world w u n x ≡ named_world w v m x
unfolding named_world
named_same w v u m n x e = same_names (name_at u (n x)) (name_at v (m x)) (w x) (sym e)
