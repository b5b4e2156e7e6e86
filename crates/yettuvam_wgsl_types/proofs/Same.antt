-- Types are one where their rows are.
use Rattle.std.proofs.Common.{◌≡◌, ℕ, suc, ◌+◌, Bool, true, false, not, cond, List, [], ◌∷◌, ◌++◌, length, map, position, nat_lt, nat_eq, unwrap_or, is_some, slice_get, Option, Some, None, option_map, string_bytes, refl, ap, sym, ◌∙◌, rules, tests, ◌&&◌, Decides, if◌then◌else◌}
use Rattle.std.specs.Option.{option_eq}
use Rattle.std.specs.Cmp.Lexicographic.{pointwise_decides}
use Rattle.std.specs.List.{position_or_len}
use Rattle.std.proofs.lemmas.Bool.{false≢true}
use Rattle.std.proofs.lemmas.List.{map-append}
use Rattle.std.proofs.lemmas.Option.{slice_get-map}
use Rattle.naga_oil_ir.specs.Places.{place_of, with_element}
use Rattle.naga_oil_ir.specs.Rows.{Row, Member, Kind, TypeKind, type_row, inner_row, member_label, member_type}
use Rattle.naga_oil_ir.specs.contracts.types.TypePartialEq.TheImpl.{ghosts as type_ghosts}
use Rattle.naga_oil_ir.specs.declared.types.Type.{«Type» as TypeOfShader}
use Rattle.naga_oil_ir.specs.declared.types.TypeInner.{TypeInner}
use Rattle.naga_oil_ir.specs.declared.types.TypeInner.TheVariants.{Scalar, Vector, Matrix, ValuePointer, Image, Sampler, Atomic, AccelerationStructure, RayQuery, Pointer, Struct, Array, BindingArray}
use Rattle.naga_oil_ir.specs.declared.names.ItemPlace.{ItemPlace}
use Rattle.naga_oil_ir.specs.declared.names.ItemPlace.TheVariants.{TypeItem, ConstantItem, OverrideItem, GlobalItem, ExpressionItem}
use Rattle.naga_oil_ir.specs.declared.span.Span.{Span}
use Rattle.naga_oil_ir.proofs.ItemEquality.{type_decides}
use Rattle.yettuvam_wgsl_types.specs.SameRow.{same_kind, same_name, same_member, same_place, same_row}
use Rattle.yettuvam_wgsl_types.specs.Types.{member_of, joined, has_name}
use Rattle.naga_oil_ir.specs.declared.types.StructMember.{StructMember}

-- ---- tests
and_decides : {P Q : Type 0} (s t : Bool) → Decides s P → Decides t Q → Decides (s && t) (P × Q)
and_decides true t d e = (λ h. (d.0 refl, e.0 h), λ h. e.1 h.1)
and_decides false t d e = (λ h. absurd (false≢true h), λ h. d.1 h.0)

same_fact : {P Q : Type 0} (s : Bool) → Decides s P → (P → Q) → (Q → P) → Decides s Q
same_fact s d f g = (λ h. f (d.0 h), λ h. d.1 (g h))

number_decides : (a b : ℕ) → Decides (nat_eq a b) (a ≡ b)
number_decides a b = search (rules, tests)

option_decides : {A : Type 0} {E : A → A → Bool} → ((x y : A) → Decides (E x y) (x ≡ y)) → (a b : Option A) → Decides (option_eq E a b) (a ≡ b)
option_decides d None None = (λ h. refl, λ h. refl)
option_decides d None (Some y) = (λ h. absurd (false≢true h), λ h. cc)
option_decides d (Some x) None = (λ h. absurd (false≢true h), λ h. cc)
option_decides d (Some x) (Some y) = (λ h. ap Some ((d x y).0 h), λ h. (d x y).1 (let e : x ≡ y = cc in e))

name_decides : (a b : Option (List ℕ)) → Decides (same_name a b) (a ≡ b)
name_decides = option_decides (pointwise_decides number_decides)

abbrev member : Option (List ℕ) → Option ℕ → ℕ → Member
member n b o = record { name = n; binding = b; offset = o }

member_decides : (a b : Member) → Decides (same_member a b) (a ≡ b)
member_decides a b = same_fact _ (and_decides _ _ (name_decides a.name b.name) (and_decides _ _ (option_decides number_decides a.binding b.binding) (number_decides a.offset b.offset)))
    (λ h. ap (λ v. member v a.binding a.offset) h.0 ∙ ap (λ v. member b.name v a.offset) h.1.0 ∙ ap (member b.name b.binding) h.1.1)
    (λ h. (ap (λ (m : Member). m.name) h, (ap (λ (m : Member). m.binding) h, ap (λ (m : Member). m.offset) h)))

place_decides : (a b : ItemPlace) → Decides (same_place a b) (a ≡ b)
place_decides (TypeItem a) (TypeItem b) = search (rules, tests)
place_decides (ConstantItem a) (ConstantItem b) = search (rules, tests)
place_decides (OverrideItem a) (OverrideItem b) = search (rules, tests)
place_decides (GlobalItem a) (GlobalItem b) = search (rules, tests)
place_decides (ExpressionItem a) (ExpressionItem b) = search (rules, tests)
place_decides _ _ = (λ h. absurd (false≢true h), λ h. cc)

kind_sound : (a b : Kind) → same_kind a b ≡ true → a ≡ b
kind_sound (TypeKind a) (TypeKind b) h = ap TypeKind ((number_decides a b).0 h)
kind_sound _ _ h = absurd (false≢true h)

kind_refl : (n : Option (List ℕ)) (i : TypeInner) → same_kind (inner_row n i).label.kind (inner_row n i).label.kind ≡ true
kind_refl n (Scalar c) = refl
kind_refl n (Vector c) = refl
kind_refl n (Matrix c) = refl
kind_refl n (ValuePointer c) = refl
kind_refl n (Image c) = refl
kind_refl n (Sampler c) = refl
kind_refl n (Atomic c) = refl
kind_refl n (AccelerationStructure c) = refl
kind_refl n (RayQuery c) = refl
kind_refl n (Pointer b s) = refl
kind_refl n (Struct m s) = refl
kind_refl n (Array b z s) = refl
kind_refl n (BindingArray b z) = refl

abbrev whole : Kind → Option (List ℕ) → List (Option ℕ) → List Member → List (Option ItemPlace) → Row
whole k n p m names = record { label = record { kind = k; name = n; plain = p; members = m }; names = names }

abbrev Same : Row → Row → Type 0
Same a b = (same_kind a.label.kind b.label.kind ≡ true) × ((a.label.name ≡ b.label.name) × ((a.label.plain ≡ b.label.plain) × ((a.label.members ≡ b.label.members) × (a.names ≡ b.names))))

itself : (s : Bool) → Decides s (s ≡ true)
itself s = (λ h. h, λ h. h)

row_decides : (a b : Row) → Decides (same_row a b) (Same a b)
unfolding same_row
row_decides a b =
    and_decides _ _ (itself (same_kind a.label.kind b.label.kind)) (and_decides _ _ (name_decides a.label.name b.label.name) (and_decides _ _ (pointwise_decides (option_decides number_decides) a.label.plain b.label.plain)
    (and_decides _ _ (pointwise_decides member_decides a.label.members b.label.members) (pointwise_decides (option_decides place_decides) a.names b.names))))

row_sound : (a b : Row) → Same a b → a ≡ b
row_sound a b h =
    ap (λ v. whole v a.label.name a.label.plain a.label.members a.names) (kind_sound a.label.kind b.label.kind h.0)
    ∙ ap (λ v. whole b.label.kind v a.label.plain a.label.members a.names) h.1.0
    ∙ ap (λ v. whole b.label.kind b.label.name v a.label.members a.names) h.1.1.0
    ∙ ap (λ v. whole b.label.kind b.label.name b.label.plain v a.names) h.1.1.1.0
    ∙ ap (whole b.label.kind b.label.name b.label.plain b.label.members) h.1.1.1.1

row_refl : (t : TypeOfShader) → same_row (type_row t) (type_row t) ≡ true
row_refl t = (row_decides (type_row t) (type_row t)).1 (kind_refl (option_map string_bytes t.name) t.inner, (refl, (refl, (refl, refl))))

both_ways : (s t : Bool) → (s ≡ true → t ≡ true) → (t ≡ true → s ≡ true) → s ≡ t
both_ways true true f g = refl
both_ways true false f g = sym (f refl)
both_ways false true f g = g refl
both_ways false false f g = refl

pub type_same : (a b : TypeOfShader) → type_ghosts.eq a b ≡ same_row (type_row a) (type_row b)
type_same a b = both_ways _ _
    (λ h. sym (ap (same_row (type_row a)) ((type_decides a b).0 h)) ∙ row_refl a)
    (λ h. (type_decides a b).1 (row_sound (type_row a) (type_row b) ((row_decides (type_row a) (type_row b)).0 h)))

-- ---- places
abbrev seen : TypeOfShader × Span → Row × Span
seen e = (type_row e.0, e.1)

first_same : (t : TypeOfShader) (es : List (TypeOfShader × Span)) → position_or_len (λ e. type_ghosts.eq t e.0) es ≡ position_or_len (λ e. same_row (type_row t) e.0) (map seen es)
first_same t [] = refl
first_same t (e ∷ es) = ap (λ b. cond (not b) (1 + position_or_len (λ e. type_ghosts.eq t e.0) es) 0) (type_same t e.0) ∙ ap (λ n. cond (not (same_row (type_row t) (type_row e.0))) (1 + n) 0) (first_same t es)

length_seen : (es : List (TypeOfShader × Span)) → length es ≡ length (map seen es)
length_seen [] = refl
length_seen (e ∷ es) = ap (λ n. suc n) (length_seen es)

position_same : (t : TypeOfShader) (es : List (TypeOfShader × Span)) → position (λ e. type_ghosts.eq t e.0) es ≡ position (λ e. same_row (type_row t) e.0) (map seen es)
position_same t es =
    ap (λ n. cond (nat_lt n (length es)) (Some n) None) (first_same t es) ∙ ap (λ n. cond (nat_lt (position_or_len (λ e. same_row (type_row t) e.0) (map seen es)) n) (Some (position_or_len (λ e. same_row (type_row t) e.0) (map seen es))) None) (length_seen es)

pub place_same : (t : TypeOfShader) (es : List (TypeOfShader × Span)) → place_of (λ e. type_ghosts.eq t e.0) es ≡ place_of (λ e. same_row (type_row t) e.0) (map seen es)
place_same t es = ap (λ o. unwrap_or o (length es)) (position_same t es) ∙ ap (λ n. unwrap_or (position (λ e. same_row (type_row t) e.0) (map seen es)) n) (length_seen es)

put_if : (b : Bool) (es : List (TypeOfShader × Span)) (x : TypeOfShader × Span) → map seen (if b then es else es ++ x ∷ []) ≡ (if b then map seen es else map seen es ++ seen x ∷ [])
put_if true es x = refl
put_if false es x = map-append seen es (x ∷ [])

pub put_same : (t : TypeOfShader) (at : Span) (es : List (TypeOfShader × Span)) → map seen (with_element (λ e. type_ghosts.eq t e.0) es (t, at)) ≡ with_element (λ e. same_row (type_row t) e.0) (map seen es) (type_row t, at)
put_same t at es = put_if (is_some (position (λ e. type_ghosts.eq t e.0) es)) es (t, at) ∙ ap (λ o. if is_some o then map seen es else map seen es ++ (type_row t, at) ∷ []) (position_same t es)

-- ---- members
pub labels_of : (ms : List StructMember) → map (λ m. m.0) (map member_of ms) ≡ map member_label ms
labels_of [] = refl
labels_of (m ∷ ms) = ap (λ t. member_label m ∷ t) (labels_of ms)

pub types_of : (ms : List StructMember) → map (λ m. m.1) (map member_of ms) ≡ map member_type ms
types_of [] = refl
types_of (m ∷ ms) = ap (λ t. member_type m ∷ t) (types_of ms)

-- the members of a struct's row
pub joined_of : (ms : List StructMember) → joined (map member_label ms) (map member_type ms) ≡ map member_of ms
joined_of [] = refl
joined_of (m ∷ ms) = ap (λ t. member_of m ∷ t) (joined_of ms)

row_of : (o : Option (TypeOfShader × Span)) → option_map type_row (option_map (λ e. e.0) o) ≡ option_map (λ e. e.0) (option_map seen o)
row_of None = refl
row_of (Some e) = refl

-- the row at a place is that of the type there
pub row_of_slice : (es : List (TypeOfShader × Span)) (k : ℕ) → option_map type_row (option_map (λ e. e.0) (slice_get es k)) ≡ option_map (λ e. e.0) (slice_get (map seen es) k)
row_of_slice es k = row_of (slice_get es k) ∙ ap (option_map (λ e. e.0)) (sym (slice_get-map seen es k))

first_member : (name : List ℕ) (ms : List StructMember) → position_or_len (λ m. has_name name (member_of m).0) ms ≡ position_or_len (λ m. has_name name m.0) (map member_of ms)
first_member name [] = refl
first_member name (m ∷ ms) = ap (λ n. cond (not (has_name name (member_label m))) (1 + n) 0) (first_member name ms)

length_of : (ms : List StructMember) → length ms ≡ length (map member_of ms)
length_of [] = refl
length_of (m ∷ ms) = ap (λ n. suc n) (length_of ms)

-- the place of a member is that of its value
pub member_place : (name : List ℕ) (ms : List StructMember) → position (λ m. has_name name (member_of m).0) ms ≡ position (λ m. has_name name m.0) (map member_of ms)
member_place name ms =
    ap (λ n. cond (nat_lt n (length ms)) (Some n) None) (first_member name ms) ∙ ap (λ n. cond (nat_lt (position_or_len (λ m. has_name name m.0) (map member_of ms)) n) (Some (position_or_len (λ m. has_name name m.0) (map member_of ms))) None) (length_of ms)
