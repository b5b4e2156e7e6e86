use Rattle.std.proofs.Common.{◌≡◌, ℕ, Bool, true, false, List, [], ◌∷◌, map, Option, Some, None, option_map, string_bytes, refl, ap, sym, ◌∙◌, rules, tests, nat_eq, ◌&&◌, Decides, String, Global, string_eq}
use Rattle.std.specs.Option.{option_eq}
use Rattle.std.specs.Cmp.Lexicographic.{pointwise, bytes_decides}
use Rattle.std.proofs.lemmas.Bool.{false≢true}
use Rattle.naga_oil_ir.specs.contracts.types.TypePartialEq.TheImpl.{ghosts as type_ghosts}
use Rattle.naga_oil_ir.specs.contracts.types.TypeInnerPartialEq.TheImpl.{ghosts as inner_ghosts}
use Rattle.naga_oil_ir.specs.contracts.types.StructMemberPartialEq.TheImpl.{ghosts as member_ghosts}
use Rattle.naga_oil_ir.specs.contracts.types.ArraySizePartialEq.TheImpl.{ghosts as size_ghosts}
use Rattle.naga_oil_ir.specs.declared.types.Type.{«Type» as TypeOfShader}
use Rattle.naga_oil_ir.specs.declared.types.StructMember.{StructMember}
use Rattle.naga_oil_ir.specs.declared.types.TypeInner.{TypeInner}
use Rattle.naga_oil_ir.specs.declared.types.TypeInner.TheVariants.{Scalar, Vector, Matrix, ValuePointer, Image, Sampler, Atomic, AccelerationStructure, RayQuery, Pointer, Struct, Array, BindingArray}
use Rattle.naga_oil_ir.specs.declared.types.ArraySize.{ArraySize}
use Rattle.naga_oil_ir.specs.declared.types.ArraySize.TheVariants.{Constant, Pending, Dynamic}
use Rattle.naga_oil_ir.specs.declared.names.ItemPlace.{ItemPlace}
use Rattle.naga_oil_ir.specs.declared.names.ItemPlace.TheVariants.{TypeItem, ExpressionItem}
use Rattle.naga_oil_ir.specs.contracts.types.ConstantPartialEq.TheImpl.{ghosts as constant_ghosts}
use Rattle.naga_oil_ir.specs.contracts.types.OverridePartialEq.TheImpl.{ghosts as override_ghosts}
use Rattle.naga_oil_ir.specs.contracts.types.GlobalVariablePartialEq.TheImpl.{ghosts as global_ghosts}
use Rattle.naga_oil_ir.specs.contracts.expression.ExpressionPartialEq.TheImpl.{ghosts as expression_ghosts}
use Rattle.naga_oil_ir.specs.declared.expression.Expression.{Expression}
use Rattle.naga_oil_ir.specs.declared.types.Constant.{Constant as ConstantItself}
use Rattle.naga_oil_ir.specs.declared.types.Override.{Override as OverrideItself}
use Rattle.naga_oil_ir.specs.declared.types.GlobalVariable.{GlobalVariable as GlobalItself}
use Rattle.naga_oil_ir.specs.Parts.{parts, Parts, expr}
use Rattle.naga_oil_ir.specs.declared.parts.Named.{Named}
use Rattle.naga_oil_ir.specs.declared.parts.Named.TheVariants.{Nothing, TypeOf, ConstantAt, OverrideAt, GlobalAt, LocalAt, ArgumentAt, FunctionAt}
use Rattle.naga_oil_ir.proofs.ExpressionEquality.{same, back}
use Rattle.naga_oil_ir.specs.Rows.{Member, Row, Kind, TypeKind, ConstantKind, OverrideKind, GlobalKind, ExpressionKind, Text, row, size_plain, size_name, member_label, member_type, inner_row, type_row, constant_row, override_row, global_row, expression_row, parts_row, named_place, named_rest}

and_decides : {P Q : Type 0} (s t : Bool) → Decides s P → Decides t Q → Decides (s && t) (P × Q)
and_decides true t d e = (λ h. (d.0 refl, e.0 h), λ h. e.1 h.1)
and_decides false t d e = (λ h. absurd (false≢true h), λ h. d.1 h.0)

same_fact : {P Q : Type 0} (s : Bool) → Decides s P → (P → Q) → (Q → P) → Decides s Q
same_fact s d f g = (λ h. f (d.0 h), λ h. d.1 (g h))

text_decides : (n m : Option (String Global)) → Decides (option_eq string_eq n m) (option_map string_bytes n ≡ option_map string_bytes m)
text_decides None None = (λ h. refl, λ h. refl)
text_decides None (Some m) = (λ h. absurd (false≢true h), λ h. cc)
text_decides (Some n) None = (λ h. absurd (false≢true h), λ h. cc)
text_decides (Some n) (Some m) =
    let d : Decides (string_eq n m) (string_bytes n ≡ string_bytes m) = bytes_decides (string_bytes n) (string_bytes m) in
    (λ h. ap Some (d.0 h), λ h. d.1 (let e : string_bytes n ≡ string_bytes m = cc in e))

number_decides : (a b : ℕ) → Decides (nat_eq a b) (a ≡ b)
number_decides a b = search (rules, tests)

handle_decides : (a b : ℕ) → Decides (nat_eq a b && true) (a ≡ b)
handle_decides a b = search (rules, tests)

option_decides : {E : ℕ → ℕ → Bool} → ((x y : ℕ) → Decides (E x y) (x ≡ y)) → (a b : Option ℕ) → Decides (option_eq E a b) (a ≡ b)
option_decides d None None = (λ h. refl, λ h. refl)
option_decides d None (Some y) = (λ h. absurd (false≢true h), λ h. cc)
option_decides d (Some x) None = (λ h. absurd (false≢true h), λ h. cc)
option_decides d (Some x) (Some y) = (λ h. ap Some ((d x y).0 h), λ h. (d x y).1 (let e : x ≡ y = cc in e))

abbrev member : Text → Option ℕ → ℕ → Member
member n b o = record { name = n; binding = b; offset = o }

member_same : (a b : StructMember) → (option_map string_bytes a.name ≡ option_map string_bytes b.name) × ((a.ty ≡ b.ty) × ((a.binding ≡ b.binding) × (a.offset ≡ b.offset))) → (member_label a ≡ member_label b) × (member_type a ≡ member_type b)
member_same a b h =
    (ap (λ v. member v a.binding a.offset) h.0 ∙ ap (λ v. member (option_map string_bytes b.name) v a.offset) h.1.1.0 ∙ ap (member (option_map string_bytes b.name) b.binding) h.1.1.1, ap (λ v. Some (TypeItem v)) h.1.0)

member_back : (a b : StructMember) → (member_label a ≡ member_label b) × (member_type a ≡ member_type b) → (option_map string_bytes a.name ≡ option_map string_bytes b.name) × ((a.ty ≡ b.ty) × ((a.binding ≡ b.binding) × (a.offset ≡ b.offset)))
member_back a b h =
    let t : a.ty ≡ b.ty = let e = h.1 in cc in
    (ap (λ (m : Member). m.name) h.0, (t, (ap (λ (m : Member). m.binding) h.0, ap (λ (m : Member). m.offset) h.0)))

member_decides : (a b : StructMember) → Decides (member_ghosts.eq a b) ((member_label a ≡ member_label b) × (member_type a ≡ member_type b))
member_decides a b = same_fact _ (and_decides _ _ (text_decides a.name b.name) (and_decides _ _ (handle_decides a.ty b.ty) (and_decides _ _ (option_decides number_decides a.binding b.binding) (number_decides a.offset b.offset)))) (member_same a b) (member_back a b)

size_decides : (a b : ArraySize) → Decides (size_ghosts.eq a b) ((size_plain a ≡ size_plain b) × (size_name a ≡ size_name b))
size_decides (Constant n) (Constant m) = search (rules, tests)
size_decides (Constant n) (Pending m) = (λ h. absurd (false≢true h), λ h. let e = h.0 in cc)
size_decides (Constant n) Dynamic = (λ h. absurd (false≢true h), λ h. let e = h.0 in cc)
size_decides (Pending n) (Constant m) = (λ h. absurd (false≢true h), λ h. let e = h.0 in cc)
size_decides (Pending n) (Pending m) = search (rules, tests)
size_decides (Pending n) Dynamic = (λ h. absurd (false≢true h), λ h. let e = h.0 in cc)
size_decides Dynamic (Constant m) = (λ h. absurd (false≢true h), λ h. let e = h.0 in cc)
size_decides Dynamic (Pending m) = (λ h. absurd (false≢true h), λ h. let e = h.0 in cc)
size_decides Dynamic Dynamic = (λ h. (refl, refl), λ h. refl)

members_decide : (xs ys : List StructMember) → Decides (pointwise member_ghosts.eq xs ys) ((map member_label xs ≡ map member_label ys) × (map member_type xs ≡ map member_type ys))
members_decide [] [] = (λ h. (refl, refl), λ h. refl)
members_decide [] (b ∷ ys) = (λ h. absurd (false≢true h), λ h. let e = h.0 in cc)
members_decide (a ∷ xs) [] = (λ h. absurd (false≢true h), λ h. let e = h.0 in cc)
members_decide (a ∷ xs) (b ∷ ys) = same_fact _ (and_decides _ _ (member_decides a b) (members_decide xs ys)) (λ h. let l = h.0.0 in let t = h.0.1 in let m = h.1.0 in let u = h.1.1 in (cc, cc)) (λ h. let l = h.0 in let t = h.1 in ((cc, cc), (cc, cc)))

label_plain : (i j : Row) → i ≡ j → i.label.plain ≡ j.label.plain
label_plain i j e = ap (λ (r : Row). r.label.plain) e

first_number : (a b : ℕ) (xs ys : List (Option ℕ)) → ◌≡◌ {A = List (Option ℕ)} (Some a ∷ xs) (Some b ∷ ys) → a ≡ b
first_number a b xs ys e = cc

rest_numbers : (a b : Option ℕ) (xs ys : List (Option ℕ)) → a ∷ xs ≡ b ∷ ys → xs ≡ ys
rest_numbers a b xs ys e = cc

first_type : (a b : ℕ) (xs ys : List (Option ItemPlace)) → ◌≡◌ {A = List (Option ItemPlace)} (Some (TypeItem a) ∷ xs) (Some (TypeItem b) ∷ ys) → a ≡ b
first_type a b xs ys e = cc

second_name : (a b c d : Option ItemPlace) → ◌≡◌ {A = List (Option ItemPlace)} (a ∷ c ∷ []) (b ∷ d ∷ []) → c ≡ d
second_name a b c d e = cc

inner_decides : (a b : TypeInner) → Decides (inner_ghosts.eq a b) (inner_row None a ≡ inner_row None b)
inner_decides (Scalar a) (Scalar b) = same_fact _ (number_decides a b) (λ h. ap (λ v. inner_row None (Scalar v)) h) (λ h. first_number a b [] [] (label_plain _ _ h))
inner_decides (Vector a) (Vector b) = same_fact _ (number_decides a b) (λ h. ap (λ v. inner_row None (Vector v)) h) (λ h. first_number a b [] [] (label_plain _ _ h))
inner_decides (Matrix a) (Matrix b) = same_fact _ (number_decides a b) (λ h. ap (λ v. inner_row None (Matrix v)) h) (λ h. first_number a b [] [] (label_plain _ _ h))
inner_decides (ValuePointer a) (ValuePointer b) = same_fact _ (number_decides a b) (λ h. ap (λ v. inner_row None (ValuePointer v)) h) (λ h. first_number a b [] [] (label_plain _ _ h))
inner_decides (Image a) (Image b) = same_fact _ (number_decides a b) (λ h. ap (λ v. inner_row None (Image v)) h) (λ h. first_number a b [] [] (label_plain _ _ h))
inner_decides (Sampler a) (Sampler b) = same_fact _ (number_decides a b) (λ h. ap (λ v. inner_row None (Sampler v)) h) (λ h. first_number a b [] [] (label_plain _ _ h))
inner_decides (Atomic a) (Atomic b) = same_fact _ (number_decides a b) (λ h. ap (λ v. inner_row None (Atomic v)) h) (λ h. first_number a b [] [] (label_plain _ _ h))
inner_decides (AccelerationStructure a) (AccelerationStructure b) = same_fact _ (number_decides a b) (λ h. ap (λ v. inner_row None (AccelerationStructure v)) h) (λ h. first_number a b [] [] (label_plain _ _ h))
inner_decides (RayQuery a) (RayQuery b) = same_fact _ (number_decides a b) (λ h. ap (λ v. inner_row None (RayQuery v)) h) (λ h. first_number a b [] [] (label_plain _ _ h))
inner_decides (Pointer a s) (Pointer b t) = same_fact _ (and_decides _ _ (handle_decides a b) (number_decides s t)) (λ h. ap (λ v. inner_row None (Pointer v s)) h.0 ∙ ap (λ v. inner_row None (Pointer b v)) h.1) (λ h. (first_type a b [] [] (ap (λ (r : Row). r.names) h), first_number s t [] [] (label_plain _ _ h)))
inner_decides (Struct a s) (Struct b t) = same_fact _ (and_decides _ _ (members_decide a.items b.items) (number_decides s t)) (λ h. ap (λ v. row (TypeKind 10) None (Some s ∷ []) v (map member_type a.items)) h.0.0 ∙ ap (λ v. row (TypeKind 10) None (Some s ∷ []) (map member_label b.items) v) h.0.1 ∙ ap (λ v. row (TypeKind 10) None (Some v ∷ []) (map member_label b.items) (map member_type b.items)) h.1) (λ h. ((ap (λ (r : Row). r.label.members) h, ap (λ (r : Row). r.names) h), first_number s t [] [] (label_plain _ _ h)))
inner_decides (Array a s k) (Array b t l) = same_fact _ (and_decides _ _ (handle_decides a b) (and_decides _ _ (size_decides s t) (number_decides k l))) (λ h. ap (λ v. row (TypeKind 11) None (Some k ∷ size_plain s) [] (Some (TypeItem v) ∷ size_name s ∷ [])) h.0 ∙ ap (λ v. row (TypeKind 11) None (Some k ∷ v) [] (Some (TypeItem b) ∷ size_name s ∷ [])) h.1.0.0 ∙ ap (λ v. row (TypeKind 11) None (Some k ∷ size_plain t) [] (Some (TypeItem b) ∷ v ∷ [])) h.1.0.1 ∙ ap (λ v. row (TypeKind 11) None (Some v ∷ size_plain t) [] (Some (TypeItem b) ∷ size_name t ∷ [])) h.1.1) (λ h. (first_type a b _ _ (ap (λ (r : Row). r.names) h), ((rest_numbers (Some k) (Some l) _ _ (label_plain _ _ h), second_name _ _ _ _ (ap (λ (r : Row). r.names) h)), first_number k l _ _ (label_plain _ _ h))))
inner_decides (BindingArray a s) (BindingArray b t) = same_fact _ (and_decides _ _ (handle_decides a b) (size_decides s t)) (λ h. ap (λ v. row (TypeKind 12) None (size_plain s) [] (Some (TypeItem v) ∷ size_name s ∷ [])) h.0 ∙ ap (λ v. row (TypeKind 12) None v [] (Some (TypeItem b) ∷ size_name s ∷ [])) h.1.0 ∙ ap (λ v. row (TypeKind 12) None (size_plain t) [] (Some (TypeItem b) ∷ v ∷ [])) h.1.1) (λ h. (first_type a b _ _ (ap (λ (r : Row). r.names) h), (label_plain _ _ h, second_name _ _ _ _ (ap (λ (r : Row). r.names) h))))
inner_decides _ _ = (λ h. absurd (false≢true h), λ h. let k = ap (λ (r : Row). r.label.kind) h in cc)

-- a row with another name
abbrev named_row : Text → Row → Row
named_row n r = row r.label.kind n r.label.plain r.label.members r.names

inner_row-named : (n : Text) (i : TypeInner) → inner_row n i ≡ named_row n (inner_row None i)
inner_row-named n (Scalar c) = refl
inner_row-named n (Vector c) = refl
inner_row-named n (Matrix c) = refl
inner_row-named n (ValuePointer c) = refl
inner_row-named n (Image c) = refl
inner_row-named n (Sampler c) = refl
inner_row-named n (Atomic c) = refl
inner_row-named n (AccelerationStructure c) = refl
inner_row-named n (RayQuery c) = refl
inner_row-named n (Pointer base space) = refl
inner_row-named n (Struct members span) = refl
inner_row-named n (Array base size stride) = refl
inner_row-named n (BindingArray base size) = refl

inner_row-unnamed : (n : Text) (i : TypeInner) → inner_row None i ≡ named_row None (inner_row n i)
inner_row-unnamed n i = inner_row-named None i ∙ ap (named_row None) (sym (inner_row-named n i))

inner_row-name : (n : Text) (i : TypeInner) → (inner_row n i).label.name ≡ n
inner_row-name n i = ap (λ (r : Row). r.label.name) (inner_row-named n i)

type_same : (n m : Text) (i j : TypeInner) → (n ≡ m) × (inner_row None i ≡ inner_row None j) → inner_row n i ≡ inner_row m j
type_same n m i j h = ap (λ v. inner_row v i) h.0 ∙ inner_row-named m i ∙ ap (named_row m) h.1 ∙ sym (inner_row-named m j)

type_back : (n m : Text) (i j : TypeInner) → inner_row n i ≡ inner_row m j → (n ≡ m) × (inner_row None i ≡ inner_row None j)
type_back n m i j h =
    (sym (inner_row-name n i) ∙ ap (λ (r : Row). r.label.name) h ∙ inner_row-name m j, inner_row-unnamed n i ∙ ap (named_row None) h ∙ sym (inner_row-unnamed m j))

-- the derived equality of two types decides whether their rows are equal
pub type_decides : (a b : TypeOfShader) → Decides (type_ghosts.eq a b) (type_row a ≡ type_row b)
type_decides a b = same_fact _ (and_decides _ _ (text_decides a.name b.name) (inner_decides a.inner b.inner)) (type_same _ _ a.inner b.inner) (type_back _ _ a.inner b.inner)

abbrev two : Kind → Text → List (Option ℕ) → ℕ → Option ItemPlace → Row
two k n p t e = row k n p [] (Some (TypeItem t) ∷ e ∷ [])

first_plain : (a b : Option ℕ) (xs ys : List (Option ℕ)) → a ∷ xs ≡ b ∷ ys → a ≡ b
first_plain a b xs ys e = cc

second_plain : (a b c d : Option ℕ) → ◌≡◌ {A = List (Option ℕ)} (a ∷ c ∷ []) (b ∷ d ∷ []) → c ≡ d
second_plain a b c d e = cc

expression_inj : (a b : ℕ) → Some (ExpressionItem a) ≡ Some (ExpressionItem b) → a ≡ b
expression_inj a b e = cc

init_inj : (a b : Option ℕ) → option_map ExpressionItem a ≡ option_map ExpressionItem b → a ≡ b
init_inj None None e = refl
init_inj None (Some b) e = cc
init_inj (Some a) None e = cc
init_inj (Some a) (Some b) e = ap Some (expression_inj a b e)

pub constant_decides : (a b : ConstantItself) → Decides (constant_ghosts.eq a b) (constant_row a ≡ constant_row b)
constant_decides a b = same_fact _ (and_decides _ _ (text_decides a.name b.name) (and_decides _ _ (handle_decides a.ty b.ty) (handle_decides a.init b.init))) (λ h. ap (λ v. two ConstantKind v [] a.ty (Some (ExpressionItem a.init))) h.0 ∙ ap (λ v. two ConstantKind (option_map string_bytes b.name) [] v (Some (ExpressionItem a.init))) h.1.0 ∙ ap (λ v. two ConstantKind (option_map string_bytes b.name) [] b.ty (Some (ExpressionItem v))) h.1.1) (λ h. (ap (λ (r : Row). r.label.name) h, (first_type _ _ _ _ (ap (λ (r : Row). r.names) h), expression_inj _ _ (second_name _ _ _ _ (ap (λ (r : Row). r.names) h)))))

pub override_decides : (a b : OverrideItself) → Decides (override_ghosts.eq a b) (override_row a ≡ override_row b)
override_decides a b = same_fact _ (and_decides _ _ (text_decides a.name b.name) (and_decides _ _ (option_decides number_decides a.id b.id) (and_decides _ _ (handle_decides a.ty b.ty) (option_decides handle_decides a.init b.init)))) (λ h. ap (λ v. two OverrideKind v (a.id ∷ []) a.ty (option_map ExpressionItem a.init)) h.0 ∙ ap (λ v. two OverrideKind (option_map string_bytes b.name) (v ∷ []) a.ty (option_map ExpressionItem a.init)) h.1.0 ∙ ap (λ v. two OverrideKind (option_map string_bytes b.name) (b.id ∷ []) v (option_map ExpressionItem a.init)) h.1.1.0 ∙ ap (λ v. two OverrideKind (option_map string_bytes b.name) (b.id ∷ []) b.ty (option_map ExpressionItem v)) h.1.1.1) (λ h. (ap (λ (r : Row). r.label.name) h, (first_plain _ _ [] [] (label_plain _ _ h), (first_type _ _ _ _ (ap (λ (r : Row). r.names) h), init_inj _ _ (second_name _ _ _ _ (ap (λ (r : Row). r.names) h))))))

pub global_decides : (a b : GlobalItself) → Decides (global_ghosts.eq a b) (global_row a ≡ global_row b)
global_decides a b = same_fact _ (and_decides _ _ (text_decides a.name b.name) (and_decides _ _ (number_decides a.space b.space) (and_decides _ _ (option_decides number_decides a.binding b.binding) (and_decides _ _ (handle_decides a.ty b.ty) (option_decides handle_decides a.init b.init))))) (λ h. ap (λ v. two GlobalKind v (Some a.space ∷ a.binding ∷ []) a.ty (option_map ExpressionItem a.init)) h.0 ∙ ap (λ v. two GlobalKind (option_map string_bytes b.name) (Some v ∷ a.binding ∷ []) a.ty (option_map ExpressionItem a.init)) h.1.0 ∙ ap (λ v. two GlobalKind (option_map string_bytes b.name) (Some b.space ∷ v ∷ []) a.ty (option_map ExpressionItem a.init)) h.1.1.0 ∙ ap (λ v. two GlobalKind (option_map string_bytes b.name) (Some b.space ∷ b.binding ∷ []) v (option_map ExpressionItem a.init)) h.1.1.1.0 ∙ ap (λ v. two GlobalKind (option_map string_bytes b.name) (Some b.space ∷ b.binding ∷ []) b.ty (option_map ExpressionItem v)) h.1.1.1.1) (λ h. (ap (λ (r : Row). r.label.name) h, (first_number _ _ _ _ (label_plain _ _ h), (second_plain _ _ _ _ (label_plain _ _ h), (first_type _ _ _ _ (ap (λ (r : Row). r.names) h), init_inj _ _ (second_name _ _ _ _ (ap (λ (r : Row). r.names) h)))))))

numbers_inj : (xs ys : List ℕ) → map Some xs ≡ map Some ys → xs ≡ ys
numbers_inj [] [] e = refl
numbers_inj [] (y ∷ ys) e = cc
numbers_inj (x ∷ xs) [] e = cc
numbers_inj (x ∷ xs) (y ∷ ys) e = let t : map Some xs ≡ map Some ys = cc in let k = numbers_inj xs ys t in cc

operands_inj : (xs ys : List (Option ℕ)) → map (option_map ExpressionItem) xs ≡ map (option_map ExpressionItem) ys → xs ≡ ys
operands_inj [] [] e = refl
operands_inj [] (y ∷ ys) e = cc
operands_inj (x ∷ xs) [] e = cc
operands_inj (x ∷ xs) (y ∷ ys) e =
    let t : map (option_map ExpressionItem) xs ≡ map (option_map ExpressionItem) ys = cc in
    let h : option_map ExpressionItem x ≡ option_map ExpressionItem y = cc in
    let k = operands_inj xs ys t in
    let l = init_inj x y h in
    cc

named_inj : (n m : Named) → named_rest n ≡ named_rest m → named_place n ≡ named_place m → n ≡ m
named_inj Nothing Nothing e f = refl
named_inj (TypeOf h) (TypeOf k) e f = cc
named_inj (ConstantAt h) (ConstantAt k) e f = cc
named_inj (OverrideAt h) (OverrideAt k) e f = cc
named_inj (GlobalAt h) (GlobalAt k) e f = cc
named_inj (LocalAt h) (LocalAt k) e f = cc
named_inj (ArgumentAt h) (ArgumentAt k) e f = cc
named_inj (FunctionAt h) (FunctionAt k) e f = cc
named_inj _ _ e f = cc

kind_number : (n m : ℕ) (r s : Named) → ExpressionKind n r ≡ ExpressionKind m s → (n ≡ m) × (r ≡ s)
kind_number n m r s e = (cc, cc)

first_name : (a b : Option ItemPlace) (xs ys : List (Option ItemPlace)) → a ∷ xs ≡ b ∷ ys → (a ≡ b) × (xs ≡ ys)
first_name a b xs ys e = (cc, cc)

parts_inj : (p q : Parts) → parts_row p ≡ parts_row q → p ≡ q
parts_inj p q e =
    let k = kind_number _ _ _ _ (ap (λ (r : Row). r.label.kind) e) in
    let n = first_name _ _ _ _ (ap (λ (r : Row). r.names) e) in
    let m = named_inj p.named q.named k.1 n.0 in
    let o = operands_inj p.operands q.operands n.1 in
    let l = numbers_inj p.plain q.plain (label_plain _ _ e) in
    ap (λ v. expr v p.plain p.named p.operands) k.0 ∙ ap (λ v. expr q.kind v p.named p.operands) l ∙ ap (λ v. expr q.kind q.plain v p.operands) m ∙ ap (λ v. expr q.kind q.plain q.named v) o

pub expression_decides : (a b : Expression) → Decides (expression_ghosts.eq a b) (expression_row a ≡ expression_row b)
expression_decides a b = (λ h. ap parts_row (same a b h), λ h. back a b (parts_inj (parts a) (parts b) h))
