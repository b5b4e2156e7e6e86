use Rattle.std.proofs.Common.{◌≡◌, ◌⊎◌, inl, inr, ⊎_elim, ℕ, zero, suc, ◌<◌, ◌≤◌, ◌+◌, ◌*◌, Bool, true, false, List, [], ◌∷◌, map, length, Option, Some, None, option_map, slice_get, refl, ap, sym, ◌∙◌, subst, arith, All, IfSome, option_to_list, ◌||◌, ◌==◌, if◌then◌else◌}
use Rattle.std.specs.List.{filter_map, flat_map, list_any}
use Rattle.std.specs.Option.{option_flatten}
use Rattle.std.proofs.lemmas.Bool.{or_cases, false≢true}
use Rattle.std.proofs.lemmas.List.Folds.{list_any-append}
use Rattle.std.proofs.lemmas.List.{length-map}
use Rattle.std.proofs.lemmas.List.Elements.{All-head, All-tail, All-cons, All-nil}
use Rattle.std.proofs.lemmas.Option.{slice_get-map, slice_get_within}
use Rattle.naga_oil_form.specs.BodyForm.{operand_links, kinds}
use Rattle.naga_oil_ir.specs.Parts.{Parts, parts}
use Rattle.naga_oil_ir.specs.Rows.{Row, Text, inner_row, type_row, constant_row, override_row, global_row, expression_row, member_type, size_name, named_place}
use Rattle.naga_oil_form.specs.Links.{Links, AreEarlier, linked, trail, has, is_marked, reaches}
use Rattle.naga_oil_form.specs.ItemForm.{IsThere as IsPlaceThere, type_at, types_named, types_of, type_links, is_override, pending, is_sized, initialiser, init_of_constant, init_of_override, ItemForm, IsGlobalKind, NamesForm, ExpressionForm}
use Rattle.naga_oil_ir.specs.declared.module.Module.{Module}
use Rattle.naga_oil_ir.specs.declared.span.Span.{Span}
use Rattle.naga_oil_ir.specs.declared.types.Type.{«Type» as TypeOfShader}
use Rattle.naga_oil_ir.specs.declared.types.StructMember.{StructMember}
use Rattle.naga_oil_ir.specs.declared.types.Constant.{Constant as ConstantItself}
use Rattle.naga_oil_ir.specs.declared.types.Override.{Override as OverrideItself}
use Rattle.naga_oil_ir.specs.declared.types.GlobalVariable.{GlobalVariable as GlobalItself}
use Rattle.naga_oil_ir.specs.declared.types.ArraySize.{ArraySize}
use Rattle.naga_oil_ir.specs.declared.types.ArraySize.TheVariants.{Constant, Pending, Dynamic}
use Rattle.naga_oil_ir.specs.declared.types.TypeInner.{TypeInner}
use Rattle.naga_oil_ir.specs.declared.types.TypeInner.TheVariants.{Scalar, Vector, Matrix, ValuePointer, Image, Sampler, Atomic, AccelerationStructure, RayQuery, Pointer, Struct, Array, BindingArray}
use Rattle.naga_oil_ir.specs.declared.expression.Expression.{Expression}
use Rattle.naga_oil_ir.specs.declared.expression.Expression.TheVariants.{GlobalVariable}
use Rattle.naga_oil_ir.specs.declared.parts.Named.{Named}
use Rattle.naga_oil_ir.specs.declared.parts.Named.TheVariants.{Nothing, TypeOf, ConstantAt, OverrideAt, GlobalAt, LocalAt, ArgumentAt, FunctionAt}
use Rattle.naga_oil_ir.specs.declared.names.ItemPlace.{ItemPlace}
use Rattle.naga_oil_ir.specs.declared.names.ItemPlace.TheVariants.{TypeItem, ConstantItem, OverrideItem, GlobalItem, ExpressionItem}
use Rattle.naga_oil_form.proofs.LinkLemmas.{or_left, or_right, eqb_eq, All-has, All-from_has, trail-step, linked-map, marked-map}
use Rattle.naga_oil_derive.specs.World.{value_of, world}
use Rattle.naga_oil_derive.specs.Collected.{depth}
use Rattle.naga_oil_derive.specs.Copying.{IsThere, rank_after, rank, IsBelowItem, AreRanked}
use Rattle.naga_oil_derive.specs.Copyable.{CopyableItems}
use Rattle.naga_oil_derive.proofs.WorldLemmas.{rows, world_type, world_constant, world_override, world_global, world_expression}

-- ---- a type that names a sized one is sized

up_flat : (p : ℕ → Bool) (f : ℕ → List ℕ) (xs : List ℕ) (j : ℕ) → has xs j ≡ true → list_any p (f j) ≡ true → list_any p (flat_map f xs) ≡ true
up_flat p f [] j h i = absurd (false≢true h)
up_flat p f (x ∷ xs) j h i =
    list_any-append p (f x) (flat_map f xs) ∙ ⊎_elim (λ e. or_left (list_any p (f x)) (list_any p (flat_map f xs)) (ap (λ y. list_any p (f y)) (eqb_eq x j e) ∙ i)) (λ e. or_right (list_any p (f x)) (list_any p (flat_map f xs)) (up_flat p f xs j e i)) (or_cases (x == j) (has xs j) h)

reaches_up : (ls : Links) (fs : List Bool) → AreEarlier ls → (k j : ℕ) → has (linked ls k) j ≡ true → reaches ls fs j ≡ true → reaches ls fs k ≡ true
reaches_up ls fs a k j h i =
    ap (list_any (is_marked fs)) (trail-step ls a k) ∙ list_any-append (is_marked fs) (flat_map (trail ls) (linked ls k)) (k ∷ []) ∙ or_left (list_any (is_marked fs) (flat_map (trail ls) (linked ls k))) (list_any (is_marked fs) (k ∷ [])) (up_flat (is_marked fs) (trail ls) (linked ls k) j h i)

reaches_itself : (ls : Links) (fs : List Bool) → AreEarlier ls → (k : ℕ) → is_marked fs k ≡ true → reaches ls fs k ≡ true
reaches_itself ls fs a k h =
    ap (list_any (is_marked fs)) (trail-step ls a k) ∙ list_any-append (is_marked fs) (flat_map (trail ls) (linked ls k)) (k ∷ []) ∙ or_right (list_any (is_marked fs) (flat_map (trail ls) (linked ls k))) (list_any (is_marked fs) (k ∷ [])) (or_left (is_marked fs k) false h)

-- ---- what is there

one_row : {X : Type 0} (f : X → Row) (o : Option (X × Span)) (r : Row) → option_map (λ e. f e.0) o ≡ Some r → (e : X × Span) × (o ≡ Some e) × (f e.0 ≡ r)
one_row f None r h = cc
one_row f (Some x) r h = (x, refl, (let q : f x.0 ≡ r = cc in q))

get_in : {X : Type 0} (xs : List X) (k : ℕ) → k < length xs → (x : X) × (slice_get xs k ≡ Some x)
get_in [] k h = absurd (omega arith)
get_in (x ∷ xs) zero h = (x, refl)
get_in (x ∷ xs) (suc k) h = get_in xs k (omega arith)

row_in : {X : Type 0} (f : X → Row) (xs : List (X × Span)) (k : ℕ) (w : Option Row) → w ≡ rows f xs k → k < length xs → (r : Row) × (w ≡ Some r)
row_in f xs k w e h = let x = get_in xs k h in (f x.0.0, e ∙ ap (option_map (λ v. f v.0)) x.1)

pub place_there : (m : Module) (p : ItemPlace) → IsPlaceThere m p → IsThere m p
place_there m (TypeItem k) h = row_in type_row m.types k _ (world_type m k) h
place_there m (ConstantItem k) h = row_in constant_row m.constants k _ (world_constant m k) h
place_there m (OverrideItem k) h = row_in override_row m.overrides k _ (world_override m k) h
place_there m (GlobalItem k) h = row_in global_row m.global_variables k _ (world_global m k) h
place_there m (ExpressionItem k) h = row_in expression_row m.global_expressions k _ (world_expression m k) h

-- ---- ranks

-- where the ranks of sized types begin
abbrev top : Module → ℕ
top m = length m.types + 2 * length m.global_expressions + 1

rank_unsized : (m : Module) (k : ℕ) → is_sized m k ≡ false → rank m (TypeItem k) ≡ k
unfolding rank
rank_unsized m k h = ap (λ b. if b then top m + k else k) h

rank_sized : (m : Module) (k : ℕ) → is_sized m k ≡ true → rank m (TypeItem k) ≡ top m + k
unfolding rank
rank_sized m k h = ap (λ b. if b then top m + k else k) h

sized_or_not : (b : Bool) → (b ≡ true) ⊎ (b ≡ false)
sized_or_not true = inl refl
sized_or_not false = inr refl

rank_type : (m : Module) (k : ℕ) → rank m (TypeItem k) ≤ top m + k
rank_type m k = ⊎_elim (λ e. let h = rank_sized m k e in omega (arith, h)) (λ e. let h = rank_unsized m k e in omega (arith, h)) (sized_or_not (is_sized m k))

rank_below : (m : Module) (j k : ℕ) → j < k → (is_sized m j ≡ true → is_sized m k ≡ true) → rank m (TypeItem j) < rank m (TypeItem k)
rank_below m j k l up =
    ⊎_elim (λ e. let h = rank_sized m k e in let i = rank_type m j in omega (arith, h, i)) (λ e. ⊎_elim (λ s. absurd (false≢true (sym e ∙ up s))) (λ s. let h = rank_unsized m k e in let i = rank_unsized m j s in omega (arith, h, i)) (sized_or_not (is_sized m j))) (sized_or_not (is_sized m k))

after_bound : (n b : ℕ) (o : Option ℕ) → IfSome o (λ i. i < b) → (n ≤ rank_after n o) × (rank_after n o ≤ n + 2 * b)
after_bound n b None h = (omega arith, omega arith)
after_bound n b (Some i) h = (omega arith, omega arith)

rank_constant : (m : Module) (k : ℕ) (e : ConstantItself × Span) → slice_get m.constants k ≡ Some e → rank m (ConstantItem k) ≡ rank_after (length m.types) (Some e.0.init)
unfolding rank
rank_constant m k e h = ap (λ o. rank_after (length m.types) (option_map (λ x. x.0.init) o)) h

rank_override : (m : Module) (k : ℕ) (e : OverrideItself × Span) → slice_get m.overrides k ≡ Some e → rank m (OverrideItem k) ≡ rank_after (length m.types) e.0.init
unfolding rank
rank_override m k e h = ap (λ o. rank_after (length m.types) (option_flatten (option_map (λ x. x.0.init) o))) h

rank_expression : (m : Module) (k : ℕ) → rank m (ExpressionItem k) ≡ length m.types + 2 * k + 1
unfolding rank
rank_expression m k = refl

rank_global : (m : Module) (k : ℕ) → rank m (GlobalItem k) ≡ 2 * length m.types + 2 * length m.global_expressions + 1
unfolding rank
rank_global m k = refl

below : (m : Module) (p q : ItemPlace) → IsPlaceThere m q → rank m q < rank m p → IsBelowItem m p (Some q)
below m p q t l = (place_there m q t, l)

-- ---- names

-- what holds of the types that a list names, and of its other places
all_names : (m : Module) (P R : ItemPlace → Type 0) (Q : ℕ → Type 0) → ((j : ℕ) → IsPlaceThere m (TypeItem j) → Q j → P (TypeItem j)) → ((q : ItemPlace) → type_at (Some q) ≡ None → IsPlaceThere m q → R q → P q) → (ns : List (Option ItemPlace)) → All (λ o. IfSome o (IsPlaceThere m)) ns → All (λ o. IfSome o R) ns → All Q (filter_map type_at ns) → All (λ o. IfSome o P) ns
all_names m P R Q f g [] a r b = All-nil (λ o. IfSome o P)
all_names m P R Q f g (None ∷ ns) a r b = All-cons (λ o. IfSome o P) None ns tt (all_names m P R Q f g ns (All-tail (λ o. IfSome o (IsPlaceThere m)) None ns a) (All-tail (λ o. IfSome o R) None ns r) b)
all_names m P R Q f g (Some (TypeItem j) ∷ ns) a r b = All-cons (λ o. IfSome o P) (Some (TypeItem j)) ns (f j (All-head (λ o. IfSome o (IsPlaceThere m)) (Some (TypeItem j)) ns a) (All-head Q j (filter_map type_at ns) b)) (all_names m P R Q f g ns (All-tail (λ o. IfSome o (IsPlaceThere m)) (Some (TypeItem j)) ns a) (All-tail (λ o. IfSome o R) (Some (TypeItem j)) ns r) (All-tail Q j (filter_map type_at ns) b))
all_names m P R Q f g (Some (ConstantItem j) ∷ ns) a r b = All-cons (λ o. IfSome o P) (Some (ConstantItem j)) ns (g (ConstantItem j) refl (All-head (λ o. IfSome o (IsPlaceThere m)) (Some (ConstantItem j)) ns a) (All-head (λ o. IfSome o R) (Some (ConstantItem j)) ns r)) (all_names m P R Q f g ns (All-tail (λ o. IfSome o (IsPlaceThere m)) (Some (ConstantItem j)) ns a) (All-tail (λ o. IfSome o R) (Some (ConstantItem j)) ns r) b)
all_names m P R Q f g (Some (OverrideItem j) ∷ ns) a r b = All-cons (λ o. IfSome o P) (Some (OverrideItem j)) ns (g (OverrideItem j) refl (All-head (λ o. IfSome o (IsPlaceThere m)) (Some (OverrideItem j)) ns a) (All-head (λ o. IfSome o R) (Some (OverrideItem j)) ns r)) (all_names m P R Q f g ns (All-tail (λ o. IfSome o (IsPlaceThere m)) (Some (OverrideItem j)) ns a) (All-tail (λ o. IfSome o R) (Some (OverrideItem j)) ns r) b)
all_names m P R Q f g (Some (GlobalItem j) ∷ ns) a r b = All-cons (λ o. IfSome o P) (Some (GlobalItem j)) ns (g (GlobalItem j) refl (All-head (λ o. IfSome o (IsPlaceThere m)) (Some (GlobalItem j)) ns a) (All-head (λ o. IfSome o R) (Some (GlobalItem j)) ns r)) (all_names m P R Q f g ns (All-tail (λ o. IfSome o (IsPlaceThere m)) (Some (GlobalItem j)) ns a) (All-tail (λ o. IfSome o R) (Some (GlobalItem j)) ns r) b)
all_names m P R Q f g (Some (ExpressionItem j) ∷ ns) a r b = All-cons (λ o. IfSome o P) (Some (ExpressionItem j)) ns (g (ExpressionItem j) refl (All-head (λ o. IfSome o (IsPlaceThere m)) (Some (ExpressionItem j)) ns a) (All-head (λ o. IfSome o R) (Some (ExpressionItem j)) ns r)) (all_names m P R Q f g ns (All-tail (λ o. IfSome o (IsPlaceThere m)) (Some (ExpressionItem j)) ns a) (All-tail (λ o. IfSome o R) (Some (ExpressionItem j)) ns r) b)

-- no type of a list passes a test that none of those it names passes
none_passes : (p : ℕ → Bool) (xs : List ℕ) → list_any p xs ≡ false → All (λ k. p k ≡ false) xs
none_passes p [] h = All-nil (λ k. p k ≡ false)
none_passes p (x ∷ xs) h =
    ⊎_elim (λ e. absurd (false≢true (sym h ∙ or_left (p x) (list_any p xs) e))) (λ e. All-cons (λ k. p k ≡ false) x xs e (none_passes p xs (sym (ap (λ b. b || list_any p xs) e) ∙ h))) (sized_or_not (p x))

-- ---- constants and overrides

-- the initialiser, after the type
init_there : (m : Module) (o : Option ℕ) (t : Option ItemPlace) → All (λ n. IfSome n (IsPlaceThere m)) (t ∷ option_map ExpressionItem o ∷ []) → IfSome o (λ i. i < length m.global_expressions)
init_there m None t a = tt
init_there m (Some i) t a = All-head (λ n. IfSome n (IsPlaceThere m)) (Some (ExpressionItem i)) [] (All-tail (λ n. IfSome n (IsPlaceThere m)) t (Some (ExpressionItem i) ∷ []) a)

override_bound : (m : Module) → NamesForm m → (k : ℕ) → IsPlaceThere m (OverrideItem k) → rank m (OverrideItem k) ≤ length m.types + 2 * length m.global_expressions
override_bound m n k h =
    let e = get_in m.overrides k h in
    let w = (n.overrides k e.0 e.1).0 in
    let i = init_there m e.0.0.init (Some (TypeItem e.0.0.ty)) w in
    let b = (after_bound (length m.types) (length m.global_expressions) e.0.0.init i).1 in
    let r = rank_override m k e.0 e.1 in
    omega (arith, b, r)

constant_bound : (m : Module) → NamesForm m → (k : ℕ) → IsPlaceThere m (ConstantItem k) → rank m (ConstantItem k) ≤ length m.types + 2 * length m.global_expressions
constant_bound m n k h =
    let e = get_in m.constants k h in
    let w = (n.constants k e.0 e.1).0 in
    let i = init_there m (Some e.0.0.init) (Some (TypeItem e.0.0.ty)) w in
    let b = (after_bound (length m.types) (length m.global_expressions) (Some e.0.0.init) i).1 in
    let r = rank_constant m k e.0 e.1 in
    omega (arith, b, r)

-- ---- types

-- a type names types, and an override if something holds
abbrev IsTypeOr : Type 0 → ItemPlace → Type 0
IsTypeOr S (TypeItem k) = Unit {0}
IsTypeOr S (ConstantItem k) = ⊥
IsTypeOr S (OverrideItem k) = S
IsTypeOr S (GlobalItem k) = ⊥
IsTypeOr S (ExpressionItem k) = ⊥

member_names : (S : Type 0) (ms : List StructMember) → All (λ o. IfSome o (IsTypeOr S)) (map member_type ms)
member_names S [] = All-nil (λ o. IfSome o (IsTypeOr S))
member_names S (x ∷ ms) = All-cons (λ o. IfSome o (IsTypeOr S)) (member_type x) (map member_type ms) tt (member_names S ms)

one_name : (P : Option ItemPlace → Type 0) (a : Option ItemPlace) → P a → All P (a ∷ [])
one_name P a x = All-cons P a [] x (All-nil P)

two_names : (P : Option ItemPlace → Type 0) (a b : Option ItemPlace) → P a → P b → All P (a ∷ b ∷ [])
two_names P a b x y = All-cons P a (b ∷ []) x (one_name P b y)

sized_names : (S : Type 0) (b : ℕ) (s : ArraySize) → (list_any is_override (Some (TypeItem b) ∷ size_name s ∷ []) ≡ true → S) → All (λ o. IfSome o (IsTypeOr S)) (Some (TypeItem b) ∷ size_name s ∷ [])
sized_names S b (Constant n) f = two_names (λ o. IfSome o (IsTypeOr S)) (Some (TypeItem b)) None tt tt
sized_names S b (Pending h) f = two_names (λ o. IfSome o (IsTypeOr S)) (Some (TypeItem b)) (Some (OverrideItem h)) tt (f refl)
sized_names S b Dynamic f = two_names (λ o. IfSome o (IsTypeOr S)) (Some (TypeItem b)) None tt tt

inner_names : (S : Type 0) (n : Text) (i : TypeInner) → (list_any is_override (inner_row n i).names ≡ true → S) → All (λ o. IfSome o (IsTypeOr S)) (inner_row n i).names
inner_names S n (Scalar c) f = All-nil (λ o. IfSome o (IsTypeOr S))
inner_names S n (Vector c) f = All-nil (λ o. IfSome o (IsTypeOr S))
inner_names S n (Matrix c) f = All-nil (λ o. IfSome o (IsTypeOr S))
inner_names S n (ValuePointer c) f = All-nil (λ o. IfSome o (IsTypeOr S))
inner_names S n (Image c) f = All-nil (λ o. IfSome o (IsTypeOr S))
inner_names S n (Sampler c) f = All-nil (λ o. IfSome o (IsTypeOr S))
inner_names S n (Atomic c) f = All-nil (λ o. IfSome o (IsTypeOr S))
inner_names S n (AccelerationStructure c) f = All-nil (λ o. IfSome o (IsTypeOr S))
inner_names S n (RayQuery c) f = All-nil (λ o. IfSome o (IsTypeOr S))
inner_names S n (Pointer base space) f = one_name (λ o. IfSome o (IsTypeOr S)) (Some (TypeItem base)) tt
inner_names S n (Struct members span) f = member_names S members.items
inner_names S n (Array base size stride) f = sized_names S base size f
inner_names S n (BindingArray base size) f = sized_names S base size f

other_name : (m : Module) → NamesForm m → (k : ℕ) (q : ItemPlace) → type_at (Some q) ≡ None → IsPlaceThere m q → IsTypeOr (is_sized m k ≡ true) q → IsThere m q × (rank m q < rank m (TypeItem k))
other_name m n k (TypeItem j) e h s = cc
other_name m n k (ConstantItem j) e h s = absurd s
other_name m n k (OverrideItem j) e h s = let b = override_bound m n j h in let r = rank_sized m k s in (place_there m (OverrideItem j) h, omega (arith, b, r))
other_name m n k (GlobalItem j) e h s = absurd s
other_name m n k (ExpressionItem j) e h s = absurd s

abbrev Lower : Module → ℕ → ℕ → Type 0
Lower m k j = (j < k) × (is_sized m j ≡ true → is_sized m k ≡ true)

types_below : (m : Module) → CopyableItems m → (k : ℕ) (t : TypeOfShader) → slice_get (types_of m) k ≡ Some t → All (IsBelowItem m (TypeItem k)) (type_row t).names
types_below m i k t at =
    let ls = type_links (types_of m) in
    let is : linked ls k ≡ types_named (type_row t) = linked-map (λ x. types_named (type_row x)) (types_of m) k t at in
    let lower : All (Lower m k) (types_named (type_row t)) = subst (All (Lower m k)) is (All-from_has (Lower m k) (linked ls k) (λ j h. (All-has (λ x. x < k) (linked ls k) j (i.earlier_types k) h, reaches_up ls (pending (types_of m)) i.earlier_types k j h))) in
    let marks : is_marked (pending (types_of m)) k ≡ list_any is_override (type_row t).names = marked-map (λ x. list_any is_override (type_row x).names) (types_of m) k t at in
    let others = inner_names (is_sized m k ≡ true) _ t.inner (λ h. reaches_itself ls (pending (types_of m)) i.earlier_types k (marks ∙ h)) in
    all_names m (λ q. IsThere m q × (rank m q < rank m (TypeItem k))) (IsTypeOr (is_sized m k ≡ true)) (Lower m k) (λ j h l. (place_there m (TypeItem j) h, rank_below m j k l.0 l.1)) (other_name m i.names k) (type_row t).names (i.names.types k t at) others lower

-- ---- constants, overrides and globals

typed_below : (m : Module) (p : ItemPlace) (t : ℕ) (o : Option ℕ) → All (λ n. IfSome n (IsPlaceThere m)) (Some (TypeItem t) ∷ option_map ExpressionItem o ∷ []) → rank m (TypeItem t) < rank m p → ((j : ℕ) → o ≡ Some j → rank m (ExpressionItem j) < rank m p) → All (IsBelowItem m p) (Some (TypeItem t) ∷ option_map ExpressionItem o ∷ [])
typed_below m p t None a l f = two_names (IsBelowItem m p) (Some (TypeItem t)) None (below m p (TypeItem t) (All-head (λ n. IfSome n (IsPlaceThere m)) (Some (TypeItem t)) (None ∷ []) a) l) tt
typed_below m p t (Some j) a l f = two_names (IsBelowItem m p) (Some (TypeItem t)) (Some (ExpressionItem j)) (below m p (TypeItem t) (All-head (λ n. IfSome n (IsPlaceThere m)) (Some (TypeItem t)) (Some (ExpressionItem j) ∷ []) a) l) (below m p (ExpressionItem j) (All-head (λ n. IfSome n (IsPlaceThere m)) (Some (ExpressionItem j)) [] (All-tail (λ n. IfSome n (IsPlaceThere m)) (Some (TypeItem t)) (Some (ExpressionItem j) ∷ []) a)) (f j refl))

-- the type that is named first is there, and isn't sized
type_first : (m : Module) (t : ℕ) (ns : List (Option ItemPlace)) → All (λ n. IfSome n (IsPlaceThere m)) (Some (TypeItem t) ∷ ns) → list_any (is_sized m) (t ∷ filter_map type_at ns) ≡ false → rank m (TypeItem t) < length m.types
type_first m t ns a h =
    let l : t < length m.types = All-head (λ n. IfSome n (IsPlaceThere m)) (Some (TypeItem t)) ns a in
    let u = All-head (λ k. is_sized m k ≡ false) t (filter_map type_at ns) (none_passes (is_sized m) (t ∷ filter_map type_at ns) h) in
    let r = rank_unsized m t u in
    omega (arith, l, r)

-- an initialiser stands below what it initialises
init_below : (n j : ℕ) (o : Option ℕ) → o ≡ Some j → n + 2 * j + 1 < rank_after n o
init_below n j o e = subst (λ v. n + 2 * j + 1 < rank_after n v) (sym e) (omega arith)

constants_below : (m : Module) → NamesForm m → (k : ℕ) (e : ConstantItself × Span) → slice_get m.constants k ≡ Some e → All (IsBelowItem m (ConstantItem k)) (constant_row e.0).names
constants_below m n k e at =
    let w = n.constants k e at in
    let r = rank_constant m k e at in
    let t = type_first m e.0.ty (Some (ExpressionItem e.0.init) ∷ []) w.0 w.1 in
    typed_below m (ConstantItem k) e.0.ty (Some e.0.init) w.0 (omega (arith, r, t)) (λ j h. let b = init_below (length m.types) j (Some e.0.init) h in let x = rank_expression m j in omega (arith, r, b, x))

overrides_below : (m : Module) → NamesForm m → (k : ℕ) (e : OverrideItself × Span) → slice_get m.overrides k ≡ Some e → All (IsBelowItem m (OverrideItem k)) (override_row e.0).names
overrides_below m n k e at =
    let w = n.overrides k e at in
    let r = rank_override m k e at in
    let t = type_first m e.0.ty (option_map ExpressionItem e.0.init ∷ []) w.0 w.1 in
    let l = (after_bound (length m.types) (length m.global_expressions) e.0.init (init_there m e.0.init (Some (TypeItem e.0.ty)) w.0)).0 in
    typed_below m (OverrideItem k) e.0.ty e.0.init w.0 (omega (arith, r, t, l)) (λ j h. let b = init_below (length m.types) j e.0.init h in let x = rank_expression m j in omega (arith, r, b, x))

globals_below : (m : Module) → NamesForm m → (k : ℕ) (e : GlobalItself × Span) → slice_get m.global_variables k ≡ Some e → All (IsBelowItem m (GlobalItem k)) (global_row e.0).names
globals_below m n k e at =
    let w = n.globals k e at in
    let r = rank_global m k in
    let l : e.0.ty < length m.types = All-head (λ o. IfSome o (IsPlaceThere m)) (Some (TypeItem e.0.ty)) (option_map ExpressionItem e.0.init ∷ []) w in
    let t = rank_type m e.0.ty in
    let i = init_there m e.0.init (Some (TypeItem e.0.ty)) w in
    typed_below m (GlobalItem k) e.0.ty e.0.init w (omega (arith, r, t, l)) (λ j h. let b = rw h at i in let x = rank_expression m j in omega (arith, r, b, x))

-- ---- global expressions

operands_below : (m : Module) (k : ℕ) (os : List (Option ℕ)) → All (λ n. IfSome n (IsPlaceThere m)) (map (option_map ExpressionItem) os) → All (λ x. x < k) (flat_map option_to_list os) → All (IsBelowItem m (ExpressionItem k)) (map (option_map ExpressionItem) os)
operands_below m k [] a b = All-nil (IsBelowItem m (ExpressionItem k))
operands_below m k (None ∷ os) a b = All-cons (IsBelowItem m (ExpressionItem k)) None (map (option_map ExpressionItem) os) tt (operands_below m k os (All-tail (λ n. IfSome n (IsPlaceThere m)) None (map (option_map ExpressionItem) os) a) b)
operands_below m k (Some j ∷ os) a b =
    let l : j < k = All-head (λ x. x < k) j (flat_map option_to_list os) b in
    let x = rank_expression m j in
    let y = rank_expression m k in
    let rest = map (option_map ExpressionItem) os in
    All-cons (IsBelowItem m (ExpressionItem k)) (Some (ExpressionItem j)) rest (below m (ExpressionItem k) (ExpressionItem j) (All-head (λ n. IfSome n (IsPlaceThere m)) (Some (ExpressionItem j)) rest a) (omega (arith, l, x, y))) (operands_below m k os (All-tail (λ n. IfSome n (IsPlaceThere m)) (Some (ExpressionItem j)) rest a) (All-tail (λ z. z < k) j (flat_map option_to_list os) b))

constant_init : (o : Option (ConstantItself × Span)) (e : ConstantItself × Span) (k : ℕ) → o ≡ Some e → IfSome (init_of_constant o) (λ i. i < k) → IfSome (Some e.0.init) (λ i. i < k)
constant_init o e k h i = subst (λ v. IfSome (init_of_constant v) (λ i. i < k)) h i

override_init : (o : Option (OverrideItself × Span)) (e : OverrideItself × Span) (k : ℕ) → o ≡ Some e → IfSome (init_of_override o) (λ i. i < k) → IfSome e.0.init (λ i. i < k)
override_init o e k h i = subst (λ v. IfSome (init_of_override v) (λ i. i < k)) h i

named_below : (m : Module) (k : ℕ) (n : Named) (ns : List (Option ItemPlace)) → All (λ o. IfSome o (IsPlaceThere m)) (named_place n ∷ ns) → list_any (is_sized m) (filter_map type_at (named_place n ∷ ns)) ≡ false → IfSome (initialiser m (named_place n)) (λ i. i < k) → ((g : ℕ) → n ≡ GlobalAt g → ⊥) → IsBelowItem m (ExpressionItem k) (named_place n)
named_below m k Nothing ns a u i g = tt
named_below m k (TypeOf t) ns a u i g =
    let l = type_first m t ns a u in
    let x = rank_expression m k in
    below m (ExpressionItem k) (TypeItem t) (All-head (λ o. IfSome o (IsPlaceThere m)) (Some (TypeItem t)) ns a) (omega (arith, l, x))
named_below m k (ConstantAt c) ns a u i g =
    let h : c < length m.constants = All-head (λ o. IfSome o (IsPlaceThere m)) (Some (ConstantItem c)) ns a in
    let e = get_in m.constants c h in
    let b = (after_bound (length m.types) k (Some e.0.0.init) (constant_init (slice_get m.constants c) e.0 k e.1 i)).1 in
    let r = rank_constant m c e.0 e.1 in
    let x = rank_expression m k in
    below m (ExpressionItem k) (ConstantItem c) h (omega (arith, b, r, x))
named_below m k (OverrideAt c) ns a u i g =
    let h : c < length m.overrides = All-head (λ o. IfSome o (IsPlaceThere m)) (Some (OverrideItem c)) ns a in
    let e = get_in m.overrides c h in
    let b = (after_bound (length m.types) k e.0.0.init (override_init (slice_get m.overrides c) e.0 k e.1 i)).1 in
    let r = rank_override m c e.0 e.1 in
    let x = rank_expression m k in
    below m (ExpressionItem k) (OverrideItem c) h (omega (arith, b, r, x))
named_below m k (GlobalAt c) ns a u i g = absurd (g c refl)
named_below m k (LocalAt c) ns a u i g = tt
named_below m k (ArgumentAt c) ns a u i g = tt
named_below m k (FunctionAt c) ns a u i g = tt

-- of all kinds the fifth names a global
names_global : (e : Expression) (g : ℕ) → (parts e).named ≡ GlobalAt g → (parts e).kind ≡ 4
names_global (GlobalVariable k) g h = refl
names_global _ g h = cc

kind_at : (es : List (Expression × Span)) (k : ℕ) (e : Expression × Span) → All IsGlobalKind (kinds es) → slice_get es k ≡ Some e → IsGlobalKind (parts e.0).kind
kind_at [] k e a h = cc
kind_at (x ∷ es) zero e a h = let q : x ≡ e = cc in subst (λ (v : Expression × Span). IsGlobalKind (parts v.0).kind) q (All-head IsGlobalKind (parts x.0).kind (kinds es) a)
kind_at (x ∷ es) (suc k) e a h = kind_at es k e (All-tail IsGlobalKind (parts x.0).kind (kinds es) a) h

no_global : (k : ℕ) → IsGlobalKind k → k ≡ 4 → ⊥
no_global k (inl l) e = absurd (omega (arith, l, e))
no_global k (inr l) e = absurd (omega (arith, l, e))

expressions_below : (m : Module) → NamesForm m → ExpressionForm m → (k : ℕ) (e : Expression × Span) → slice_get m.global_expressions k ≡ Some e → All (IsBelowItem m (ExpressionItem k)) (expression_row e.0).names
expressions_below m n f k e at =
    let w = n.expressions k e at in
    let os = map (option_map ExpressionItem) (parts e.0).operands in
    let links : linked (operand_links m.global_expressions) k ≡ flat_map option_to_list (parts e.0).operands = linked-map (λ x. flat_map option_to_list (parts x.0).operands) m.global_expressions k e at in
    let earlier = subst (All (λ x. x < k)) links (f.earlier_operands k) in
    let after = All-head (λ o. IfSome (initialiser m o) (λ i. i < k)) (named_place (parts e.0).named) os (f.after k e at) in
    All-cons (IsBelowItem m (ExpressionItem k)) (named_place (parts e.0).named) os (named_below m k (parts e.0).named os w.0 w.1 after (λ g h. no_global _ (kind_at m.global_expressions k e f.kinds at) (names_global e.0 g h))) (operands_below m k (parts e.0).operands (All-tail (λ o. IfSome o (IsPlaceThere m)) (named_place (parts e.0).named) os w.0) earlier)

-- ---- all items

depth_is : (m : Module) → depth (value_of m) ≡ 2 * length m.types + 2 * length m.global_expressions + 2
unfolding value_of
depth_is m =
    let a = length-map {B = Row × Span} m.types (λ (e : TypeOfShader × Span). (type_row e.0, e.1)) in
    let b = length-map {B = Parts × Span} m.global_expressions (λ (e : Expression × Span). (parts e.0, e.1)) in
    (λ i. 2 * a i + 2 * b i + 2)

names_below : (m : Module) → CopyableItems m → (p : ItemPlace) (r : Row) → world (value_of m) p ≡ Some r → All (IsBelowItem m p) r.names
names_below m i (TypeItem k) r h =
    let e = one_row type_row (slice_get m.types k) r (sym (world_type m k) ∙ h) in
    subst (λ (v : Row). All (IsBelowItem m (TypeItem k)) v.names) e.2 (types_below m i k e.0.0 (slice_get-map (λ x. x.0) m.types k ∙ ap (option_map (λ x. x.0)) e.1))
names_below m i (ConstantItem k) r h =
    let e = one_row constant_row (slice_get m.constants k) r (sym (world_constant m k) ∙ h) in
    subst (λ (v : Row). All (IsBelowItem m (ConstantItem k)) v.names) e.2 (constants_below m i.names k e.0 e.1)
names_below m i (OverrideItem k) r h =
    let e = one_row override_row (slice_get m.overrides k) r (sym (world_override m k) ∙ h) in
    subst (λ (v : Row). All (IsBelowItem m (OverrideItem k)) v.names) e.2 (overrides_below m i.names k e.0 e.1)
names_below m i (GlobalItem k) r h =
    let e = one_row global_row (slice_get m.global_variables k) r (sym (world_global m k) ∙ h) in
    subst (λ (v : Row). All (IsBelowItem m (GlobalItem k)) v.names) e.2 (globals_below m i.names k e.0 e.1)
names_below m i (ExpressionItem k) r h =
    let e = one_row expression_row (slice_get m.global_expressions k) r (sym (world_expression m k) ∙ h) in
    subst (λ (v : Row). All (IsBelowItem m (ExpressionItem k)) v.names) e.2 (expressions_below m i.names i.expressions k e.0 e.1)

in_range : {X : Type 0} (f : X → Row) (xs : List (X × Span)) (k : ℕ) (r : Row) (w : Option Row) → w ≡ rows f xs k → w ≡ Some r → k < length xs
in_range f xs k r w e h = let x = one_row f (slice_get xs k) r (sym e ∙ h) in slice_get_within xs k x.0 x.1

rank_within : (m : Module) → NamesForm m → (p : ItemPlace) → IsThere m p → rank m p < depth (value_of m)
rank_within m n (TypeItem k) h = let l = in_range type_row m.types k h.0 _ (world_type m k) h.1 in let r = rank_type m k in let d = depth_is m in omega (arith, l, r, d)
rank_within m n (ConstantItem k) h = let l = in_range constant_row m.constants k h.0 _ (world_constant m k) h.1 in let r = constant_bound m n k l in let d = depth_is m in omega (arith, r, d)
rank_within m n (OverrideItem k) h = let l = in_range override_row m.overrides k h.0 _ (world_override m k) h.1 in let r = override_bound m n k l in let d = depth_is m in omega (arith, r, d)
rank_within m n (GlobalItem k) h = let r = rank_global m k in let d = depth_is m in omega (arith, r, d)
rank_within m n (ExpressionItem k) h = let l = in_range expression_row m.global_expressions k h.0 _ (world_expression m k) h.1 in let r = rank_expression m k in let d = depth_is m in omega (arith, l, r, d)

-- what can be copied is ranked
pub ranked : (m : Module) → CopyableItems m → AreRanked m
ranked m i = record { names = names_below m i; within = rank_within m i.names }

-- what passes the test of form can be copied
pub form_copyable : (m : Module) → ItemForm m → CopyableItems m
form_copyable m f = record { earlier_types = f.earlier_types; names = f.names; expressions = f.expressions; special = f.special.there }
