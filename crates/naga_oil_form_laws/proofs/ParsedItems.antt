-- The items of a module that passes the test of form are formed, as a value.
use Rattle.std.proofs.Common.{◌≡◌, inl, inr, ⊎_elim, ℕ, zero, suc, ◌<◌, ◌≤◌, Bool, true, false, ◌||◌, List, [], ◌∷◌, ◌++◌, length, map, nat_eq, Option, Some, None, option_map, option_to_list, is_none, slice_get, string_bytes, String, Global, refl, ap, sym, ◌∙◌, subst, arith, All, IfSome}
use Rattle.std.specs.List.{filter_map, flat_map, list_any, IsDistinct}
use Rattle.std.proofs.lemmas.Bool.{or_cases, false≢true, cases_Bool}
use Rattle.std.proofs.lemmas.List.Elements.{All-nil, All-cons, All-head, All-tail}
use Rattle.std.proofs.lemmas.Option.{slice_get-map}
use Rattle.std.proofs.lemmas.Simd.{map-map}
use Rattle.naga_oil_form.specs.BodyForm.{IsSpanFine, kinds, operand_links}
use Rattle.naga_oil_form.specs.ItemForm.{IsThere as IsPlaceThere, type_at, types_named, types_of, type_links, is_override, pending, is_sized, initialiser, init_of_constant, init_of_override, IsGlobalKind, special_types, is_unnamed, is_plain, ItemForm}
use Rattle.naga_oil_form.specs.Links.{Links, AreEarlier, linked, trail, has, is_marked, reaches}
use Rattle.naga_oil_ir.specs.ModuleValue.{ModuleValue}
use Rattle.naga_oil_ir.specs.Parts.{parts}
use Rattle.naga_oil_ir.specs.Rows.{Row, Text, inner_row, type_row, constant_row, override_row, global_row, expression_row, member_type, size_name, named_place}
use Rattle.naga_oil_form.specs.WellFormed.{SpanForm}
use Rattle.naga_oil_ir.specs.declared.module.Module.{Module}
use Rattle.naga_oil_ir.specs.declared.span.Span.{Span}
use Rattle.naga_oil_ir.specs.declared.types.Type.{«Type» as TypeOfShader}
use Rattle.naga_oil_ir.specs.declared.types.StructMember.{StructMember}
use Rattle.naga_oil_ir.specs.declared.types.Constant.{Constant as ConstantItself}
use Rattle.naga_oil_ir.specs.declared.types.Override.{Override as OverrideItself}
use Rattle.naga_oil_ir.specs.declared.types.GlobalVariable.{GlobalVariable as GlobalItself}
use Rattle.naga_oil_ir.specs.declared.types.ArraySize.{ArraySize}
use Rattle.naga_oil_ir.specs.declared.types.ArraySize.TheVariants.{Constant, Pending, Dynamic}
use Rattle.naga_oil_ir.specs.declared.types.TypeInner.{TypeInner}
use Rattle.naga_oil_ir.specs.declared.types.TypeInner.TheVariants.{Scalar, Vector, Matrix, ValuePointer, Image, Sampler, Atomic, AccelerationStructure, RayQuery, Pointer, Struct, Array, BindingArray}
use Rattle.naga_oil_ir.specs.declared.expression.Expression.{Expression}
use Rattle.naga_oil_ir.specs.declared.expression.Expression.TheVariants.{GlobalVariable}
use Rattle.naga_oil_ir.specs.declared.parts.Named.{Named}
use Rattle.naga_oil_ir.specs.declared.parts.Named.TheVariants.{Nothing, TypeOf, ConstantAt, OverrideAt, GlobalAt, LocalAt, ArgumentAt, FunctionAt}
use Rattle.naga_oil_ir.specs.declared.names.ItemPlace.{ItemPlace}
use Rattle.naga_oil_ir.specs.declared.names.ItemPlace.TheVariants.{TypeItem, ConstantItem, OverrideItem, GlobalItem, ExpressionItem}
use Rattle.naga_oil_form.proofs.LinkLemmas.{All-has, trail-step, linked-map, marked-map}
use Rattle.naga_oil_derive.specs.declared.special.SpecialKey.TheVariants.{RayDesc, RayIntersection, RayVertexReturn}
use Rattle.naga_oil_derive.specs.Tree.{World}
use Rattle.naga_oil_derive.specs.World.{value_of, world, span_at, special_entry, special_entries}
use Rattle.naga_oil_derive.specs.CopiedLaw.{place_number}
use Rattle.naga_oil_derive.proofs.DeriveLemmas.{entries_there}
use Rattle.naga_oil_derive.proofs.KindLaws.{value_kinds}
use Rattle.naga_oil_derive.proofs.RankLemmas.{place_there}
use Rattle.naga_oil_derive.proofs.SpecialLemmas.{Entry, coded}
use Rattle.naga_oil_derive.proofs.WorldLemmas.{world_type, world_constant, world_override, world_global, world_expression}
use Rattle.naga_oil_form_laws.specs.ItemsStand.{OfType, ReachesOnly, IsFixed, IsUnsized, IsBefore, NamesBefore, may_name_kind, MayName, MayBeGlobal, IsSpecial, IsPlain, MayBeSpecial, AreSpansFine, AreFormed}
use Rattle.naga_oil_form_laws.proofs.RankLemmas.{links_of, pending_of, is_size_pending, row_of, in_types}
use Rattle.naga_oil_form_laws.proofs.RequestLemmas.{all_left, all_right, flat_of, all_at, from_at}

-- ---- lists

none_all : (p : ℕ → Bool) (xs : List ℕ) → list_any p xs ≡ false → All (λ x. p x ≡ false) xs
none_all p [] h = All-nil (λ x. p x ≡ false)
none_all p (x ∷ xs) h =
    ⊎_elim (λ e. absurd (false≢true (sym h ∙ ap (λ b. b || list_any p xs) e))) (λ e. All-cons (λ y. p y ≡ false) x xs e (none_all p xs (sym (ap (λ b. b || list_any p xs) e) ∙ h))) (cases_Bool (p x))

pub one_row : {X : Type 0} (f : X → Row) (o : Option (X × Span)) (r : Row) → option_map (λ e. f e.0) o ≡ Some r → (e : X × Span) × (o ≡ Some e) × (f e.0 ≡ r)
one_row f None r h = cc
one_row f (Some x) r h = (x, refl, (let q : f x.0 ≡ r = cc in q))

-- ---- what types reach

trail_parts : (ls : Links) → AreEarlier ls → (P : ℕ → Type 0) (k : ℕ) → All P (trail ls k) → P k × All (λ j. All P (trail ls j)) (linked ls k)
trail_parts ls a P k h =
    let split = subst (All P) (trail-step ls a k) h in
    (All-head P k [] (all_right P (flat_map (trail ls) (linked ls k)) (k ∷ []) split), flat_of P (trail ls) (linked ls k) (all_left P (flat_map (trail ls) (linked ls k)) (k ∷ []) split))

module _ (v : ModuleValue) (a : AreEarlier (links_of v)) (P : ℕ → Type 0) (Q : ℕ → Row → Type 0) (have : (k : ℕ) (r : Row) → world v (TypeItem k) ≡ Some r → P k → Q k r) where
  named_type : (n : ℕ) → ((j : ℕ) → All P (trail (links_of v) j) → ReachesOnly n (world v) Q j) → (xs : List (Option ItemPlace)) → All (λ j. All P (trail (links_of v) j)) (filter_map type_at xs) → (i : ℕ) (o : Option ItemPlace) → slice_get xs i ≡ Some o → IfSome o (OfType (ReachesOnly n (world v) Q))
  named_type n ih xs h i None e = tt
  named_type n ih xs h i (Some (TypeItem j)) e = ih j (All-has (λ j. All P (trail (links_of v) j)) (filter_map type_at xs) j h (in_types xs i j e))
  named_type n ih xs h i (Some (ConstantItem j)) e = tt
  named_type n ih xs h i (Some (OverrideItem j)) e = tt
  named_type n ih xs h i (Some (GlobalItem j)) e = tt
  named_type n ih xs h i (Some (ExpressionItem j)) e = tt

  pub reached_all : (n k : ℕ) → All P (trail (links_of v) k) → ReachesOnly n (world v) Q k
  unfolding ReachesOnly
  reached_all zero k h = tt
  reached_all (suc n) k h = λ r at.
      let x = row_of v k r at in
      let parts_of = trail_parts (links_of v) a P k h in
      let named : linked (links_of v) k ≡ filter_map type_at r.names = linked-map (λ (y : Row × Span). types_named y.0) v.types k x.0 x.1 ∙ ap types_named x.2 in
      let each = subst (All (λ j. All P (trail (links_of v) j))) named parts_of.1 in
      (have k r at parts_of.0, from_at (λ o. IfSome o (OfType (ReachesOnly n (world v) Q))) r.names (named_type n (reached_all n) r.names each))

-- ---- rows

abbrev NamedByTypes : Option ItemPlace → Type 0
NamedByTypes o = IfSome o (λ q. may_name_kind 0 (place_number q) ≡ true)

size_kind : (s : ArraySize) → NamedByTypes (size_name s)
size_kind (Constant c) = tt
size_kind (Pending o) = refl
size_kind Dynamic = tt

member_kinds : (xs : List StructMember) → All NamedByTypes (map member_type xs)
member_kinds [] = All-nil NamedByTypes
member_kinds (x ∷ xs) = All-cons NamedByTypes (member_type x) (map member_type xs) refl (member_kinds xs)

sized_kinds : (base : ℕ) (size : ArraySize) → All NamedByTypes (Some (TypeItem base) ∷ size_name size ∷ [])
sized_kinds base size = All-cons NamedByTypes (Some (TypeItem base)) (size_name size ∷ []) refl (All-cons NamedByTypes (size_name size) [] (size_kind size) (All-nil NamedByTypes))

pub inner_kinds : (n : Text) (i : TypeInner) → All NamedByTypes (inner_row n i).names
inner_kinds n (Scalar c) = All-nil NamedByTypes
inner_kinds n (Vector c) = All-nil NamedByTypes
inner_kinds n (Matrix c) = All-nil NamedByTypes
inner_kinds n (ValuePointer c) = All-nil NamedByTypes
inner_kinds n (Image c) = All-nil NamedByTypes
inner_kinds n (Sampler c) = All-nil NamedByTypes
inner_kinds n (Atomic c) = All-nil NamedByTypes
inner_kinds n (AccelerationStructure c) = All-nil NamedByTypes
inner_kinds n (RayQuery c) = All-nil NamedByTypes
inner_kinds n (Pointer base space) = All-cons NamedByTypes (Some (TypeItem base)) [] refl (All-nil NamedByTypes)
inner_kinds n (Struct xs span) = member_kinds xs.items
inner_kinds n (Array base size stride) = sized_kinds base size
inner_kinds n (BindingArray base size) = sized_kinds base size

inner_label : (n : Text) (i : TypeInner) → MayBeGlobal (inner_row n i).label.kind
inner_label n (Scalar c) = tt
inner_label n (Vector c) = tt
inner_label n (Matrix c) = tt
inner_label n (ValuePointer c) = tt
inner_label n (Image c) = tt
inner_label n (Sampler c) = tt
inner_label n (Atomic c) = tt
inner_label n (AccelerationStructure c) = tt
inner_label n (RayQuery c) = tt
inner_label n (Pointer base space) = tt
inner_label n (Struct members span) = tt
inner_label n (Array base size stride) = tt
inner_label n (BindingArray base size) = tt

pub inner_name : (n : Text) (i : TypeInner) → (inner_row n i).label.name ≡ n
inner_name n (Scalar c) = refl
inner_name n (Vector c) = refl
inner_name n (Matrix c) = refl
inner_name n (ValuePointer c) = refl
inner_name n (Image c) = refl
inner_name n (Sampler c) = refl
inner_name n (Atomic c) = refl
inner_name n (AccelerationStructure c) = refl
inner_name n (RayQuery c) = refl
inner_name n (Pointer base space) = refl
inner_name n (Struct members span) = refl
inner_name n (Array base size stride) = refl
inner_name n (BindingArray base size) = refl

no_name : (o : Option (String Global)) → is_none o ≡ true → option_map string_bytes o ≡ None
no_name None h = refl
no_name (Some x) h = absurd (false≢true h)

pub names_global : (e : Expression) (g : ℕ) → (parts e).named ≡ GlobalAt g → (parts e).kind ≡ 4
names_global (GlobalVariable k) g h = refl
names_global _ g h = cc

-- ---- special types

places_coded : (es : List (ℕ × ℕ)) → map (λ (e : Entry). e.1) (coded es) ≡ map (λ e. e.1) es
places_coded [] = refl
places_coded (e ∷ es) = ap (λ xs. e.1 ∷ xs) (places_coded es)

pub special_places_same : (a b c : Option ℕ) (es : List (ℕ × ℕ)) → map (λ (e : Entry). e.1) (special_entry RayDesc a ++ special_entry RayIntersection b ++ special_entry RayVertexReturn c ++ coded es) ≡ option_to_list a ++ option_to_list b ++ option_to_list c ++ map (λ e. e.1) es
special_places_same None None None es = places_coded es
special_places_same None None (Some c) es = ap (λ xs. c ∷ xs) (places_coded es)
special_places_same None (Some b) None es = ap (λ xs. b ∷ xs) (places_coded es)
special_places_same None (Some b) (Some c) es = ap (λ xs. b ∷ c ∷ xs) (places_coded es)
special_places_same (Some a) None None es = ap (λ xs. a ∷ xs) (places_coded es)
special_places_same (Some a) None (Some c) es = ap (λ xs. a ∷ c ∷ xs) (places_coded es)
special_places_same (Some a) (Some b) None es = ap (λ xs. a ∷ b ∷ xs) (places_coded es)
special_places_same (Some a) (Some b) (Some c) es = ap (λ xs. a ∷ b ∷ c ∷ xs) (places_coded es)

-- ---- spans

pub fine_more : (n b : ℕ) (s : Span) → n ≤ b → IsSpanFine n s → IsSpanFine b s
fine_more n b s l h = let x = h.1 in (h.0, omega (arith, x, l))

span_by : {X Y : Type 0} (f : X → Y) (n : ℕ) (xs : List (X × Span)) (k : ℕ) (s : Span) → option_map (λ (e : Y × Span). e.1) (slice_get (map (λ e. (f e.0, e.1)) xs) k) ≡ Some s → All (λ e. IsSpanFine n e.1) xs → IsSpanFine n s
span_by f n [] k s e a = cc
span_by f n (x ∷ xs) zero s e a = let g : x.1 ≡ s = cc in subst (IsSpanFine n) g (All-head (λ e. IsSpanFine n e.1) x xs a)
span_by f n (x ∷ xs) (suc k) s e a = span_by f n xs k s e (All-tail (λ e. IsSpanFine n e.1) x xs a)

-- ---- what types name

pub links_same : (m : Module) → links_of (value_of m) ≡ type_links (types_of m)
unfolding value_of
links_same m = map-map (λ (e : Row × Span). types_named e.0) (λ (e : TypeOfShader × Span). (type_row e.0, e.1)) m.types ∙ sym (map-map (λ (t : TypeOfShader). types_named (type_row t)) (λ (e : TypeOfShader × Span). e.0) m.types)

pub pending_same : (m : Module) → pending_of (value_of m) ≡ pending (types_of m)
unfolding value_of
pending_same m = map-map (λ (e : Row × Span). list_any is_override e.0.names) (λ (e : TypeOfShader × Span). (type_row e.0, e.1)) m.types ∙ sym (map-map (λ (t : TypeOfShader). list_any is_override (type_row t).names) (λ (e : TypeOfShader × Span). e.0) m.types)

pub sized_same : (m : Module) (k : ℕ) → is_size_pending (value_of m) k ≡ is_sized m k
sized_same m k = λ i. reaches (links_same m i) (pending_same m i) k

-- ---- the items of a module

module _ (m : Module) (f : ItemForm m) where
  abbrev v : ModuleValue
  v = value_of m

  abbrev w : World
  w = world v

  earlier : AreEarlier (links_of v)
  earlier = subst AreEarlier (sym (links_same m)) f.earlier_types

  fixed_at : (k : ℕ) (r : Row) → w (TypeItem k) ≡ Some r → is_marked (pending_of v) k ≡ false → IsFixed k r
  fixed_at k r at h = let x = row_of v k r at in sym (marked-map (λ (y : Row × Span). list_any is_override y.0.names) v.types k x.0 x.1 ∙ ap (λ (y : Row). list_any is_override y.names) x.2) ∙ h

  unsized : (k : ℕ) → is_sized m k ≡ false → IsUnsized w k
  unsized k h n = reached_all v earlier (λ j. is_marked (pending_of v) j ≡ false) IsFixed fixed_at n k (none_all (is_marked (pending_of v)) (trail (links_of v) k) (sized_same m k ∙ h))

  there : (q : ItemPlace) → IsPlaceThere m q → (r : Row) × (w q ≡ Some r)
  there q h = place_there m q h

  -- ---- types

  type_name : (k : ℕ) (t : TypeOfShader) (i : ℕ) (o : Option ItemPlace) → All (λ x. x < k) (types_named (type_row t)) → All (λ o. IfSome o (IsPlaceThere m)) (type_row t).names → slice_get (type_row t).names i ≡ Some o → IfSome o (MayName w (TypeItem k))
  type_name k t i None l a e = tt
  type_name k t i (Some q) l a e = record {
    there = there q (all_at (λ o. IfSome o (IsPlaceThere m)) (type_row t).names i (Some q) a e);
    kind = all_at NamedByTypes (type_row t).names i (Some q) (inner_kinds (option_map string_bytes t.name) t.inner) e;
    of_type = less q e;
    following = tt;
  }
    where
      less : (q : ItemPlace) → slice_get (type_row t).names i ≡ Some (Some q) → OfType (λ j. j < k) q
      less (TypeItem j) e = All-has (λ x. x < k) (types_named (type_row t)) j l (in_types (type_row t).names i j e)
      less (ConstantItem j) e = tt
      less (OverrideItem j) e = tt
      less (GlobalItem j) e = tt
      less (ExpressionItem j) e = tt

  type_names : (k : ℕ) (e : TypeOfShader × Span) → slice_get m.types k ≡ Some e → All (λ o. IfSome o (MayName w (TypeItem k))) (type_row e.0).names
  type_names k e at =
      let t : slice_get (types_of m) k ≡ Some e.0 = slice_get-map (λ (x : TypeOfShader × Span). x.0) m.types k ∙ ap (option_map (λ (x : TypeOfShader × Span). x.0)) at in
      let l : All (λ x. x < k) (types_named (type_row e.0)) = subst (All (λ x. x < k)) (linked-map (λ (x : TypeOfShader). types_named (type_row x)) (types_of m) k e.0 t) (f.earlier_types k) in
      from_at (λ o. IfSome o (MayName w (TypeItem k))) (type_row e.0).names (λ i o x. type_name k e.0 i o l (f.names.types k e.0 t) x)

  -- ---- constants, overrides and globals

  first_unsized : (t : ℕ) (ns : List (Option ItemPlace)) → list_any (is_sized m) (t ∷ filter_map type_at ns) ≡ false → IsUnsized w t
  first_unsized t ns h = unsized t (All-head (λ k. is_sized m k ≡ false) t (filter_map type_at ns) (none_all (is_sized m) (t ∷ filter_map type_at ns) h))

  two_names : (p : ItemPlace) (t : ℕ) (o : Option ℕ) → All (λ n. IfSome n (IsPlaceThere m)) (Some (TypeItem t) ∷ option_map ExpressionItem o ∷ []) → ((j : ℕ) → IsPlaceThere m (TypeItem t) → MayName w p (TypeItem t)) → ((j : ℕ) → IsPlaceThere m (ExpressionItem j) → MayName w p (ExpressionItem j)) → All (λ n. IfSome n (MayName w p)) (Some (TypeItem t) ∷ option_map ExpressionItem o ∷ [])
  two_names p t None a g h = All-cons (λ n. IfSome n (MayName w p)) (Some (TypeItem t)) (None ∷ []) (g 0 (All-head (λ n. IfSome n (IsPlaceThere m)) (Some (TypeItem t)) (None ∷ []) a)) (All-cons (λ n. IfSome n (MayName w p)) None [] tt (All-nil (λ n. IfSome n (MayName w p))))
  two_names p t (Some j) a g h =
      let I = λ (n : Option ItemPlace). IfSome n (IsPlaceThere m) in
      All-cons (λ n. IfSome n (MayName w p)) (Some (TypeItem t)) (Some (ExpressionItem j) ∷ []) (g 0 (All-head I (Some (TypeItem t)) (Some (ExpressionItem j) ∷ []) a)) (All-cons (λ n. IfSome n (MayName w p)) (Some (ExpressionItem j)) [] (h j (All-head I (Some (ExpressionItem j)) [] (All-tail I (Some (TypeItem t)) (Some (ExpressionItem j) ∷ []) a))) (All-nil (λ n. IfSome n (MayName w p))))

  constant_names : (k : ℕ) (e : ConstantItself × Span) → slice_get m.constants k ≡ Some e → All (λ o. IfSome o (MayName w (ConstantItem k))) (constant_row e.0).names
  constant_names k e at =
      let n = f.names.constants k e at in
      two_names (ConstantItem k) e.0.ty (Some e.0.init) n.0 (λ j h. record { there = there (TypeItem e.0.ty) h; kind = refl; of_type = first_unsized e.0.ty (Some (ExpressionItem e.0.init) ∷ []) n.1; following = tt }) (λ j h. record { there = there (ExpressionItem j) h; kind = refl; of_type = tt; following = tt })

  override_names : (k : ℕ) (e : OverrideItself × Span) → slice_get m.overrides k ≡ Some e → All (λ o. IfSome o (MayName w (OverrideItem k))) (override_row e.0).names
  override_names k e at =
      let n = f.names.overrides k e at in
      two_names (OverrideItem k) e.0.ty e.0.init n.0 (λ j h. record { there = there (TypeItem e.0.ty) h; kind = refl; of_type = first_unsized e.0.ty (option_map ExpressionItem e.0.init ∷ []) n.1; following = tt }) (λ j h. record { there = there (ExpressionItem j) h; kind = refl; of_type = tt; following = tt })

  global_names : (k : ℕ) (e : GlobalItself × Span) → slice_get m.global_variables k ≡ Some e → All (λ o. IfSome o (MayName w (GlobalItem k))) (global_row e.0).names
  global_names k e at = two_names (GlobalItem k) e.0.ty e.0.init (f.names.globals k e at) (λ j h. record { there = there (TypeItem e.0.ty) h; kind = refl; of_type = tt; following = tt }) (λ j h. record { there = there (ExpressionItem j) h; kind = refl; of_type = tt; following = tt })

  -- ---- global expressions

  before_init : (k : ℕ) (o : Option ℕ) → IfSome o (λ i. i < k) → IfSome (option_map ExpressionItem o) (IsBefore k)
  before_init k None h = tt
  before_init k (Some i) h = h

  two_before : (k t : ℕ) (o : Option ℕ) → IfSome o (λ i. i < k) → All (λ n. IfSome n (IsBefore k)) (Some (TypeItem t) ∷ option_map ExpressionItem o ∷ [])
  two_before k t o h = All-cons (λ n. IfSome n (IsBefore k)) (Some (TypeItem t)) (option_map ExpressionItem o ∷ []) tt (All-cons (λ n. IfSome n (IsBefore k)) (option_map ExpressionItem o) [] (before_init k o h) (All-nil (λ n. IfSome n (IsBefore k))))

  constant_before : (k c : ℕ) → IfSome (initialiser m (Some (ConstantItem c))) (λ i. i < k) → NamesBefore w k (ConstantItem c)
  constant_before k c h = λ r at.
      let x = one_row constant_row (slice_get m.constants c) r (sym (world_constant m c) ∙ at) in
      let i : IfSome (Some x.0.0.init) (λ i. i < k) = subst (λ o. IfSome (init_of_constant o) (λ i. i < k)) x.1 h in
      subst (λ (y : Row). All (λ n. IfSome n (IsBefore k)) y.names) x.2 (two_before k x.0.0.ty (Some x.0.0.init) i)

  override_before : (k c : ℕ) → IfSome (initialiser m (Some (OverrideItem c))) (λ i. i < k) → NamesBefore w k (OverrideItem c)
  override_before k c h = λ r at.
      let x = one_row override_row (slice_get m.overrides c) r (sym (world_override m c) ∙ at) in
      let i : IfSome x.0.0.init (λ i. i < k) = subst (λ o. IfSome (init_of_override o) (λ i. i < k)) x.1 h in
      subst (λ (y : Row). All (λ n. IfSome n (IsBefore k)) y.names) x.2 (two_before k x.0.0.ty x.0.0.init i)

  no_global : (k : ℕ) → IsGlobalKind k → k ≡ 4 → ⊥
  no_global k (inl l) e = absurd (omega (arith, l, e))
  no_global k (inr l) e = absurd (omega (arith, l, e))

  named_name : (k : ℕ) (n : Named) (ns : List (Option ItemPlace)) → All (λ o. IfSome o (IsPlaceThere m)) (named_place n ∷ ns) → list_any (is_sized m) (filter_map type_at (named_place n ∷ ns)) ≡ false → IfSome (initialiser m (named_place n)) (λ i. i < k) → ((g : ℕ) → n ≡ GlobalAt g → ⊥) → IfSome (named_place n) (MayName w (ExpressionItem k))
  named_name k Nothing ns a u i g = tt
  named_name k (TypeOf t) ns a u i g = record { there = there (TypeItem t) (All-head (λ o. IfSome o (IsPlaceThere m)) (Some (TypeItem t)) ns a); kind = refl; of_type = first_unsized t ns u; following = tt }
  named_name k (ConstantAt c) ns a u i g = record { there = there (ConstantItem c) (All-head (λ o. IfSome o (IsPlaceThere m)) (Some (ConstantItem c)) ns a); kind = refl; of_type = tt; following = constant_before k c i }
  named_name k (OverrideAt c) ns a u i g = record { there = there (OverrideItem c) (All-head (λ o. IfSome o (IsPlaceThere m)) (Some (OverrideItem c)) ns a); kind = refl; of_type = tt; following = override_before k c i }
  named_name k (GlobalAt c) ns a u i g = absurd (g c refl)
  named_name k (LocalAt c) ns a u i g = tt
  named_name k (ArgumentAt c) ns a u i g = tt
  named_name k (FunctionAt c) ns a u i g = tt

  operand_names : (k : ℕ) (os : List (Option ℕ)) → All (λ o. IfSome o (IsPlaceThere m)) (map (option_map ExpressionItem) os) → All (λ x. x < k) (flat_map option_to_list os) → All (λ o. IfSome o (MayName w (ExpressionItem k))) (map (option_map ExpressionItem) os)
  operand_names k [] a b = All-nil (λ o. IfSome o (MayName w (ExpressionItem k)))
  operand_names k (None ∷ os) a b = All-cons (λ o. IfSome o (MayName w (ExpressionItem k))) None (map (option_map ExpressionItem) os) tt (operand_names k os (All-tail (λ o. IfSome o (IsPlaceThere m)) None (map (option_map ExpressionItem) os) a) b)
  operand_names k (Some j ∷ os) a b =
      let rest = map (option_map ExpressionItem) os in
      let here = there (ExpressionItem j) (All-head (λ o. IfSome o (IsPlaceThere m)) (Some (ExpressionItem j)) rest a) in
      let l : j < k = All-head (λ x. x < k) j (flat_map option_to_list os) b in
      All-cons (λ o. IfSome o (MayName w (ExpressionItem k))) (Some (ExpressionItem j)) rest (record { there = here; kind = refl; of_type = tt; following = l }) (operand_names k os (All-tail (λ o. IfSome o (IsPlaceThere m)) (Some (ExpressionItem j)) rest a) (All-tail (λ x. x < k) j (flat_map option_to_list os) b))

  kind_at : (k : ℕ) (e : Expression × Span) → slice_get m.global_expressions k ≡ Some e → IsGlobalKind (parts e.0).kind
  kind_at k e at = all_at IsGlobalKind (kinds m.global_expressions) k (parts e.0).kind f.expressions.kinds (slice_get-map (λ (x : Expression × Span). (parts x.0).kind) m.global_expressions k ∙ ap (option_map (λ (x : Expression × Span). (parts x.0).kind)) at)

  expression_names : (k : ℕ) (e : Expression × Span) → slice_get m.global_expressions k ≡ Some e → All (λ o. IfSome o (MayName w (ExpressionItem k))) (expression_row e.0).names
  expression_names k e at =
      let n = f.names.expressions k e at in
      let os = map (option_map ExpressionItem) (parts e.0).operands in
      let first = named_place (parts e.0).named in
      let links : linked (operand_links m.global_expressions) k ≡ flat_map option_to_list (parts e.0).operands = linked-map (λ (x : Expression × Span). flat_map option_to_list (parts x.0).operands) m.global_expressions k e at in
      let less = subst (All (λ x. x < k)) links (f.expressions.earlier_operands k) in
      let after = All-head (λ o. IfSome (initialiser m o) (λ i. i < k)) first os (f.expressions.after k e at) in
      All-cons (λ o. IfSome o (MayName w (ExpressionItem k))) first os (named_name k (parts e.0).named os n.0 n.1 after (λ g h. no_global _ (kind_at k e at) (names_global e.0 g h))) (operand_names k (parts e.0).operands (All-tail (λ o. IfSome o (IsPlaceThere m)) first os n.0) less)

  -- ---- all of them

  item_names : (p : ItemPlace) (r : Row) → w p ≡ Some r → All (λ o. IfSome o (MayName w p)) r.names
  item_names (TypeItem k) r at = let x = one_row type_row (slice_get m.types k) r (sym (world_type m k) ∙ at) in subst (λ (y : Row). All (λ o. IfSome o (MayName w (TypeItem k))) y.names) x.2 (type_names k x.0 x.1)
  item_names (ConstantItem k) r at = let x = one_row constant_row (slice_get m.constants k) r (sym (world_constant m k) ∙ at) in subst (λ (y : Row). All (λ o. IfSome o (MayName w (ConstantItem k))) y.names) x.2 (constant_names k x.0 x.1)
  item_names (OverrideItem k) r at = let x = one_row override_row (slice_get m.overrides k) r (sym (world_override m k) ∙ at) in subst (λ (y : Row). All (λ o. IfSome o (MayName w (OverrideItem k))) y.names) x.2 (override_names k x.0 x.1)
  item_names (GlobalItem k) r at = let x = one_row global_row (slice_get m.global_variables k) r (sym (world_global m k) ∙ at) in subst (λ (y : Row). All (λ o. IfSome o (MayName w (GlobalItem k))) y.names) x.2 (global_names k x.0 x.1)
  item_names (ExpressionItem k) r at = let x = one_row expression_row (slice_get m.global_expressions k) r (sym (world_expression m k) ∙ at) in subst (λ (y : Row). All (λ o. IfSome o (MayName w (ExpressionItem k))) y.names) x.2 (expression_names k x.0 x.1)

  item_kinds : (p : ItemPlace) (r : Row) → w p ≡ Some r → MayBeGlobal r.label.kind
  item_kinds (TypeItem k) r at = let x = one_row type_row (slice_get m.types k) r (sym (world_type m k) ∙ at) in subst (λ (y : Row). MayBeGlobal y.label.kind) x.2 (inner_label (option_map string_bytes x.0.0.name) x.0.0.inner)
  item_kinds (ConstantItem k) r at = let x = one_row constant_row (slice_get m.constants k) r (sym (world_constant m k) ∙ at) in subst (λ (y : Row). MayBeGlobal y.label.kind) x.2 tt
  item_kinds (OverrideItem k) r at = let x = one_row override_row (slice_get m.overrides k) r (sym (world_override m k) ∙ at) in subst (λ (y : Row). MayBeGlobal y.label.kind) x.2 tt
  item_kinds (GlobalItem k) r at = let x = one_row global_row (slice_get m.global_variables k) r (sym (world_global m k) ∙ at) in subst (λ (y : Row). MayBeGlobal y.label.kind) x.2 tt
  item_kinds (ExpressionItem k) r at = let x = one_row expression_row (slice_get m.global_expressions k) r (sym (world_expression m k) ∙ at) in subst (λ (y : Row). MayBeGlobal y.label.kind) x.2 (kind_at k x.0 x.1)

  -- ---- special types

  special_same : (k : ℕ) → has (special_types m.special_types) k ≡ true → IsSpecial v.special_types k
  unfolding value_of
  special_same k h = let s = m.special_types in ap (λ xs. has xs k) (special_places_same s.ray_desc s.ray_intersection s.ray_vertex_return s.predeclared_types.entries) ∙ h

  plain_at : (k : ℕ) (r : Row) → w (TypeItem k) ≡ Some r → is_plain m k ≡ true → IsPlain v.special_types k r
  plain_at k r at h =
      let x = one_row type_row (slice_get m.types k) r (sym (world_type m k) ∙ at) in
      let t : slice_get (types_of m) k ≡ Some x.0.0 = slice_get-map (λ (y : TypeOfShader × Span). y.0) m.types k ∙ ap (option_map (λ (y : TypeOfShader × Span). y.0)) x.1 in
      ⊎_elim (λ e. inl (ap (λ (y : Row). y.label.name) (sym x.2) ∙ inner_name (option_map string_bytes x.0.0.name) x.0.0.inner ∙ no_name x.0.0.name (sym (ap is_unnamed t) ∙ e))) (λ e. inr (special_same k e)) (or_cases (is_unnamed (slice_get (types_of m) k)) (has (special_types m.special_types) k) h)

  special_at_each : (k : ℕ) → k < length m.types → is_sized m k ≡ false → All (λ j. is_plain m j ≡ true) (trail (type_links (types_of m)) k) → MayBeSpecial v k
  special_at_each k l u p = record {
    there = there (TypeItem k) l;
    unsized = unsized k u;
    plain = λ n. reached_all v earlier (λ j. is_plain m j ≡ true) (IsPlain v.special_types) plain_at n k (subst (λ ls. All (λ j. is_plain m j ≡ true) (trail ls k)) (sym (links_same m)) p);
  }

  specials : All (λ k. MayBeSpecial v k) (special_types m.special_types)
  specials = λ i x l. special_at_each _ (f.special.there i x l) (f.special.unsized i x l) (f.special.plain i x l)

  special_formed : All (λ (e : Entry). MayBeSpecial v e.1) (special_entries v.special_types)
  unfolding value_of
  special_formed = entries_there (MayBeSpecial (value_of m)) m.special_types specials

  spans_formed : (n : ℕ) → n ≤ 4294967295 → SpanForm m n → AreSpansFine v 4294967295
  unfolding span_at value_of
  spans_formed n l s (TypeItem k) z e = fine_more n 4294967295 z l (span_by type_row n m.types k z e s.types)
  spans_formed n l s (ConstantItem k) z e = fine_more n 4294967295 z l (span_by constant_row n m.constants k z e s.constants)
  spans_formed n l s (OverrideItem k) z e = fine_more n 4294967295 z l (span_by override_row n m.overrides k z e s.overrides)
  spans_formed n l s (GlobalItem k) z e = fine_more n 4294967295 z l (span_by global_row n m.global_variables k z e s.globals)
  spans_formed n l s (ExpressionItem k) z e = fine_more n 4294967295 z l (span_by parts n m.global_expressions k z e s.expressions)

  keys_same : IsDistinct nat_eq (map (λ e. e.0) m.special_types.predeclared_types.entries) → IsDistinct nat_eq (map (λ e. e.0) v.special_types.predeclared_types)
  unfolding value_of
  keys_same d = d

  pub parsed_items : (n : ℕ) → n ≤ 4294967295 → SpanForm m n → IsDistinct nat_eq (map (λ e. e.0) m.special_types.predeclared_types.entries) → AreFormed v
  parsed_items n l s d = record {
    kinds = value_kinds m;
    keys = keys_same d;
    items = record { names = item_names; kinds = item_kinds };
    special = special_formed;
    spans = spans_formed n l s;
  }
