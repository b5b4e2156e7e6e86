-- A module whose value has formed items has items that pass the test of form.
use Rattle.std.proofs.Common.{◌≡◌, inl, inr, ℕ, zero, suc, ◌<◌, true, false, List, [], ◌∷◌, length, map, nat_eq, Option, Some, None, option_map, option_to_list, is_none, slice_get, unwrap_or, string_bytes, String, Global, refl, ap, sym, ◌∙◌, subst, arith, All, IfSome}
use Rattle.std.specs.List.{flat_map, list_any, IsDistinct}
use Rattle.std.proofs.lemmas.List.Elements.{All-nil, All-cons, All-head, All-tail, All-weaker, All-append, All-map}
use Rattle.std.proofs.lemmas.List.Folds.{list_any_none}
use Rattle.std.proofs.lemmas.Option.{slice_get-map}
use Rattle.naga_oil_form.specs.BodyForm.{operand_links}
use Rattle.naga_oil_form.specs.ItemForm.{IsThere as IsPlaceThere, NamesThere, types_named, types_of, type_links, is_sized, NamesForm, initialiser, init_of_constant, init_of_override, IsGlobalKind, ExpressionForm, special_types, is_unnamed, is_plain, ItemForm}
use Rattle.naga_oil_form.specs.Links.{AreEarlier, linked, reach, trail, has}
use Rattle.naga_oil_ir.specs.ModuleValue.{ModuleValue}
use Rattle.naga_oil_ir.specs.Parts.{parts}
use Rattle.naga_oil_ir.specs.Rows.{Row, type_row, constant_row, override_row, global_row, expression_row, named_place}
use Rattle.naga_oil_ir.specs.declared.module.Module.{Module}
use Rattle.naga_oil_ir.specs.declared.span.Span.{Span}
use Rattle.naga_oil_ir.specs.declared.types.Type.{«Type» as TypeOfShader}
use Rattle.naga_oil_ir.specs.declared.types.Constant.{Constant as ConstantItself}
use Rattle.naga_oil_ir.specs.declared.types.Override.{Override as OverrideItself}
use Rattle.naga_oil_ir.specs.declared.types.GlobalVariable.{GlobalVariable as GlobalItself}
use Rattle.naga_oil_ir.specs.declared.expression.Expression.{Expression}
use Rattle.naga_oil_ir.specs.declared.names.ItemPlace.{ItemPlace}
use Rattle.naga_oil_ir.specs.declared.names.ItemPlace.TheVariants.{TypeItem, ConstantItem, OverrideItem, GlobalItem, ExpressionItem}
use Rattle.naga_oil_form.proofs.LinkLemmas.{or_left, or_right, linked-map}
use Rattle.naga_oil_derive.specs.Tree.{World}
use Rattle.naga_oil_derive.specs.World.{value_of, world, special_entries}
use Rattle.naga_oil_derive.specs.Copyable.{CopyableItems}
use Rattle.naga_oil_derive.proofs.SpecialLemmas.{Entry}
use Rattle.naga_oil_derive.proofs.WorldLemmas.{world_type, world_constant, world_override, world_global, world_expression}
use Rattle.naga_oil_form_laws.specs.ItemsStand.{OfType, ReachesOnly, AllReached, IsUnsized, MayNameType, IsBefore, IsIn, MayName, ItemsStand, IsPlain, MayBeSpecial, AreFormed}
use Rattle.naga_oil_form_laws.proofs.FunctionFormLemmas.{mapped_at}
use Rattle.naga_oil_form_laws.proofs.ParsedFunctions.{types_long, constants_long, overrides_long, globals_long, expressions_long}
use Rattle.naga_oil_form_laws.proofs.ParsedItems.{inner_name, special_places_same, links_same, sized_same}
use Rattle.naga_oil_form_laws.proofs.RankLemmas.{links_of, types_all, unsized_pending, types_earlier, row_of}
use Rattle.naga_oil_form_laws.proofs.RequestLemmas.{type_within, constant_within, override_within, global_within, expression_within, from_at}

some_weaker : (P Q : ItemPlace → Type 0) → ((q : ItemPlace) → P q → Q q) → (o : Option ItemPlace) → IfSome o P → IfSome o Q
some_weaker P Q f None h = tt
some_weaker P Q f (Some q) h = f q h

names_weaker : (P Q : ItemPlace → Type 0) → ((q : ItemPlace) → P q → Q q) → (ns : List (Option ItemPlace)) → All (λ o. IfSome o P) ns → All (λ o. IfSome o Q) ns
names_weaker P Q f ns a = All-weaker (λ o. IfSome o P) (λ o. IfSome o Q) (some_weaker P Q f) ns a

types_weaker : (P Q : ℕ → Type 0) → ((k : ℕ) → P k → Q k) → (q : ItemPlace) → OfType P q → OfType Q q
types_weaker P Q f (TypeItem k) h = f k h
types_weaker P Q f (ConstantItem k) h = tt
types_weaker P Q f (OverrideItem k) h = tt
types_weaker P Q f (GlobalItem k) h = tt
types_weaker P Q f (ExpressionItem k) h = tt

no_text : (o : Option (String Global)) → option_map string_bytes o ≡ None → is_none o ≡ true
no_text None h = refl
no_text (Some x) h = cc

-- what holds of all that a type reaches
module _ (v : ModuleValue) (i : ItemsStand (world v)) (P : ℕ → Type 0) (Q : ℕ → Row → Type 0) (have : (k : ℕ) (r : Row) → world v (TypeItem k) ≡ Some r → Q k r → P k) where
  flat_each : (f : ℕ → List ℕ) (xs : List ℕ) → All (λ x. All P (f x)) xs → All P (flat_map f xs)
  flat_each f [] a = All-nil P
  flat_each f (x ∷ xs) a = All-append P (f x) (flat_map f xs) (All-head (λ y. All P (f y)) x xs a) (flat_each f xs (All-tail (λ y. All P (f y)) x xs a))

  type_there : (p q : ItemPlace) → MayName (world v) p q → OfType (λ j. IsIn (world v) (TypeItem j)) q
  type_there p (TypeItem j) h = h.there
  type_there p (ConstantItem j) h = tt
  type_there p (OverrideItem j) h = tt
  type_there p (GlobalItem j) h = tt
  type_there p (ExpressionItem j) h = tt

  reach_each : (n k : ℕ) → IsIn (world v) (TypeItem k) → ReachesOnly n (world v) Q k → All P (reach n (links_of v) k)
  unfolding ReachesOnly
  reach_each zero k at h = All-nil P
  reach_each (suc n) k at h =
      let r = at.0 in
      let x = row_of v k r at.1 in
      let own = h r at.1 in
      let named : linked (links_of v) k ≡ types_named r = linked-map (λ (y : Row × Span). types_named y.0) v.types k x.0 x.1 ∙ ap types_named x.2 in
      let there = types_all (λ j. IsIn (world v) (TypeItem j)) r.names (names_weaker (MayName (world v) (TypeItem k)) (OfType (λ j. IsIn (world v) (TypeItem j))) (type_there (TypeItem k)) r.names (i.names (TypeItem k) r at.1)) in
      let below = types_all (ReachesOnly n (world v) Q) r.names own.1 in
      let each : All (λ j. All P (reach n (links_of v) j)) (types_named r) = λ j d l. reach_each n _ (there j d l) (below j d l) in
      All-append P (flat_map (reach n (links_of v)) (linked (links_of v) k)) (k ∷ []) (flat_each (reach n (links_of v)) (linked (links_of v) k) (subst (All (λ j. All P (reach n (links_of v) j))) (sym named) each)) (All-cons P k [] (have k r at.1 own.0) (All-nil P))

  pub trail_each : (k : ℕ) → IsIn (world v) (TypeItem k) → AllReached (world v) Q k → All P (trail (links_of v) k)
  unfolding trail
  trail_each k at h = reach_each (suc k) k at (h (suc k))

module _ (m : Module) (f : AreFormed (value_of m)) where
  abbrev v : ModuleValue
  v = value_of m

  abbrev w : World
  w = world v

  within : (q : ItemPlace) → IsIn w q → IsPlaceThere m q
  within (TypeItem k) h = let l = type_within v k h in let e = types_long m in omega (arith, l, e)
  within (ConstantItem k) h = let l = constant_within v k h in let e = constants_long m in omega (arith, l, e)
  within (OverrideItem k) h = let l = override_within v k h in let e = overrides_long m in omega (arith, l, e)
  within (GlobalItem k) h = let l = global_within v k h in let e = globals_long m in omega (arith, l, e)
  within (ExpressionItem k) h = let l = expression_within v k h in let e = expressions_long m in omega (arith, l, e)

  names_there : (p : ItemPlace) (r : Row) → w p ≡ Some r → NamesThere m r
  names_there p r at = names_weaker (MayName w p) (IsPlaceThere m) (λ q h. within q h.there) r.names (f.items.names p r at)

  not_sized : (k : ℕ) → IsUnsized w k → is_sized m k ≡ false
  not_sized k h = sym (sized_same m k) ∙ unsized_pending v k h

  none_sized : (p : ItemPlace) (r : Row) → w p ≡ Some r → ((j : ℕ) → MayNameType w p j → IsUnsized w j) → list_any (is_sized m) (types_named r) ≡ false
  none_sized p r at g =
      list_any_none (is_sized m) (types_named r) (types_all (λ j. is_sized m j ≡ false) r.names (names_weaker (MayName w p) (OfType (λ j. is_sized m j ≡ false)) (λ q h. types_weaker (MayNameType w p) (λ j. is_sized m j ≡ false) (λ j x. not_sized j (g j x)) q h.of_type) r.names (f.items.names p r at)))

  type_at_place : (k : ℕ) (t : TypeOfShader) → slice_get (types_of m) k ≡ Some t → w (TypeItem k) ≡ Some (type_row t)
  type_at_place k t e = let x = mapped_at (λ (y : TypeOfShader × Span). y.0) m.types k t e in world_type m k ∙ ap (option_map (λ (y : TypeOfShader × Span). type_row y.0)) x.1 ∙ ap (λ y. Some (type_row y)) x.2

  constant_at : (k : ℕ) (e : ConstantItself × Span) → slice_get m.constants k ≡ Some e → w (ConstantItem k) ≡ Some (constant_row e.0)
  constant_at k e h = world_constant m k ∙ ap (option_map (λ (y : ConstantItself × Span). constant_row y.0)) h

  override_at : (k : ℕ) (e : OverrideItself × Span) → slice_get m.overrides k ≡ Some e → w (OverrideItem k) ≡ Some (override_row e.0)
  override_at k e h = world_override m k ∙ ap (option_map (λ (y : OverrideItself × Span). override_row y.0)) h

  global_at : (k : ℕ) (e : GlobalItself × Span) → slice_get m.global_variables k ≡ Some e → w (GlobalItem k) ≡ Some (global_row e.0)
  global_at k e h = world_global m k ∙ ap (option_map (λ (y : GlobalItself × Span). global_row y.0)) h

  expression_at : (k : ℕ) (e : Expression × Span) → slice_get m.global_expressions k ≡ Some e → w (ExpressionItem k) ≡ Some (expression_row e.0)
  expression_at k e h = world_expression m k ∙ ap (option_map (λ (y : Expression × Span). expression_row y.0)) h

  names : NamesForm m
  names = record {
    types = λ k t e. names_there (TypeItem k) (type_row t) (type_at_place k t e);
    constants = λ k e h. (names_there (ConstantItem k) (constant_row e.0) (constant_at k e h), none_sized (ConstantItem k) (constant_row e.0) (constant_at k e h) (λ j x. x));
    overrides = λ k e h. (names_there (OverrideItem k) (override_row e.0) (override_at k e h), none_sized (OverrideItem k) (override_row e.0) (override_at k e h) (λ j x. x));
    globals = λ k e h. names_there (GlobalItem k) (global_row e.0) (global_at k e h);
    expressions = λ k e h. (names_there (ExpressionItem k) (expression_row e.0) (expression_at k e h), none_sized (ExpressionItem k) (expression_row e.0) (expression_at k e h) (λ j x. x));
  }

  -- ---- global expressions

  operands_less : (k : ℕ) (os : List (Option ℕ)) → All (λ o. IfSome o (MayName w (ExpressionItem k))) (map (option_map ExpressionItem) os) → All (λ x. x < k) (flat_map option_to_list os)
  operands_less k [] a = All-nil (λ x. x < k)
  operands_less k (None ∷ os) a = operands_less k os (All-tail (λ o. IfSome o (MayName w (ExpressionItem k))) None (map (option_map ExpressionItem) os) a)
  operands_less k (Some j ∷ os) a =
      let one = All-head (λ o. IfSome o (MayName w (ExpressionItem k))) (Some (ExpressionItem j)) (map (option_map ExpressionItem) os) a in
      All-cons (λ x. x < k) j (flat_map option_to_list os) one.following (operands_less k os (All-tail (λ o. IfSome o (MayName w (ExpressionItem k))) (Some (ExpressionItem j)) (map (option_map ExpressionItem) os) a))

  earlier_by : (k : ℕ) (o : Option (Expression × Span)) → slice_get m.global_expressions k ≡ o → All (λ x. x < k) (linked (operand_links m.global_expressions) k)
  earlier_by k None e =
      let none : linked (operand_links m.global_expressions) k ≡ [] = ap (λ o. unwrap_or o []) (slice_get-map (λ (x : Expression × Span). flat_map option_to_list (parts x.0).operands) m.global_expressions k ∙ ap (option_map (λ (x : Expression × Span). flat_map option_to_list (parts x.0).operands)) e) in
      subst (All (λ x. x < k)) (sym none) (All-nil (λ x. x < k))
  earlier_by k (Some x) e =
      let links : linked (operand_links m.global_expressions) k ≡ flat_map option_to_list (parts x.0).operands = linked-map (λ (y : Expression × Span). flat_map option_to_list (parts y.0).operands) m.global_expressions k x e in
      let own = All-tail (λ o. IfSome o (MayName w (ExpressionItem k))) (named_place (parts x.0).named) (map (option_map ExpressionItem) (parts x.0).operands) (f.items.names (ExpressionItem k) (expression_row x.0) (expression_at k x e)) in
      subst (All (λ y. y < k)) (sym links) (operands_less k (parts x.0).operands own)

  init_before : (k t : ℕ) (o : Option ℕ) → All (λ n. IfSome n (IsBefore k)) (Some (TypeItem t) ∷ option_map ExpressionItem o ∷ []) → IfSome o (λ i. i < k)
  init_before k t None a = tt
  init_before k t (Some i) a = All-head (λ n. IfSome n (IsBefore k)) (Some (ExpressionItem i)) [] (All-tail (λ n. IfSome n (IsBefore k)) (Some (TypeItem t)) (Some (ExpressionItem i) ∷ []) a)

  constant_init : (k c : ℕ) (o : Option (ConstantItself × Span)) → slice_get m.constants c ≡ o → MayName w (ExpressionItem k) (ConstantItem c) → IfSome (init_of_constant o) (λ i. i < k)
  constant_init k c None e h = tt
  constant_init k c (Some x) e h = init_before k x.0.ty (Some x.0.init) (h.following (constant_row x.0) (constant_at c x e))

  override_init : (k c : ℕ) (o : Option (OverrideItself × Span)) → slice_get m.overrides c ≡ o → MayName w (ExpressionItem k) (OverrideItem c) → IfSome (init_of_override o) (λ i. i < k)
  override_init k c None e h = tt
  override_init k c (Some x) e h = init_before k x.0.ty x.0.init (h.following (override_row x.0) (override_at c x e))

  after_name : (k : ℕ) (o : Option ItemPlace) → IfSome o (MayName w (ExpressionItem k)) → IfSome (initialiser m o) (λ i. i < k)
  after_name k None h = tt
  after_name k (Some (TypeItem j)) h = tt
  after_name k (Some (ConstantItem j)) h = constant_init k j (slice_get m.constants j) refl h
  after_name k (Some (OverrideItem j)) h = override_init k j (slice_get m.overrides j) refl h
  after_name k (Some (GlobalItem j)) h = tt
  after_name k (Some (ExpressionItem j)) h = tt

  expressions : ExpressionForm m
  expressions = record {
    earlier_operands = λ k. earlier_by k (slice_get m.global_expressions k) refl;
    after = λ k e at. All-weaker (λ o. IfSome o (MayName w (ExpressionItem k))) (λ o. IfSome (initialiser m o) (λ i. i < k)) (after_name k) (expression_row e.0).names (f.items.names (ExpressionItem k) (expression_row e.0) (expression_at k e at));
    kinds = All-map IsGlobalKind (λ (e : Expression × Span). (parts e.0).kind) m.global_expressions (from_at (λ (e : Expression × Span). IsGlobalKind (parts e.0).kind) m.global_expressions (λ k e at. f.items.kinds (ExpressionItem k) (expression_row e.0) (expression_at k e at)));
  }

  earlier_types : AreEarlier (type_links (types_of m))
  earlier_types = subst AreEarlier (links_same m) (types_earlier v f.items)

  -- ---- special types

  specials_same : map (λ (e : Entry). e.1) (special_entries v.special_types) ≡ special_types m.special_types
  unfolding value_of
  specials_same = let s = m.special_types in special_places_same s.ray_desc s.ray_intersection s.ray_vertex_return s.predeclared_types.entries

  of_specials : (P : ℕ → Type 0) → ((k : ℕ) → MayBeSpecial v k → P k) → All P (special_types m.special_types)
  of_specials P g = subst (All P) specials_same (All-map P (λ (e : Entry). e.1) (special_entries v.special_types) (All-weaker (λ (e : Entry). MayBeSpecial v e.1) (λ (e : Entry). P e.1) (λ e h. g e.1 h) (special_entries v.special_types) f.special))

  plain_at : (k : ℕ) (r : Row) → w (TypeItem k) ≡ Some r → IsPlain v.special_types k r → is_plain m k ≡ true
  plain_at k r at (inl e) =
      let x = row_by (slice_get m.types k) r (sym (world_type m k) ∙ at) in
      let t : slice_get (types_of m) k ≡ Some x.0.0 = slice_get-map (λ (y : TypeOfShader × Span). y.0) m.types k ∙ ap (option_map (λ (y : TypeOfShader × Span). y.0)) x.1 in
      let unnamed : is_none x.0.0.name ≡ true = no_text x.0.0.name (sym (inner_name (option_map string_bytes x.0.0.name) x.0.0.inner) ∙ ap (λ (y : Row). y.label.name) x.2 ∙ e) in
      or_left (is_unnamed (slice_get (types_of m) k)) (has (special_types m.special_types) k) (ap is_unnamed t ∙ unnamed)
    where
      row_by : (o : Option (TypeOfShader × Span)) (r : Row) → option_map (λ e. type_row e.0) o ≡ Some r → (e : TypeOfShader × Span) × (o ≡ Some e) × (type_row e.0 ≡ r)
      row_by None r h = cc
      row_by (Some x) r h = (x, refl, (let q : type_row x.0 ≡ r = cc in q))
  plain_at k r at (inr h) = or_right (is_unnamed (slice_get (types_of m) k)) (has (special_types m.special_types) k) (ap (λ xs. has xs k) (sym specials_same) ∙ h)

  plain_trail : (k : ℕ) → MayBeSpecial v k → All (λ j. is_plain m j ≡ true) (trail (type_links (types_of m)) k)
  plain_trail k h = subst (λ ls. All (λ j. is_plain m j ≡ true) (trail ls k)) (links_same m) (trail_each v f.items (λ j. is_plain m j ≡ true) (IsPlain v.special_types) plain_at k h.there h.plain)

  special_there : All (λ k. k < length m.types) (special_types m.special_types)
  special_there = of_specials (λ k. k < length m.types) (λ k h. within (TypeItem k) h.there)

  pub copyable_items : CopyableItems m
  copyable_items = record { earlier_types = earlier_types; names = names; expressions = expressions; special = special_there }

  pub item_form : IsDistinct nat_eq (special_types m.special_types) → ItemForm m
  item_form d = record {
    earlier_types = earlier_types;
    names = names;
    expressions = expressions;
    special = record {
      there = special_there;
      distinct = d;
      unsized = of_specials (λ k. is_sized m k ≡ false) (λ k h. not_sized k h.unsized);
      plain = of_specials (λ k. All (λ j. is_plain m j ≡ true) (trail (type_links (types_of m)) k)) plain_trail;
    };
  }
