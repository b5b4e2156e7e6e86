-- The tests of items decide which of them pass.
use Rattle.std.proofs.Common.{◌≡◌, ℕ, ◌<◌, true, false, not, ◌||◌, List, length, slice_get, Option, Some, None, option_map, is_none, IfSome, All, Decides, nat_eq, nat_lt, string_bytes, refl, ap, sym, ◌∙◌}
use Rattle.std.specs.List.{list_all, list_any}
use Rattle.std.proofs.lemmas.Bool.Decides.{Decides-at, Decides-or}
use Rattle.std.proofs.lemmas.Option.{slice_get-map}
use Rattle.std.proofs.lemmas.Simd.{map-map}
use Rattle.naga_oil_form.specs.BodyForm.{operand_links}
use Rattle.naga_oil_form.specs.ItemForm.{IsThere, NamesThere, types_named, types_of, type_links, is_override, pending, is_sized, NamesWell, NamesForm, init_of_constant, init_of_override, initialiser, IsGlobalKind, ExpressionForm, special_types, is_unnamed, is_plain, SpecialForm, ItemForm}
use Rattle.naga_oil_form.specs.Links.{trail, has, reaches}
use Rattle.naga_oil_ir.specs.ModuleValue.{module_value}
use Rattle.naga_oil_ir.specs.Parts.{parts}
use Rattle.naga_oil_ir.specs.Rows.{Row, Text, inner_row, type_row, constant_row, override_row, global_row, expression_row}
use Rattle.naga_oil_ir.specs.declared.expression.Expression.{Expression}
use Rattle.naga_oil_ir.specs.declared.module.Module.{Module}
use Rattle.naga_oil_ir.specs.declared.names.ItemPlace.{ItemPlace}
use Rattle.naga_oil_ir.specs.declared.names.ItemPlace.TheVariants.{TypeItem, ConstantItem, OverrideItem, GlobalItem, ExpressionItem}
use Rattle.naga_oil_ir.specs.declared.span.Span.{Span}
use Rattle.naga_oil_ir.specs.declared.types.Constant.{Constant as ConstantItself}
use Rattle.naga_oil_ir.specs.declared.types.Override.{Override}
use Rattle.naga_oil_ir.specs.declared.types.Type.{«Type» as TypeOfShader}
use Rattle.naga_oil_ir.specs.declared.types.TypeInner.{TypeInner}
use Rattle.naga_oil_ir.specs.declared.types.TypeInner.TheVariants.{Scalar, Vector, Matrix, ValuePointer, Image, Sampler, Atomic, AccelerationStructure, RayQuery, Pointer, Struct, Array, BindingArray}
use Rattle.naga_oil_form.specs.Form.{are_items_formed}
use Rattle.naga_oil_form.specs.FormItems.{is_there, names_there, links_of, pending_of, is_size_pending, names_well, are_names_formed, expression_at, row_initialiser, initialiser_of, stands_after, is_global_kind, are_expressions_formed, has_no_name, is_unnamed_or_special, are_specials_formed}
use Rattle.naga_oil_form.specs.FormParts.{passes_if_there, are_earlier}
use Rattle.naga_oil_form.proofs.DecisionLemmas.{both, like, itself, fails, less, each, each_itself, in_order, at_each, at_each_from, earlier, if_there, distinct}
use Rattle.naga_oil_form.proofs.FormPartsLemmas.{below, operands_same}

-- ---- rows

name_same : (n : Text) (i : TypeInner) → (inner_row n i).label.name ≡ n
name_same n (Scalar c) = refl
name_same n (Vector c) = refl
name_same n (Matrix c) = refl
name_same n (ValuePointer c) = refl
name_same n (Image c) = refl
name_same n (Sampler c) = refl
name_same n (Atomic c) = refl
name_same n (AccelerationStructure c) = refl
name_same n (RayQuery c) = refl
name_same n (Pointer base space) = refl
name_same n (Struct members span) = refl
name_same n (Array base size stride) = refl
name_same n (BindingArray base size) = refl

none_mapped : {A B : Type 0} (f : A → B) (o : Option A) → is_none (option_map f o) ≡ is_none o
none_mapped f None = refl
none_mapped f (Some x) = refl

unnamed_row : (o : Option (TypeOfShader × Span)) → has_no_name (option_map (λ e. (type_row e.0, e.1)) o) ≡ is_unnamed (option_map (λ e. e.0) o)
unnamed_row None = refl
unnamed_row (Some e) = ap is_none (name_same (option_map string_bytes e.0.name) e.0.inner) ∙ none_mapped string_bytes e.0.name

constant_init : (o : Option (ConstantItself × Span)) → row_initialiser (option_map (λ e. (constant_row e.0, e.1)) o) ≡ init_of_constant o
constant_init None = refl
constant_init (Some e) = refl

named_init : (o : Option ℕ) → expression_at (option_map ExpressionItem o) ≡ o
named_init None = refl
named_init (Some k) = refl

override_init : (o : Option (Override × Span)) → row_initialiser (option_map (λ e. (override_row e.0, e.1)) o) ≡ init_of_override o
override_init None = refl
override_init (Some e) = named_init e.0.init

global_kind : (k : ℕ) → Decides (is_global_kind k) (IsGlobalKind k)
global_kind k = Decides-or (nat_lt k 4) (nat_lt 12 k) (less k 4) (less 12 k)

module _ (m : Module) where
  -- ---- names

  there : (o : ItemPlace) → Decides (is_there (module_value m) o) (IsThere m o)
  there (TypeItem k) = below _ k m.types
  there (ConstantItem k) = below _ k m.constants
  there (OverrideItem k) = below _ k m.overrides
  there (GlobalItem k) = below _ k m.global_variables
  there (ExpressionItem k) = below _ k m.global_expressions

  all_there : (r : Row) → Decides (names_there (module_value m) r) (NamesThere m r)
  all_there r = each_itself _ (λ o. IfSome o (IsThere m)) (λ o. if_there (is_there (module_value m)) (IsThere m) there o) r.names

  links_same : links_of (module_value m).types ≡ type_links (types_of m)
  links_same =
      map-map (λ (e : Row × Span). types_named e.0) (λ (e : TypeOfShader × Span). (type_row e.0, e.1)) m.types
      ∙ sym (map-map (λ (t : TypeOfShader). types_named (type_row t)) (λ (e : TypeOfShader × Span). e.0) m.types)

  pending_same : pending_of (module_value m).types ≡ pending (types_of m)
  pending_same =
      map-map (λ (e : Row × Span). list_any is_override e.0.names) (λ (e : TypeOfShader × Span). (type_row e.0, e.1)) m.types
      ∙ sym (map-map (λ (t : TypeOfShader). list_any is_override (type_row t).names) (λ (e : TypeOfShader × Span). e.0) m.types)

  size_same : (k : ℕ) → is_size_pending (module_value m) k ≡ is_sized m k
  size_same k = λ i. reaches (links_same i) (pending_same i) k

  any_same : (xs : List ℕ) → list_any (is_size_pending (module_value m)) xs ≡ list_any (is_sized m) xs
  any_same xs = λ i. list_any (λ k. size_same k i) xs

  well : (r : Row) → Decides (names_well (module_value m) r) (NamesWell m (is_sized m) r)
  well r =
      both _ _ (all_there r) (like _ (λ h. sym (any_same (types_named r)) ∙ h) (λ h. any_same (types_named r) ∙ h) (fails (list_any (is_size_pending (module_value m)) (types_named r))))

  names_tested : Decides (are_names_formed (module_value m)) (NamesForm m)
  names_tested =
      like _ (λ h. record { types = h.0.0.0.0; constants = h.0.0.0.1; overrides = h.0.0.1; globals = h.0.1; expressions = h.1 }) (λ r. ((((r.types, r.constants), r.overrides), r.globals), r.expressions))
      (both _ _ (both _ _ (both _ _ (both _ _
      (at_each _ _ _ (λ t. NamesThere m (type_row t)) (λ e. all_there (type_row e.0)) m.types)
      (at_each_from _ _ (λ e. NamesWell m (is_sized m) (constant_row e.0)) (λ e. well (constant_row e.0)) m.constants))
      (at_each_from _ _ (λ e. NamesWell m (is_sized m) (override_row e.0)) (λ e. well (override_row e.0)) m.overrides))
      (at_each_from _ _ (λ e. NamesThere m (global_row e.0)) (λ e. all_there (global_row e.0)) m.global_variables))
      (at_each_from _ _ (λ e. NamesWell m (is_sized m) (expression_row e.0)) (λ e. well (expression_row e.0)) m.global_expressions))

  -- ---- global expressions

  init_same : (o : Option ItemPlace) → initialiser_of (module_value m) o ≡ initialiser m o
  init_same None = refl
  init_same (Some (TypeItem k)) = refl
  init_same (Some (ConstantItem k)) = ap row_initialiser (slice_get-map (λ (e : ConstantItself × Span). (constant_row e.0, e.1)) m.constants k) ∙ constant_init (slice_get m.constants k)
  init_same (Some (OverrideItem k)) = ap row_initialiser (slice_get-map (λ (e : Override × Span). (override_row e.0, e.1)) m.overrides k) ∙ override_init (slice_get m.overrides k)
  init_same (Some (GlobalItem k)) = refl
  init_same (Some (ExpressionItem k)) = refl

  stands : (k : ℕ) (e : Expression × Span) → Decides (stands_after (module_value m) (k, (parts e.0, e.1))) (All (λ o. IfSome (initialiser m o) (λ i. i < k)) (expression_row e.0).names)
  stands k e =
      each_itself (λ o. passes_if_there (λ i. nat_lt i k) (initialiser_of (module_value m) o)) (λ o. IfSome (initialiser m o) (λ i. i < k))
      (λ o. Decides-at _ _ (ap (passes_if_there (λ i. nat_lt i k)) (init_same o)) (if_there (λ i. nat_lt i k) (λ i. i < k) (λ i. less i k) (initialiser m o)))
      (expression_row e.0).names

  expressions_tested : Decides (are_expressions_formed (module_value m)) (ExpressionForm m)
  expressions_tested =
      like _ (λ h. record { earlier_operands = h.0.0; after = h.0.1; kinds = h.1 }) (λ r. ((r.earlier_operands, r.after), r.kinds))
      (both _ _ (both _ _
      (Decides-at _ _ (ap are_earlier (operands_same m.global_expressions)) (earlier (operand_links m.global_expressions)))
      (in_order _ _ (λ k e. All (λ o. IfSome (initialiser m o) (λ i. i < k)) (expression_row e.0).names) stands m.global_expressions))
      (each _ _ _ IsGlobalKind (λ e. global_kind (parts e.0).kind) m.global_expressions))

  -- ---- special types

  plain_same : (j : ℕ) → is_unnamed_or_special (module_value m) j ≡ is_plain m j
  plain_same j =
      let named : has_no_name (slice_get (module_value m).types j) ≡ is_unnamed (slice_get (types_of m) j)
      = ap has_no_name (slice_get-map (λ (e : TypeOfShader × Span). (type_row e.0, e.1)) m.types j) ∙ unnamed_row (slice_get m.types j) ∙ ap is_unnamed (sym (slice_get-map (λ (e : TypeOfShader × Span). e.0) m.types j)) in
      λ i. named i || has (special_types m.special_types) j

  reach_plain : (k : ℕ) → Decides (list_all (is_unnamed_or_special (module_value m)) (trail (links_of (module_value m).types) k)) (All (λ j. is_plain m j ≡ true) (trail (type_links (types_of m)) k))
  reach_plain k =
      let same : list_all (is_unnamed_or_special (module_value m)) (trail (links_of (module_value m).types) k) ≡ list_all (is_plain m) (trail (type_links (types_of m)) k) = λ i. list_all (λ j. plain_same j i) (trail (links_same i) k) in
      Decides-at _ _ same (each_itself (is_plain m) (λ j. is_plain m j ≡ true) (λ j. itself (is_plain m j)) (trail (type_links (types_of m)) k))

  specials_tested : Decides (are_specials_formed (module_value m) (special_types m.special_types)) (SpecialForm m)
  specials_tested =
      let ks = special_types m.special_types in
      like _ (λ h. record { there = h.0.0.0; distinct = h.0.0.1; unsized = h.0.1; plain = h.1 }) (λ r. (((r.there, r.distinct), r.unsized), r.plain))
      (both _ _ (both _ _ (both _ _
      (each_itself _ (λ k. k < length m.types) (λ k. below _ k m.types) ks)
      (distinct nat_eq ks))
      (each_itself _ (λ k. is_sized m k ≡ false) (λ k. Decides-at _ _ (ap not (size_same k)) (fails (is_sized m k))) ks))
      (each_itself _ (λ k. All (λ j. is_plain m j ≡ true) (trail (type_links (types_of m)) k)) reach_plain ks))

  pub items_tested : Decides (are_items_formed (module_value m)) (ItemForm m)
  items_tested =
      like _ (λ h. record { earlier_types = h.0.0.0; names = h.0.0.1; expressions = h.0.1; special = h.1 }) (λ r. (((r.earlier_types, r.names), r.expressions), r.special))
      (both _ _ (both _ _ (both _ _
      (Decides-at _ _ (ap are_earlier links_same) (earlier (type_links (types_of m))))
      names_tested)
      expressions_tested)
      specials_tested)
