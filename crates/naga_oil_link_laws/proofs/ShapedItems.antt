-- The items of plain data with the shape of a module are formed, if the data passes the test of form.
use Rattle.std.proofs.Common.{◌≡◌, inl, inr, ⊎_elim, ℕ, zero, suc, ◌<◌, ◌≤◌, Bool, true, false, not, ◌||◌, List, [], ◌∷◌, length, map, slice_get, Option, Some, None, option_map, option_to_list, is_none, IfSome, All, nat_lt, refl, ap, sym, ◌∙◌, subst, arith}
use Rattle.std.specs.List.{filter_map, flat_map, list_any, list_all, enumerate_from}
use Rattle.std.proofs.lemmas.Bool.{or_cases, false≢true, cases_Bool}
use Rattle.std.proofs.lemmas.Bool.Decides.{Decides-or}
use Rattle.std.proofs.lemmas.List.{map-id}
use Rattle.std.proofs.lemmas.List.Elements.{All-nil, All-cons, All-head, All-tail}
use Rattle.naga_oil_form.specs.BodyForm.{IsSpanFine}
use Rattle.naga_oil_form.specs.ItemForm.{type_at, types_named, is_override, IsGlobalKind}
use Rattle.naga_oil_form.specs.Links.{AreEarlier, linked, trail, has, is_marked}
use Rattle.naga_oil_ir.specs.ModuleValue.{ModuleValue}
use Rattle.naga_oil_ir.specs.Parts.{Parts}
use Rattle.naga_oil_ir.specs.Rows.{Row, Kind, TypeKind, ConstantKind, OverrideKind, GlobalKind, ExpressionKind, parts_row, named_place}
use Rattle.naga_oil_ir.specs.declared.names.ItemPlace.{ItemPlace}
use Rattle.naga_oil_ir.specs.declared.names.ItemPlace.TheVariants.{TypeItem, ConstantItem, OverrideItem, GlobalItem, ExpressionItem}
use Rattle.naga_oil_ir.specs.declared.parts.Named.{Named}
use Rattle.naga_oil_ir.specs.declared.parts.Named.TheVariants.{Nothing, TypeOf, ConstantAt, OverrideAt, GlobalAt, LocalAt, ArgumentAt, FunctionAt}
use Rattle.naga_oil_ir.specs.declared.span.Span.{Span}
use Rattle.naga_oil_form.proofs.LinkLemmas.{All-has, linked-map, marked-map}
use Rattle.naga_oil_derive.specs.Tree.{World}
use Rattle.naga_oil_derive.specs.World.{world, span_at, special_entries}
use Rattle.naga_oil_derive.specs.CopiedLaw.{place_number, kind_number, HasAt}
use Rattle.naga_oil_derive.proofs.SpecialLemmas.{Entry}
use Rattle.naga_oil_form_laws.specs.ItemsStand.{OfType, IsFixed, IsUnsized, IsBefore, NamesBefore, may_name_kind, MayName, MayBeGlobal, IsPlain, MayBeSpecial, AreSpansFine, AreFormed}
use Rattle.naga_oil_form_laws.proofs.ParsedItems.{one_row, reached_all, special_places_same, fine_more}
use Rattle.naga_oil_form_laws.proofs.RankLemmas.{row_of, in_types, pending_of}
use Rattle.naga_oil_form_laws.proofs.RequestLemmas.{all_at, from_at, map_of, type_there, constant_there, override_there, global_there, expression_there}
use Rattle.naga_oil_form_laws.specs.Shape.{NamesAsType, NamesTypeAndValue, NamesGlobalAsGlobal, HasModuleShape}
use Rattle.naga_oil_form.specs.Form.{are_items_formed, are_spans_formed}
use Rattle.naga_oil_form.specs.FormItems.{is_there, names_there, links_of, is_size_pending, names_well, are_names_formed, second_named, row_initialiser, initialiser_of, stands_after, is_global_kind, are_expressions_formed, specials_of, has_no_name, is_unnamed_or_special, are_specials_formed}
use Rattle.naga_oil_form.specs.FormParts.{passes_if_there, are_earlier, operands_of, is_span_fine}
use Rattle.naga_oil_form.proofs.DecisionLemmas.{both, itself, fails, less, each_itself, in_order, earlier, if_there}
use Rattle.naga_oil_form.proofs.FormPartsLemmas.{span_fine}
use Rattle.naga_oil_link_laws.proofs.ShapedFunctions.{each_of}

-- ---- lists

none_all : (p : ℕ → Bool) (xs : List ℕ) → list_any p xs ≡ false → All (λ x. p x ≡ false) xs
none_all p [] h = All-nil (λ x. p x ≡ false)
none_all p (x ∷ xs) h =
    ⊎_elim (λ e. absurd (false≢true (sym h ∙ ap (λ b. b || list_any p xs) e))) (λ e. All-cons (λ y. p y ≡ false) x xs e (none_all p xs (sym (ap (λ b. b || list_any p xs) e) ∙ h))) (cases_Bool (p x))

span_among : {X : Type 0} (n : ℕ) (xs : List (X × Span)) (k : ℕ) (s : Span) → option_map (λ (e : X × Span). e.1) (slice_get xs k) ≡ Some s → All (λ (e : X × Span). IsSpanFine n e.1) xs → IsSpanFine n s
span_among n [] k s e a = cc
span_among n (x ∷ xs) zero s e a = let g : x.1 ≡ s = cc in subst (IsSpanFine n) g (All-head (λ e. IsSpanFine n e.1) x xs a)
span_among n (x ∷ xs) (suc k) s e a = span_among n xs k s e (All-tail (λ e. IsSpanFine n e.1) x xs a)

same_row : {X : Type 0} (o : Option (X × Span)) (r : X) → option_map (λ (e : X × Span). e.0) o ≡ Some r → (e : X × Span) × (o ≡ Some e) × (e.0 ≡ r)
same_row None r h = cc
same_row (Some x) r h = (x, refl, (let q : x.0 ≡ r = cc in q))

-- ---- kinds

-- an item that is no expression may stand where expressions are judged
no_expression : (kind : Kind) (n : ℕ) → kind_number kind ≡ n → n < 4 → MayBeGlobal kind
no_expression (TypeKind k) n e l = tt
no_expression ConstantKind n e l = tt
no_expression OverrideKind n e l = tt
no_expression GlobalKind n e l = tt
no_expression (ExpressionKind k x) n e l = absurd (omega (arith, e, l))

-- ---- the items

module _ (m : ModuleValue) (shape : HasModuleShape m) (items : are_items_formed m ≡ true) where
  abbrev w : World
  w = world m

  abbrev Told : Option ItemPlace → Type 0
  Told o = IfSome o (λ q. is_there m q ≡ true)

  parts_told : ((are_earlier (links_of m.types) ≡ true) × (are_names_formed m ≡ true)) × (are_expressions_formed m ≡ true) × (are_specials_formed m (specials_of m.special_types) ≡ true)
  parts_told = let h = (both _ _ (both _ _ (both _ _ (itself (are_earlier (links_of m.types))) (itself (are_names_formed m))) (itself (are_expressions_formed m))) (itself (are_specials_formed m (specials_of m.special_types)))).0 items in (h.0.0, h.0.1, h.1)

  earlier_types : AreEarlier (links_of m.types)
  earlier_types = (earlier (links_of m.types)).0 parts_told.0.0

  there : (q : ItemPlace) → is_there m q ≡ true → HasAt m q
  there (TypeItem k) h = type_there m k ((less k (length m.types)).0 h)
  there (ConstantItem k) h = constant_there m k ((less k (length m.constants)).0 h)
  there (OverrideItem k) h = override_there m k ((less k (length m.overrides)).0 h)
  there (GlobalItem k) h = global_there m k ((less k (length m.global_variables)).0 h)
  there (ExpressionItem k) h = expression_there m k ((less k (length m.global_expressions)).0 h)

  names_told : (r : Row) → names_there m r ≡ true → All Told r.names
  names_told r h = (each_itself (passes_if_there (is_there m)) Told (λ o. if_there (is_there m) (λ q. is_there m q ≡ true) (λ q. itself (is_there m q)) o) r.names).0 h

  well_told : (r : Row) → names_well m r ≡ true → All Told r.names × (list_any (is_size_pending m) (types_named r) ≡ false)
  well_told r h = let p = (both _ _ (itself (names_there m r)) (fails (list_any (is_size_pending m) (types_named r)))).0 h in (names_told r p.0, p.1)

  abbrev AllPass : {X : Type 0} → (X → Bool) → List X → Type 0
  AllPass p xs = All (λ x. p x ≡ true) xs

  passing : {X : Type 0} (p : X → Bool) (xs : List X) → list_all p xs ≡ true → AllPass p xs
  passing p xs h = (each_itself p (λ x. p x ≡ true) (λ x. itself (p x)) xs).0 h

  pub record NamesTold : Type 0 where
    pub types : AllPass (λ (e : Row × Span). names_there m e.0) m.types
    pub constants : AllPass (λ (e : Row × Span). names_well m e.0) m.constants
    pub overrides : AllPass (λ (e : Row × Span). names_well m e.0) m.overrides
    pub globals : AllPass (λ (e : Row × Span). names_there m e.0) m.global_variables
    pub expressions : AllPass (λ (e : Parts × Span). names_well m (parts_row e.0)) m.global_expressions

  names : NamesTold
  names =
      let h = (both _ _ (both _ _ (both _ _ (both _ _ (itself (list_all (λ (e : Row × Span). names_there m e.0) m.types)) (itself (list_all (λ (e : Row × Span). names_well m e.0) m.constants))) (itself (list_all (λ (e : Row × Span). names_well m e.0) m.overrides))) (itself (list_all (λ (e : Row × Span). names_there m e.0) m.global_variables))) (itself (list_all (λ (e : Parts × Span). names_well m (parts_row e.0)) m.global_expressions))).0 parts_told.0.1 in
      record {
        types = passing (λ (e : Row × Span). names_there m e.0) m.types h.0.0.0.0;
        constants = passing (λ (e : Row × Span). names_well m e.0) m.constants h.0.0.0.1;
        overrides = passing (λ (e : Row × Span). names_well m e.0) m.overrides h.0.0.1;
        globals = passing (λ (e : Row × Span). names_there m e.0) m.global_variables h.0.1;
        expressions = passing (λ (e : Parts × Span). names_well m (parts_row e.0)) m.global_expressions h.1;
      }

  -- ---- what types reach

  fixed_at : (k : ℕ) (r : Row) → w (TypeItem k) ≡ Some r → is_marked (pending_of m) k ≡ false → IsFixed k r
  fixed_at k r at h = let x = row_of m k r at in sym (marked-map (λ (y : Row × Span). list_any is_override y.0.names) m.types k x.0 x.1 ∙ ap (λ (y : Row). list_any is_override y.names) x.2) ∙ h

  unsized : (k : ℕ) → is_size_pending m k ≡ false → IsUnsized w k
  unsized k h n = reached_all m earlier_types (λ j. is_marked (pending_of m) j ≡ false) IsFixed fixed_at n k (none_all (is_marked (pending_of m)) (trail (links_of m.types) k) h)

  -- ---- types

  type_name : (k : ℕ) (r : Row) (i : ℕ) (o : Option ItemPlace) → All (λ x. x < k) (types_named r) → All Told r.names → NamesAsType r.names → slice_get r.names i ≡ Some o → IfSome o (MayName w (TypeItem k))
  type_name k r i None l a s e = tt
  type_name k r i (Some q) l a s e = record {
    there = there q (all_at Told r.names i (Some q) a e);
    kind = all_at (λ o. IfSome o (λ p. may_name_kind 0 (place_number p) ≡ true)) r.names i (Some q) s e;
    of_type = less_than q e;
    following = tt;
  }
    where
      less_than : (q : ItemPlace) → slice_get r.names i ≡ Some (Some q) → OfType (λ j. j < k) q
      less_than (TypeItem j) e = All-has (λ x. x < k) (types_named r) j l (in_types r.names i j e)
      less_than (ConstantItem j) e = tt
      less_than (OverrideItem j) e = tt
      less_than (GlobalItem j) e = tt
      less_than (ExpressionItem j) e = tt

  type_names : (k : ℕ) (e : Row × Span) → slice_get m.types k ≡ Some e → All (λ o. IfSome o (MayName w (TypeItem k))) e.0.names
  type_names k e at =
      let l : All (λ x. x < k) (types_named e.0) = subst (All (λ x. x < k)) (linked-map (λ (x : Row × Span). types_named x.0) m.types k e at) (earlier_types k) in
      let a = names_told e.0 (all_at (λ (x : Row × Span). names_there m x.0 ≡ true) m.types k e names.types at) in
      let s = all_at (λ (x : Row × Span). NamesAsType x.0.names) m.types k e shape.types at in
      from_at (λ o. IfSome o (MayName w (TypeItem k))) e.0.names (λ i o x. type_name k e.0 i o l a s x)

  -- ---- constants, overrides and globals

  first_unsized : (t : ℕ) (ns : List (Option ItemPlace)) → list_any (is_size_pending m) (t ∷ filter_map type_at ns) ≡ false → IsUnsized w t
  first_unsized t ns h = unsized t (All-head (λ k. is_size_pending m k ≡ false) t (filter_map type_at ns) (none_all (is_size_pending m) (t ∷ filter_map type_at ns) h))

  two_names : (p : ItemPlace) (t : ℕ) (o : Option ℕ) → All Told (Some (TypeItem t) ∷ option_map ExpressionItem o ∷ []) → (HasAt m (TypeItem t) → MayName w p (TypeItem t)) → ((j : ℕ) → HasAt m (ExpressionItem j) → MayName w p (ExpressionItem j)) → All (λ n. IfSome n (MayName w p)) (Some (TypeItem t) ∷ option_map ExpressionItem o ∷ [])
  two_names p t None a g h = All-cons (λ n. IfSome n (MayName w p)) (Some (TypeItem t)) (None ∷ []) (g (there (TypeItem t) (All-head Told (Some (TypeItem t)) (None ∷ []) a))) (All-cons (λ n. IfSome n (MayName w p)) None [] tt (All-nil (λ n. IfSome n (MayName w p))))
  two_names p t (Some j) a g h =
      let rest = All-tail Told (Some (TypeItem t)) (Some (ExpressionItem j) ∷ []) a in
      All-cons (λ n. IfSome n (MayName w p)) (Some (TypeItem t)) (Some (ExpressionItem j) ∷ []) (g (there (TypeItem t) (All-head Told (Some (TypeItem t)) (Some (ExpressionItem j) ∷ []) a)))
      (All-cons (λ n. IfSome n (MayName w p)) (Some (ExpressionItem j)) [] (h j (there (ExpressionItem j) (All-head Told (Some (ExpressionItem j)) [] rest))) (All-nil (λ n. IfSome n (MayName w p))))

  shaped_names : (p : ItemPlace) (r : Row) (s : NamesTypeAndValue r.names) → All Told r.names → (HasAt m (TypeItem s.ty) → MayName w p (TypeItem s.ty)) → ((j : ℕ) → HasAt m (ExpressionItem j) → MayName w p (ExpressionItem j)) → All (λ n. IfSome n (MayName w p)) r.names
  shaped_names p r s a g h = subst (All (λ n. IfSome n (MayName w p))) (sym s.are) (two_names p s.ty s.value (subst (All Told) s.are a) g h)

  shaped_unsized : (r : Row) (s : NamesTypeAndValue r.names) → list_any (is_size_pending m) (types_named r) ≡ false → IsUnsized w s.ty
  shaped_unsized r s h = first_unsized s.ty (option_map ExpressionItem s.value ∷ []) (ap (λ ns. list_any (is_size_pending m) (filter_map type_at ns)) (sym s.are) ∙ h)

  constant_names : (k : ℕ) (e : Row × Span) → slice_get m.constants k ≡ Some e → All (λ o. IfSome o (MayName w (ConstantItem k))) e.0.names
  constant_names k e at =
      let s = all_at (λ (x : Row × Span). NamesTypeAndValue x.0.names) m.constants k e shape.constants at in
      let n = well_told e.0 (all_at (λ (x : Row × Span). names_well m x.0 ≡ true) m.constants k e names.constants at) in
      shaped_names (ConstantItem k) e.0 s n.0 (λ h. record { there = h; kind = refl; of_type = shaped_unsized e.0 s n.1; following = tt }) (λ j h. record { there = h; kind = refl; of_type = tt; following = tt })

  override_names : (k : ℕ) (e : Row × Span) → slice_get m.overrides k ≡ Some e → All (λ o. IfSome o (MayName w (OverrideItem k))) e.0.names
  override_names k e at =
      let s = all_at (λ (x : Row × Span). NamesTypeAndValue x.0.names) m.overrides k e shape.overrides at in
      let n = well_told e.0 (all_at (λ (x : Row × Span). names_well m x.0 ≡ true) m.overrides k e names.overrides at) in
      shaped_names (OverrideItem k) e.0 s n.0 (λ h. record { there = h; kind = refl; of_type = shaped_unsized e.0 s n.1; following = tt }) (λ j h. record { there = h; kind = refl; of_type = tt; following = tt })

  global_names : (k : ℕ) (e : Row × Span) → slice_get m.global_variables k ≡ Some e → All (λ o. IfSome o (MayName w (GlobalItem k))) e.0.names
  global_names k e at =
      let s = all_at (λ (x : Row × Span). NamesTypeAndValue x.0.names) m.global_variables k e shape.globals at in
      let n = names_told e.0 (all_at (λ (x : Row × Span). names_there m x.0 ≡ true) m.global_variables k e names.globals at) in
      shaped_names (GlobalItem k) e.0 s n (λ h. record { there = h; kind = refl; of_type = tt; following = tt }) (λ j h. record { there = h; kind = refl; of_type = tt; following = tt })

  -- ---- global expressions

  pub record ExpressionsTold : Type 0 where
    pub earlier_operands : AreEarlier (operands_of m.global_expressions)
    pub after : (k : ℕ) (e : Parts × Span) → slice_get m.global_expressions k ≡ Some e → stands_after m (k, e) ≡ true
    pub kinds : AllPass (λ (e : Parts × Span). is_global_kind e.0.kind) m.global_expressions

  expressions : ExpressionsTold
  expressions =
      let es = m.global_expressions in
      let same : enumerate_from 0 (map (λ (x : Parts × Span). x) es) ≡ enumerate_from 0 es = ap (enumerate_from 0) (map-id es) in
      let h = (both _ _ (both _ _ (earlier (operands_of es)) (itself (list_all (stands_after m) (enumerate_from 0 es)))) (itself (list_all (λ (e : Parts × Span). is_global_kind e.0.kind) es))).0 parts_told.1 in
      record {
        earlier_operands = h.0.0;
        after = (in_order (λ (x : Parts × Span). x) (stands_after m) (λ k (e : Parts × Span). stands_after m (k, e) ≡ true) (λ k e. itself (stands_after m (k, e))) es).0 (ap (list_all (stands_after m)) same ∙ h.0.1);
        kinds = passing (λ (e : Parts × Span). is_global_kind e.0.kind) es h.1;
      }

  two_before : (k t : ℕ) (o : Option ℕ) → IfSome o (λ i. i < k) → All (λ n. IfSome n (IsBefore k)) (Some (TypeItem t) ∷ option_map ExpressionItem o ∷ [])
  two_before k t None h = All-cons (λ n. IfSome n (IsBefore k)) (Some (TypeItem t)) (None ∷ []) tt (All-cons (λ n. IfSome n (IsBefore k)) None [] tt (All-nil (λ n. IfSome n (IsBefore k))))
  two_before k t (Some i) h = All-cons (λ n. IfSome n (IsBefore k)) (Some (TypeItem t)) (Some (ExpressionItem i) ∷ []) tt (All-cons (λ n. IfSome n (IsBefore k)) (Some (ExpressionItem i)) [] h (All-nil (λ n. IfSome n (IsBefore k))))

  value_named : (t : ℕ) (o : Option ℕ) → second_named (Some (TypeItem t) ∷ option_map ExpressionItem o ∷ []) ≡ o
  value_named t None = refl
  value_named t (Some i) = refl

  shaped_before : (k : ℕ) (r : Row) (s : NamesTypeAndValue r.names) → IfSome (second_named r.names) (λ i. i < k) → All (λ n. IfSome n (IsBefore k)) r.names
  shaped_before k r s h =
      let i : IfSome s.value (λ i. i < k) = subst (λ o. IfSome o (λ i. i < k)) (ap second_named s.are ∙ value_named s.ty s.value) h in
      subst (All (λ n. IfSome n (IsBefore k))) (sym s.are) (two_before k s.ty s.value i)

  row_before : (k c : ℕ) (xs : List (Row × Span)) → All (λ (x : Row × Span). NamesTypeAndValue x.0.names) xs → IfSome (row_initialiser (slice_get xs c)) (λ i. i < k) → (r : Row) → option_map (λ (e : Row × Span). e.0) (slice_get xs c) ≡ Some r → All (λ n. IfSome n (IsBefore k)) r.names
  row_before k c xs a h r at =
      let x = same_row (slice_get xs c) r at in
      let s = all_at (λ (y : Row × Span). NamesTypeAndValue y.0.names) xs c x.0 a x.1 in
      subst (λ (y : Row). All (λ n. IfSome n (IsBefore k)) y.names) x.2 (shaped_before k x.0.0 s (subst (λ o. IfSome (row_initialiser o) (λ i. i < k)) x.1 h))

  constant_before : (k c : ℕ) → IfSome (initialiser_of m (Some (ConstantItem c))) (λ i. i < k) → NamesBefore w k (ConstantItem c)
  unfolding world
  constant_before k c h = row_before k c m.constants shape.constants h

  override_before : (k c : ℕ) → IfSome (initialiser_of m (Some (OverrideItem c))) (λ i. i < k) → NamesBefore w k (OverrideItem c)
  unfolding world
  override_before k c h = row_before k c m.overrides shape.overrides h

  global_kind : (k : ℕ) → is_global_kind k ≡ true → IsGlobalKind k
  global_kind k h = (Decides-or (nat_lt k 4) (nat_lt 12 k) (less k 4) (less 12 k)).0 h

  no_global : (k : ℕ) → IsGlobalKind k → k ≡ 4 → ⊥
  no_global k (inl l) e = absurd (omega (arith, l, e))
  no_global k (inr l) e = absurd (omega (arith, l, e))

  named_name : (k : ℕ) (x : Named) (ns : List (Option ItemPlace)) → All Told (named_place x ∷ ns) → list_any (is_size_pending m) (filter_map type_at (named_place x ∷ ns)) ≡ false → IfSome (initialiser_of m (named_place x)) (λ i. i < k) → ((g : ℕ) → x ≡ GlobalAt g → ⊥) → IfSome (named_place x) (MayName w (ExpressionItem k))
  named_name k Nothing ns a u i g = tt
  named_name k (TypeOf t) ns a u i g = record { there = there (TypeItem t) (All-head Told (Some (TypeItem t)) ns a); kind = refl; of_type = first_unsized t ns u; following = tt }
  named_name k (ConstantAt c) ns a u i g = record { there = there (ConstantItem c) (All-head Told (Some (ConstantItem c)) ns a); kind = refl; of_type = tt; following = constant_before k c i }
  named_name k (OverrideAt c) ns a u i g = record { there = there (OverrideItem c) (All-head Told (Some (OverrideItem c)) ns a); kind = refl; of_type = tt; following = override_before k c i }
  named_name k (GlobalAt c) ns a u i g = absurd (g c refl)
  named_name k (LocalAt c) ns a u i g = tt
  named_name k (ArgumentAt c) ns a u i g = tt
  named_name k (FunctionAt c) ns a u i g = tt

  operand_names : (k : ℕ) (os : List (Option ℕ)) → All Told (map (option_map ExpressionItem) os) → All (λ x. x < k) (flat_map option_to_list os) → All (λ o. IfSome o (MayName w (ExpressionItem k))) (map (option_map ExpressionItem) os)
  operand_names k [] a b = All-nil (λ o. IfSome o (MayName w (ExpressionItem k)))
  operand_names k (None ∷ os) a b = All-cons (λ o. IfSome o (MayName w (ExpressionItem k))) None (map (option_map ExpressionItem) os) tt (operand_names k os (All-tail Told None (map (option_map ExpressionItem) os) a) b)
  operand_names k (Some j ∷ os) a b =
      let rest = map (option_map ExpressionItem) os in
      let here = there (ExpressionItem j) (All-head Told (Some (ExpressionItem j)) rest a) in
      let l : j < k = All-head (λ x. x < k) j (flat_map option_to_list os) b in
      All-cons (λ o. IfSome o (MayName w (ExpressionItem k))) (Some (ExpressionItem j)) rest (record { there = here; kind = refl; of_type = tt; following = l }) (operand_names k os (All-tail Told (Some (ExpressionItem j)) rest a) (All-tail (λ x. x < k) j (flat_map option_to_list os) b))

  expression_names : (k : ℕ) (e : Parts × Span) → slice_get m.global_expressions k ≡ Some e → All (λ o. IfSome o (MayName w (ExpressionItem k))) (parts_row e.0).names
  expression_names k e at =
      let os = map (option_map ExpressionItem) e.0.operands in
      let first = named_place e.0.named in
      let n = well_told (parts_row e.0) (all_at (λ (x : Parts × Span). names_well m (parts_row x.0) ≡ true) m.global_expressions k e names.expressions at) in
      let links : linked (operands_of m.global_expressions) k ≡ flat_map option_to_list e.0.operands = linked-map (λ (x : Parts × Span). flat_map option_to_list x.0.operands) m.global_expressions k e at in
      let below = subst (All (λ x. x < k)) links (expressions.earlier_operands k) in
      let after = (each_itself (λ o. passes_if_there (λ i. nat_lt i k) (initialiser_of m o)) (λ o. IfSome (initialiser_of m o) (λ i. i < k)) (λ o. if_there (λ i. nat_lt i k) (λ i. i < k) (λ i. less i k) (initialiser_of m o)) (parts_row e.0).names).0 (expressions.after k e at) in
      let kind = global_kind e.0.kind (all_at (λ (x : Parts × Span). is_global_kind x.0.kind ≡ true) m.global_expressions k e expressions.kinds at) in
      let globals = all_at (λ (x : Parts × Span). NamesGlobalAsGlobal x.0) m.global_expressions k e shape.global_expressions at in
      All-cons (λ o. IfSome o (MayName w (ExpressionItem k))) first os (named_name k e.0.named os n.0 n.1 (All-head (λ o. IfSome (initialiser_of m o) (λ i. i < k)) first os after) (λ g h. no_global e.0.kind kind (globals g h))) (operand_names k e.0.operands (All-tail Told first os n.0) below)

  -- ---- everything

  row_names : (p : ItemPlace) (xs : List (Row × Span)) (k : ℕ) (r : Row) → option_map (λ (e : Row × Span). e.0) (slice_get xs k) ≡ Some r → ((e : Row × Span) → slice_get xs k ≡ Some e → All (λ o. IfSome o (MayName w p)) e.0.names) → All (λ o. IfSome o (MayName w p)) r.names
  row_names p xs k r at f = let x = same_row (slice_get xs k) r at in subst (λ (y : Row). All (λ o. IfSome o (MayName w p)) y.names) x.2 (f x.0 x.1)

  item_names : (p : ItemPlace) (r : Row) → w p ≡ Some r → All (λ o. IfSome o (MayName w p)) r.names
  unfolding world
  item_names (TypeItem k) r at = row_names (TypeItem k) m.types k r at (type_names k)
  item_names (ConstantItem k) r at = row_names (ConstantItem k) m.constants k r at (constant_names k)
  item_names (OverrideItem k) r at = row_names (OverrideItem k) m.overrides k r at (override_names k)
  item_names (GlobalItem k) r at = row_names (GlobalItem k) m.global_variables k r at (global_names k)
  item_names (ExpressionItem k) r at = let x = one_row parts_row (slice_get m.global_expressions k) r at in subst (λ (y : Row). All (λ o. IfSome o (MayName w (ExpressionItem k))) y.names) x.2 (expression_names k x.0 x.1)

  expression_kind : (k : ℕ) (r : Row) → option_map (λ (e : Parts × Span). parts_row e.0) (slice_get m.global_expressions k) ≡ Some r → MayBeGlobal r.label.kind
  expression_kind k r at =
      let x = one_row parts_row (slice_get m.global_expressions k) r at in
      subst (λ (y : Row). MayBeGlobal y.label.kind) x.2 (global_kind x.0.0.kind (all_at (λ (y : Parts × Span). is_global_kind y.0.kind ≡ true) m.global_expressions k x.0 expressions.kinds x.1))

  item_kinds : (p : ItemPlace) (r : Row) → w p ≡ Some r → MayBeGlobal r.label.kind
  unfolding world
  item_kinds (TypeItem k) r at = no_expression r.label.kind 0 (shape.kinds (TypeItem k) r at) (omega arith)
  item_kinds (ConstantItem k) r at = no_expression r.label.kind 1 (shape.kinds (ConstantItem k) r at) (omega arith)
  item_kinds (OverrideItem k) r at = no_expression r.label.kind 2 (shape.kinds (OverrideItem k) r at) (omega arith)
  item_kinds (GlobalItem k) r at = no_expression r.label.kind 3 (shape.kinds (GlobalItem k) r at) (omega arith)
  item_kinds (ExpressionItem k) r at = expression_kind k r at

  -- ---- special types

  abbrev specials : List ℕ
  specials = specials_of m.special_types

  special_same : map (λ (e : Entry). e.1) (special_entries m.special_types) ≡ specials
  special_same = let s = m.special_types in special_places_same s.ray_desc s.ray_intersection s.ray_vertex_return s.predeclared_types

  plain_at : (k : ℕ) (r : Row) → w (TypeItem k) ≡ Some r → is_unnamed_or_special m k ≡ true → IsPlain m.special_types k r
  plain_at k r at h =
      let x = row_of m k r at in
      ⊎_elim (λ e. inl (ap (λ (y : Row). y.label.name) (sym x.2) ∙ no_name x.0.0.label.name (sym (ap has_no_name x.1) ∙ e))) (λ e. inr (ap (λ xs. has xs k) special_same ∙ e)) (or_cases (has_no_name (slice_get m.types k)) (has specials k) h)
    where
      no_name : (o : Option (List ℕ)) → is_none o ≡ true → o ≡ None
      no_name None h = refl
      no_name (Some x) h = absurd (false≢true h)

  special_formed : All (λ (e : Entry). MayBeSpecial m e.1) (special_entries m.special_types)
  special_formed =
      let h = (both _ _ (both _ _ (both _ _ (itself (list_all (λ k. nat_lt k (length m.types)) specials)) (itself _)) (itself (list_all (λ k. not (is_size_pending m k)) specials))) (itself (list_all (λ k. list_all (is_unnamed_or_special m) (trail (links_of m.types) k)) specials))).0 parts_told.2 in
      let lengths = passing (λ k. nat_lt k (length m.types)) specials h.0.0.0 in
      let sizes = passing (λ k. not (is_size_pending m k)) specials h.0.1 in
      let plains = passing (λ k. list_all (is_unnamed_or_special m) (trail (links_of m.types) k)) specials h.1 in
      let each : All (MayBeSpecial m) specials = from_at (MayBeSpecial m) specials (λ i k at. record {
        there = type_there m k ((less k (length m.types)).0 (all_at (λ k. nat_lt k (length m.types) ≡ true) specials i k lengths at));
        unsized = unsized k ((fails (is_size_pending m k)).0 (all_at (λ k. not (is_size_pending m k) ≡ true) specials i k sizes at));
        plain = λ n. reached_all m earlier_types (λ j. is_unnamed_or_special m j ≡ true) (IsPlain m.special_types) plain_at n k (passing (is_unnamed_or_special m) (trail (links_of m.types) k) (all_at (λ k. list_all (is_unnamed_or_special m) (trail (links_of m.types) k) ≡ true) specials i k plains at));
      }) in
      map_of (MayBeSpecial m) (λ (e : Entry). e.1) (special_entries m.special_types) (subst (All (MayBeSpecial m)) (sym special_same) each)

  -- ---- spans

  module _ (n : ℕ) (l : n ≤ 4294967295) (spans : are_spans_formed m n ≡ true) where
    all_spans : {X : Type 0} (xs : List (X × Span)) → list_all (λ (e : X × Span). is_span_fine n e.1) xs ≡ true → All (λ (e : X × Span). IsSpanFine 4294967295 e.1) xs
    all_spans xs h = each_of (λ e. is_span_fine n e.1) (λ e. IsSpanFine 4294967295 e.1) (λ e i. fine_more n 4294967295 e.1 l ((span_fine n e.1).0 i)) xs h

    spans_formed : AreSpansFine m 4294967295
    unfolding span_at
    spans_formed p s e = at_place p e
      where
        told : ((((((list_all (λ e. is_span_fine n e.1) m.types ≡ true) × (list_all (λ e. is_span_fine n e.1) m.constants ≡ true)) × (list_all (λ e. is_span_fine n e.1) m.overrides ≡ true)) × (list_all (λ e. is_span_fine n e.1) m.global_variables ≡ true)) × (list_all (λ e. is_span_fine n e.1) m.global_expressions ≡ true)) × (list_all (λ e. is_span_fine n e.1) m.functions ≡ true))
        told = (both _ _ (both _ _ (both _ _ (both _ _ (both _ _ (itself (list_all (λ e. is_span_fine n e.1) m.types)) (itself (list_all (λ e. is_span_fine n e.1) m.constants))) (itself (list_all (λ e. is_span_fine n e.1) m.overrides))) (itself (list_all (λ e. is_span_fine n e.1) m.global_variables))) (itself (list_all (λ e. is_span_fine n e.1) m.global_expressions))) (itself (list_all (λ e. is_span_fine n e.1) m.functions))).0 spans

        at_place : (p : ItemPlace) → span_at m p ≡ Some s → IsSpanFine 4294967295 s
        at_place (TypeItem k) e = span_among 4294967295 m.types k s e (all_spans m.types told.0.0.0.0.0)
        at_place (ConstantItem k) e = span_among 4294967295 m.constants k s e (all_spans m.constants told.0.0.0.0.1)
        at_place (OverrideItem k) e = span_among 4294967295 m.overrides k s e (all_spans m.overrides told.0.0.0.1)
        at_place (GlobalItem k) e = span_among 4294967295 m.global_variables k s e (all_spans m.global_variables told.0.0.1)
        at_place (ExpressionItem k) e = span_among 4294967295 m.global_expressions k s e (all_spans m.global_expressions told.0.1)

    pub items_formed : AreFormed m
    items_formed = record {
      kinds = shape.kinds;
      keys = shape.keys;
      items = record { names = item_names; kinds = item_kinds };
      special = special_formed;
      spans = spans_formed;
    }
