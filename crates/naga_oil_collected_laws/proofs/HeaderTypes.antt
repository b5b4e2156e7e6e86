-- Own types of a source get their decorated names as they are copied into a header.
use Rattle.std.proofs.Common.{◌≡◌, ⊎_elim, ◌⊎◌, ℕ, zero, suc, ◌+◌, ◌<◌, ◌==◌, if◌then◌else◌, List, [], ◌∷◌, ◌++◌, length, Contains, map, fold, Option, Some, None, Bool, true, false, option_map, slice_get, All, inl, inr, refl, ap, sym, ◌∙◌, subst, arith, append_assoc}
use Rattle.std.specs.List.{range_with_len}
use Rattle.std.proofs.lemmas.Bool.{false≢true, cases_lt}
use Rattle.std.proofs.lemmas.List.Elements.{All-nil, All-cons, All-append, All-head, All-tail, Contains-append_cases, Contains-push_cases}
use Rattle.std.proofs.lemmas.List.Sums.{fold-append}
use Rattle.std.proofs.lemmas.Option.{none-some, same_Some}
use Rattle.naga_oil_ir.specs.ModuleValue.{ModuleValue}
use Rattle.naga_oil_ir.specs.Rows.{Row, Text}
use Rattle.naga_oil_ir.specs.declared.names.ItemPlace.{ItemPlace}
use Rattle.naga_oil_ir.specs.declared.names.ItemPlace.TheVariants.{TypeItem, ConstantItem, OverrideItem, GlobalItem, ExpressionItem}
use Rattle.naga_oil_form.specs.Links.{has}
use Rattle.naga_oil_form.proofs.LinkLemmas.{eqb_eq, eq_eqb, or_left, or_right}
use Rattle.naga_oil_rename.specs.Renames.{under_name}
use Rattle.naga_oil_derive.specs.declared.special.SpecialKey.{SpecialKey}
use Rattle.naga_oil_derive.specs.Collected.{depth, reached, names_trail, row_trail, kept_trail}
use Rattle.naga_oil_derive.specs.CopiedLaw.{HasAt, PlacesAmong}
use Rattle.naga_oil_derive.specs.Copying.{WentSomewhere}
use Rattle.naga_oil_derive.specs.Derived.{Source, Derived, nothing, as_read, kept, special_places}
use Rattle.naga_oil_derive.specs.DerivedValue.{rename_type, set_source, copy_special}
use Rattle.naga_oil_derive.specs.Tree.{World, Kept}
use Rattle.naga_oil_derive.specs.World.{goes, world, renamed_at, special_entries}
use Rattle.naga_oil_derive.proofs.DerivedLaws.{nothing_derived}
use Rattle.naga_oil_derive.proofs.SetLaws.{set_law}
use Rattle.naga_oil_derive.proofs.TreeLemmas.{same_number, same_or_not}
use Rattle.naga_oil_form_laws.proofs.RequestLemmas.{type_there, constant_there, override_there, global_there}
use Rattle.naga_oil_link.specs.CopiedBuild.{OwnCopies, decorated_type, copy_own, copy_other, copy_at, is_type, nothing_copied, copy_places}
use Rattle.naga_oil_link.specs.OwnPlaces.{OwnPlaces, is_own}
use Rattle.naga_oil_link.specs.Places.{places_of}
use Rattle.naga_oil_copy_laws.specs.InTurn.{CanCopyModule}
use Rattle.naga_oil_copy_laws.proofs.HeldLemmas.{later_again, later_same}
use Rattle.naga_oil_copy_laws.proofs.TurnLaws.{nowhere, none_kept}
use Rattle.naga_oil_link_laws.specs.HeldBuild.{HasDecoratedName, DecoratesTypes, Reaches, Itself, Named, IsReachedBefore}
use Rattle.naga_oil_link_laws.proofs.Decorates.{Renamed, first_source, stage_rename}
use Rattle.naga_oil_link_laws.proofs.Stages.{Setting, Stage, Stages, stage_item, stage_same, stage_then}

-- ---- which names types have

under_twice : (n : Option Text) (o : Option Row) → option_map (under_name n) (option_map (under_name n) o) ≡ option_map (under_name n) o
under_twice n None = refl
under_twice None (Some r) = refl
under_twice (Some t) (Some r) = refl

other_type : (w : World) (k j : ℕ) (n : Option Text) → (TypeItem j ≡ TypeItem k → ⊥) → renamed_at w k n (TypeItem j) ≡ w (TypeItem j)
unfolding renamed_at
other_type w k j n h = one (j == k) refl
  where
    one : (b : Bool) → (j == k) ≡ b → (if b then option_map (under_name n) (w (TypeItem j)) else w (TypeItem j)) ≡ w (TypeItem j)
    one true e = absurd (h (ap TypeItem (eqb_eq j k e)))
    one false e = refl

renamed_other : (w : World) (k : ℕ) (n : Option Text) (p : ItemPlace) → (p ≡ TypeItem k → ⊥) → renamed_at w k n p ≡ w p
unfolding renamed_at
renamed_other w k n (TypeItem j) h = other_type w k j n h
renamed_other w k n (ConstantItem j) h = refl
renamed_other w k n (OverrideItem j) h = refl
renamed_other w k n (GlobalItem j) h = refl
renamed_other w k n (ExpressionItem j) h = refl

renamed_here : (w : World) (k : ℕ) (n : Option Text) → renamed_at w k n (TypeItem k) ≡ option_map (under_name n) (w (TypeItem k))
unfolding renamed_at
renamed_here w k n = ap (λ b. if b then option_map (under_name n) (w (TypeItem k)) else w (TypeItem k)) (eq_eqb k k refl)

-- ---- what items reach

no_element : {X : Type 0} (x : X) → Contains [] x → ⊥
no_element x h = let l = h.1 in omega (arith, l)

one_element : {X : Type 0} (x y : X) → Contains (x ∷ []) y → y ≡ x
one_element x y h = ⊎_elim (λ c. absurd (no_element y c)) sym (Contains-push_cases [] x y h)

-- what the trail of some names has, the trail of one of them has
record IsNamed (f : ItemPlace → List ItemPlace) (ns : List (Option ItemPlace)) (x : ItemPlace) : Type 0 where
  place : ℕ
  named : ItemPlace
  at : slice_get ns place ≡ Some (Some named)
  within : Contains (f named) x

named_in : (f : ItemPlace → List ItemPlace) (ns : List (Option ItemPlace)) (x : ItemPlace) → Contains (names_trail f ns) x → IsNamed f ns x
named_in f [] x h = absurd (no_element x h)
named_in f (None ∷ ns) x h = let r = named_in f ns x h in record { place = suc r.place; named = r.named; at = r.at; within = r.within }
named_in f (Some q ∷ ns) x h =
    ⊎_elim
    (λ c. record { place = 0; named = q; at = refl; within = c })
    (λ c. let r = named_in f ns x c in record { place = suc r.place; named = r.named; at = r.at; within = r.within })
    (Contains-append_cases (f q) (names_trail f ns) x h)

-- what a trail has is reached
reached_so : (n : ℕ) (w : World) (m : Kept) (p x : ItemPlace) → Contains (reached n w m p) x → Reaches w p x
unfolding reached
reached_so zero w m p x h = absurd (no_element x h)
reached_so (suc n) w m p x h = by_kept (reached_so n w m) (m p) h
  where
    by_row : ((q y : ItemPlace) → Contains (reached n w m q) y → Reaches w q y) → (o : Option Row) → w p ≡ o → Contains (row_trail (reached n w m) o) x → Reaches w p x
    by_row f None e c = absurd (no_element x c)
    by_row f (Some r) e c = let i = named_in (reached n w m) r.names x c in Named r i.place e i.at (f i.named x i.within)

    by_kept : ((q y : ItemPlace) → Contains (reached n w m q) y → Reaches w q y) → (o : Option ItemPlace) → Contains (kept_trail o (row_trail (reached n w m) (w p) ++ p ∷ [])) x → Reaches w p x
    by_kept f (Some q) c = absurd (no_element x c)
    by_kept f None c =
        ⊎_elim (λ d. by_row f (w p) refl d) (λ d. subst (Reaches w p) (sym (one_element p x d)) Itself) (Contains-append_cases (row_trail (reached n w m) (w p)) (p ∷ []) x c)

-- a world in which each item names what it names in a module
abbrev NamesAs : ModuleValue → World → Type 0
NamesAs m w = (p : ItemPlace) (r : Row) → w p ≡ Some r → (s : Row) × (world m p ≡ Some s) × (r.names ≡ s.names)

reaches_as : (m : ModuleValue) (w : World) → NamesAs m w → (p x : ItemPlace) → Reaches w p x → Reaches (world m) p x
reaches_as m w a p x Itself = Itself
reaches_as m w a p x (Named {q = q} r i at named h) =
    let s = a p r at in
    Named s.0 i s.1 (ap (λ ns. slice_get ns i) (sym s.2) ∙ named) (reaches_as m w a q x h)

names_under : (n : Option Text) (r : Row) → (under_name n r).names ≡ r.names
names_under None r = refl
names_under (Some t) r = refl

under_some : (n : Option Text) (o : Option Row) (r : Row) → option_map (under_name n) o ≡ Some r → (s : Row) × (o ≡ Some s) × (r.names ≡ s.names)
under_some n None r e = absurd (none-some r e)
under_some n (Some s) r e = (s, refl, ap (λ (x : Row). x.names) (sym (same_Some (under_name n s) r e)) ∙ names_under n s)

module _ (m : ModuleValue) (own : OwnPlaces) (decoration : List ℕ) where
  abbrev name_for : ItemPlace → Option Text
  name_for p = option_map Some (decorated_type m decoration p)

  -- each item is as in the module, or has its decorated name
  abbrev Each : World → Type 0
  Each w = (p : ItemPlace) → (w p ≡ world m p) ⊎ HasDecoratedName m own decoration w p

  each_names : (w : World) → Each w → NamesAs m w
  each_names w a p r at =
      ⊎_elim
      (λ e. (r, sym e ∙ at, refl))
      (λ (e : HasDecoratedName m own decoration w p). under_some (name_for p) (world m p) r (sym e.row ∙ at))
      (a p)

  -- one more own type has its decorated name
  decorated_here : (w : World) (k : ℕ) → is_own own (TypeItem k) ≡ true → Each w → HasDecoratedName m own decoration (renamed_at w k (name_for (TypeItem k))) (TypeItem k)
  decorated_here w k h a =
      let n = name_for (TypeItem k) in
      record { own_item = h; ty = refl; row = renamed_here w k n ∙ ⊎_elim (λ e. ap (option_map (under_name n)) e) (λ (e : HasDecoratedName m own decoration w (TypeItem k)). ap (option_map (under_name n)) e.row ∙ under_twice n (world m (TypeItem k))) (a (TypeItem k)) }

  decorated_other : (w : World) (k : ℕ) (p : ItemPlace) → (p ≡ TypeItem k → ⊥) → HasDecoratedName m own decoration w p → HasDecoratedName m own decoration (renamed_at w k (name_for (TypeItem k))) p
  decorated_other w k p n e = record { own_item = e.own_item; ty = e.ty; row = renamed_other w k (name_for (TypeItem k)) p n ∙ e.row }

  each_more : (w : World) (k : ℕ) → is_own own (TypeItem k) ≡ true → Each w → Each (renamed_at w k (name_for (TypeItem k)))
  each_more w k h a p =
      ⊎_elim
      (λ (e : p ≡ TypeItem k). inr (subst (HasDecoratedName m own decoration (renamed_at w k (name_for (TypeItem k)))) (sym e) (decorated_here w k h a)))
      (λ n. ⊎_elim (λ e. inl (renamed_other w k (name_for (TypeItem k)) p n ∙ e)) (λ e. inr (decorated_other w k p n e)) (a p))
      (same_or_not p (TypeItem k))

  -- ---- the types, in order

  abbrev x : Setting
  x = first_source m

  before_more : (a k : ℕ) → IsReachedBefore m a k → IsReachedBefore m (a + 1) k
  before_more a k h = (h.0, ⊎_elim (λ l. inl (omega (arith, l))) inr h.1, h.2)

  -- the first types have their names, and only what they or special types reach is mapped
  record Typed (a : ℕ) (w : World) (d : Derived) (t : Stage x w d) : Type 0 where
    each : Each w
    all : (k : ℕ) → k < a → is_own own (TypeItem k) ≡ true → HasDecoratedName m own decoration w (TypeItem k) ⊎ IsReachedBefore m k k
    came : (k : ℕ) (q : ItemPlace) → goes t.source.places (TypeItem k) ≡ Some q → IsReachedBefore m a k

  -- what is mapped once a type was copied
  came_more : (a : ℕ) (w v u : World) (d e : Derived) (t : Stage x w d) (s : Stage x v e) → Typed a w d t → NamesAs m u → PlacesAmong (goes t.source.places) (goes s.source.places) (reached (depth t.source.value) u (kept t.source d.target) (TypeItem a)) → (k : ℕ) (q : ItemPlace) → goes s.source.places (TypeItem k) ≡ Some q → IsReachedBefore m (a + 1) k
  came_more a w v u d e t s h names among k q at =
      ⊎_elim
      (λ same. before_more a k (h.came k q (sym same ∙ at)))
      (λ (c : Contains (reached (depth t.source.value) u (kept t.source d.target) (TypeItem a)) (TypeItem k) × WentSomewhere (goes s.source.places) (Some (TypeItem k))). (a, inl (omega arith), reaches_as m u names (TypeItem a) (TypeItem k) (reached_so (depth t.source.value) u (kept t.source d.target) (TypeItem a) (TypeItem k) c.0)))
      (among (TypeItem k))

  type_of : (j k : ℕ) → TypeItem j ≡ TypeItem k → j ≡ k
  type_of j k e = cc

  same_or_less : (k a : ℕ) → k < a + 1 → (k < a) ⊎ (k ≡ a)
  same_or_less k a l = ⊎_elim (λ e. inr e) (λ n. ⊎_elim (λ i. inl i) (λ i. absurd (n (omega (arith, i, l)))) (cases_lt k a)) (same_number k a)

  record TypesHeld (a : ℕ) (d e : Derived) (s : Source) : Type 0 where
    reads : World
    stages : Stages x reads d e s
    typed : Typed a reads e stages.stage

  module _ (can : CanCopyModule m) where
    -- a type that isn't own isn't taken
    other_held : (a : ℕ) (w : World) (d : Derived) (t : Stage x w d) → is_own own (TypeItem a) ≡ false → Typed a w d t → TypesHeld (a + 1) d d t.source
    other_held a w d t o ty = record {
      reads = w;
      stages = record { stage = t; later = later_same t.source; stay = λ k y at. at };
      typed = record {
        each = ty.each;
        all = λ k l i. ⊎_elim (λ j. ty.all k j i) (λ j. absurd (false≢true (sym o ∙ ap (λ n. is_own own (TypeItem n)) (sym j) ∙ i))) (same_or_less k a l);
        came = λ k q at. before_more a k (ty.came k q at);
      };
    }

    own_held : (a : ℕ) (w : World) (d : Derived) (t : Stage x w d) → HasAt m (TypeItem a) → is_own own (TypeItem a) ≡ true → Typed a w d t → TypesHeld (a + 1) d (rename_type d a (name_for (TypeItem a))) t.source
    own_held a w d t h o ty = by r.which
      where
        e : Derived
        e = rename_type d a (name_for (TypeItem a))

        r : Renamed x can w d a (name_for (TypeItem a)) t
        r = stage_rename x can w d a (name_for (TypeItem a)) t h

        names : NamesAs m (renamed_at (as_read t.source d.target) a (name_for (TypeItem a)))
        names = subst (λ (y : World). NamesAs m (renamed_at y a (name_for (TypeItem a)))) (sym t.reads) (each_names (renamed_at w a (name_for (TypeItem a))) (each_more w a o ty.each))

        came : (k : ℕ) (q : ItemPlace) → goes r.stages.stage.source.places (TypeItem k) ≡ Some q → IsReachedBefore m (a + 1) k
        came = came_more a w r.reads (renamed_at (as_read t.source d.target) a (name_for (TypeItem a))) d e t r.stages.stage ty names r.places

        other : (k : ℕ) → k < a → (TypeItem k ≡ TypeItem a → ⊥)
        other k l s = let n = type_of k a s in omega (arith, n, l)

        by : ((r.reads ≡ w) × ((q : ItemPlace) × (goes t.source.places (TypeItem a) ≡ Some q))) ⊎ (r.reads ≡ renamed_at w a (name_for (TypeItem a))) → TypesHeld (a + 1) d e t.source
        by (inl y) = record {
          reads = r.reads;
          stages = r.stages;
          typed = record {
            each = subst Each (sym y.0) ty.each;
            all = λ k l i. ⊎_elim (λ j. subst (λ v. HasDecoratedName m own decoration v (TypeItem k) ⊎ IsReachedBefore m k k) (sym y.0) (ty.all k j i)) (λ j. inr (subst (λ n. IsReachedBefore m n n) (sym j) (ty.came a y.1.0 y.1.1))) (same_or_less k a l);
            came = came;
          };
        }
        by (inr y) = record {
          reads = r.reads;
          stages = r.stages;
          typed = record {
            each = subst Each (sym y) (each_more w a o ty.each);
            all = λ k l i. subst (λ v. HasDecoratedName m own decoration v (TypeItem k) ⊎ IsReachedBefore m k k) (sym y) (⊎_elim (λ j. ⊎_elim (λ g. inl (decorated_other w a (TypeItem k) (other k j) g)) inr (ty.all k j i)) (λ j. inl (subst (λ n. HasDecoratedName m own decoration (renamed_at w a (name_for (TypeItem a))) (TypeItem n)) (sym j) (decorated_here w a o ty.each))) (same_or_less k a l));
            came = came;
          };
        }

    type_held : (a : ℕ) (w : World) (c : OwnCopies) (t : Stage x w c.derived) → HasAt m (TypeItem a) → Typed a w c.derived t → (b : Bool) → is_own own (TypeItem a) ≡ b → TypesHeld (a + 1) c.derived (let n : OwnCopies = if b then copy_own m decoration c (TypeItem a) else copy_other false c (TypeItem a) in n.derived) t.source
    type_held a w c t h ty true o = own_held a w c.derived t h o ty
    type_held a w c t h ty false o = other_held a w c.derived t o ty

    types_held : (n a : ℕ) (w : World) (c : OwnCopies) (t : Stage x w c.derived) → ((k : ℕ) → k < a + n → HasAt m (TypeItem k)) → Typed a w c.derived t → TypesHeld (a + n) c.derived (fold (copy_at false m own decoration) c (map TypeItem (range_with_len a n))).derived t.source
    types_held zero a w c t h ty = subst (λ k. TypesHeld k c.derived c.derived t.source) (let e : a ≡ a + 0 = omega arith in e) (record { reads = w; stages = record { stage = t; later = later_same t.source; stay = λ k y at. at }; typed = ty })
    types_held (suc n) a w c t h ty =
        let e = copy_at false m own decoration c (TypeItem a) in
        let one = type_held a w c t (h a (omega arith)) ty (is_own own (TypeItem a)) refl in
        let rest = types_held n (a + 1) one.reads e one.stages.stage (λ k l. h k (omega (arith, l))) one.typed in
        let f = (fold (copy_at false m own decoration) e (map TypeItem (range_with_len (a + 1) n))).derived in
        let both : Stages x rest.reads c.derived f t.source = record {
          stage = rest.stages.stage;
          later = later_again t.source one.stages.stage.source rest.stages.stage.source one.stages.later rest.stages.later;
          stay = λ k y at. rest.stages.stay k y (one.stages.stay k y at);
        } in
        let all : TypesHeld (a + 1 + n) c.derived f t.source = record { reads = rest.reads; stages = both; typed = rest.typed } in
        subst (λ k. TypesHeld k c.derived f t.source) (let e : a + 1 + n ≡ a + suc n = omega arith in e) all

    -- ---- other items

    other_item : (w : World) (c : OwnCopies) (p : ItemPlace) (t : Stage x w c.derived) → HasAt m p → is_type p ≡ false → (b : Bool) → Stages x w c.derived (let n : OwnCopies = if b then copy_own m decoration c p else copy_other false c p in n.derived) t.source
    other_item w c (TypeItem k) t h o b = absurd (false≢true (sym o))
    other_item w c (ConstantItem k) t h o true = stage_item x can w c.derived (ConstantItem k) t h
    other_item w c (OverrideItem k) t h o true = stage_item x can w c.derived (OverrideItem k) t h
    other_item w c (GlobalItem k) t h o true = stage_item x can w c.derived (GlobalItem k) t h
    other_item w c (ExpressionItem k) t h o true = stage_item x can w c.derived (ExpressionItem k) t h
    other_item w c (ConstantItem k) t h o false = stage_same x can w c.derived t
    other_item w c (OverrideItem k) t h o false = stage_same x can w c.derived t
    other_item w c (GlobalItem k) t h o false = stage_same x can w c.derived t
    other_item w c (ExpressionItem k) t h o false = stage_same x can w c.derived t

    abbrev IsOther : ItemPlace → Type 0
    IsOther p = HasAt m p × (is_type p ≡ false)

    others_held : (ps : List ItemPlace) (w : World) (c : OwnCopies) (t : Stage x w c.derived) → All IsOther ps → Stages x w c.derived (fold (copy_at false m own decoration) c ps).derived t.source
    others_held [] w c t a = stage_same x can w c.derived t
    others_held (p ∷ ps) w c t a =
        let e = copy_at false m own decoration c p in
        let h = All-head IsOther p ps a in
        let one = other_item w c p t h.0 h.1 (is_own own p) in
        stage_then x can w w w c.derived e.derived (fold (copy_at false m own decoration) e ps).derived t one (others_held ps w e one.stage (All-tail IsOther p ps a))

    -- ---- special types come first

    special_has : (es : List (SpecialKey × ℕ)) (i : ℕ) (q : ItemPlace) → slice_get (map (λ (e : SpecialKey × ℕ). Some (TypeItem e.1)) es) i ≡ Some (Some q) → (k : ℕ) × (q ≡ TypeItem k) × (has (map (λ (e : SpecialKey × ℕ). e.1) es) k ≡ true)
    special_has [] i q e = absurd (none-some (Some q) e)
    special_has (y ∷ es) zero q e = let s : TypeItem y.1 ≡ q = cc in (y.1, sym s, or_left (y.1 == y.1) (has (map (λ (z : SpecialKey × ℕ). z.1) es) y.1) (eq_eqb y.1 y.1 refl))
    special_has (y ∷ es) (suc i) q e = let r = special_has es i q e in (r.0, r.1, or_right (y.1 == r.0) (has (map (λ (z : SpecialKey × ℕ). z.1) es) r.0) r.2)

    begins_typed : (t : Stage x (world m) (set_source nothing m 0)) → Typed 0 (world m) (set_source nothing m 0) t
    begins_typed t =
        let e = set_source nothing m 0 in
        let law = set_law nowhere nothing m 0 (nothing_derived nowhere) can.items can.special in
        let s : Source = record { value = m; offset = 0; places = (copy_special nothing m 0).places } in
        let same : s ≡ t.source = same_Some s t.source t.is in
        record {
          each = λ p. inl refl;
          all = λ k l i. absurd (omega (arith, l));
          came = λ k q at.
              let at_first : goes s.places (TypeItem k) ≡ Some q = ap (λ (y : Source). goes y.places (TypeItem k)) same ∙ at in
              ⊎_elim
              (λ none. absurd (none-some q (sym (none_kept m (TypeItem k)) ∙ sym none ∙ at_first)))
              (λ (c : Contains (names_trail (reached (depth m) (as_read s e.target) (kept s nothing.target)) (special_places m)) (TypeItem k) × WentSomewhere (goes s.places) (Some (TypeItem k))).
              let i = named_in (reached (depth m) (as_read s e.target) (kept s nothing.target)) (special_places m) (TypeItem k) c.0 in
              let r = special_has (special_entries m.special_types) i.place i.named i.at in
              let reads : as_read s e.target ≡ world m = ap (λ (y : Source). as_read y e.target) same ∙ t.reads in
              let h = reached_so (depth m) (as_read s e.target) (kept s nothing.target) i.named (TypeItem k) i.within in
              let there = subst (λ (v : World). Reaches v i.named (TypeItem k)) reads h in
              (r.0, inr r.2, subst (λ (p : ItemPlace). Reaches (world m) p (TypeItem k)) r.1 there))
              (law.places (TypeItem k));
        }

    -- ---- everything

    pub record HeaderHeld (d e : Derived) (s : Source) : Type 0 where
      pub reads : World
      pub stages : Stages x reads d e s
      pub decorated : DecoratesTypes m own decoration reads

    kind_others : (place : ℕ → ItemPlace) → ((k : ℕ) → is_type (place k) ≡ false) → (n a : ℕ) → ((k : ℕ) → k < a + n → HasAt m (place k)) → All IsOther (map place (range_with_len a n))
    kind_others place o zero a h = All-nil IsOther
    kind_others place o (suc n) a h = All-cons IsOther (place a) (map place (range_with_len (a + 1) n)) (h a (omega arith), o a) (kind_others place o n (a + 1) (λ k l. h k (omega (arith, l))))

    abbrev types_in : List ItemPlace
    types_in = map TypeItem (range_with_len 0 (length m.types))

    abbrev constants_in : List ItemPlace
    constants_in = map ConstantItem (range_with_len 0 (length m.constants))

    abbrev overrides_in : List ItemPlace
    overrides_in = map OverrideItem (range_with_len 0 (length m.overrides))

    abbrev globals_in : List ItemPlace
    globals_in = map GlobalItem (range_with_len 0 (length m.global_variables))

    abbrev others_in : List ItemPlace
    others_in = (constants_in ++ overrides_in) ++ globals_in

    types_first : places_of m ≡ types_in ++ others_in
    types_first = ap (λ ps. ps ++ globals_in) (append_assoc types_in constants_in overrides_in) ∙ append_assoc types_in (constants_in ++ overrides_in) globals_in

    all_others : All IsOther others_in
    all_others =
        All-append IsOther (constants_in ++ overrides_in) globals_in
        (All-append IsOther constants_in overrides_in (kind_others ConstantItem (λ k. refl) (length m.constants) 0 (λ k l. constant_there m k (omega (arith, l)))) (kind_others OverrideItem (λ k. refl) (length m.overrides) 0 (λ k l. override_there m k (omega (arith, l)))))
        (kind_others GlobalItem (λ k. refl) (length m.global_variables) 0 (λ k l. global_there m k (omega (arith, l))))

    pub header_held : (t : Stage x (world m) (nothing_copied m).derived) → HeaderHeld (nothing_copied m).derived (copy_places false m own decoration).derived t.source
    unfolding copy_places
    header_held t =
        let c = nothing_copied m in
        let f = copy_at false m own decoration in
        let n = length m.types in
        let first = types_held n 0 (world m) c t (λ k l. type_there m k (omega (arith, l))) (begins_typed t) in
        let e = fold f c types_in in
        let rest = others_held others_in first.reads e first.stages.stage all_others in
        let all : HeaderHeld c.derived (fold f e others_in).derived t.source = record {
          reads = first.reads;
          stages = stage_then x can (world m) first.reads first.reads c.derived e.derived (fold f e others_in).derived t first.stages rest;
          decorated = record { each = first.typed.each; all = λ k l i. first.typed.all k (omega (arith, l)) i };
        } in
        subst (λ (y : OwnCopies). HeaderHeld c.derived y.derived t.source) (sym (ap (fold f c) types_first ∙ fold-append f c types_in others_in)) all
