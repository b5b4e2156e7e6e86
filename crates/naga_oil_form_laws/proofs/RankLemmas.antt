-- Items that are formed can be copied: a number falls along what each names.
use Rattle.std.proofs.Common.{◌≡◌, ⊎_elim, ℕ, zero, suc, ◌+◌, ◌*◌, ◌<◌, ◌≤◌, max, Bool, true, false, ◌||◌, ◌==◌, if◌then◌else◌, List, [], ◌∷◌, length, map, Option, Some, None, option_map, slice_get, unwrap_or, refl, ap, sym, ◌∙◌, subst, arith, All, IfSome}
use Rattle.std.specs.List.{filter_map, flat_map, list_any}
use Rattle.std.proofs.lemmas.Bool.{or_cases, false≢true, cases_Bool}
use Rattle.std.proofs.lemmas.List.Elements.{All-nil, All-cons, All-head, All-tail, All-weaker}
use Rattle.std.proofs.lemmas.List.Folds.{list_any-append}
use Rattle.std.proofs.lemmas.Option.{slice_get-map}
use Rattle.naga_oil_form.specs.ItemForm.{type_at, types_named, is_override}
use Rattle.naga_oil_form.specs.Links.{Links, AreEarlier, linked, reach, trail, has, is_marked, reaches}
use Rattle.naga_oil_ir.specs.Rows.{Row}
use Rattle.naga_oil_ir.specs.ModuleValue.{ModuleValue}
use Rattle.naga_oil_ir.specs.declared.names.ItemPlace.{ItemPlace}
use Rattle.naga_oil_ir.specs.declared.names.ItemPlace.TheVariants.{TypeItem, ConstantItem, OverrideItem, GlobalItem, ExpressionItem}
use Rattle.naga_oil_ir.specs.declared.span.Span.{Span}
use Rattle.naga_oil_form.proofs.LinkLemmas.{eqb_eq, eq_eqb, or_left, or_right, or_false, trail-step, linked-map, marked-map}
use Rattle.naga_oil_derive.specs.World.{world, special_entries}
use Rattle.naga_oil_derive.specs.Collected.{depth}
use Rattle.naga_oil_derive.specs.CopiedLaw.{HasAt, IsBelowIn, IsRankedBy, IsCopyable, AreSpecial}
use Rattle.naga_oil_derive.proofs.SpecialLemmas.{Entry, entries_distinct}
use Rattle.naga_oil_form_laws.specs.ItemsStand.{OfType, ReachesOnly, IsFixed, IsUnsized, IsBefore, NamesBefore, IsIn, MayName, ItemsStand, MayBeSpecial, AreFormed}
use Rattle.naga_oil_form_laws.proofs.RequestLemmas.{type_within, expression_within, all_at, from_at}

-- ---- types that aren't sized

-- of each type the types that it names, and whether its size is an override's
abbrev pub links_of : ModuleValue → Links
links_of m = map (λ e. types_named e.0) m.types

abbrev pub pending_of : ModuleValue → List Bool
pending_of m = map (λ e. list_any is_override e.0.names) m.types

abbrev pub is_size_pending : ModuleValue → ℕ → Bool
is_size_pending m k = reaches (links_of m) (pending_of m) k

pub types_all : (P : ℕ → Type 0) (ns : List (Option ItemPlace)) → All (λ o. IfSome o (OfType P)) ns → All P (filter_map type_at ns)
types_all P [] a = All-nil P
types_all P (None ∷ ns) a = types_all P ns (All-tail (λ o. IfSome o (OfType P)) None ns a)
types_all P (Some (TypeItem k) ∷ ns) a = All-cons P k (filter_map type_at ns) (All-head (λ o. IfSome o (OfType P)) (Some (TypeItem k)) ns a) (types_all P ns (All-tail (λ o. IfSome o (OfType P)) (Some (TypeItem k)) ns a))
types_all P (Some (ConstantItem k) ∷ ns) a = types_all P ns (All-tail (λ o. IfSome o (OfType P)) (Some (ConstantItem k)) ns a)
types_all P (Some (OverrideItem k) ∷ ns) a = types_all P ns (All-tail (λ o. IfSome o (OfType P)) (Some (OverrideItem k)) ns a)
types_all P (Some (GlobalItem k) ∷ ns) a = types_all P ns (All-tail (λ o. IfSome o (OfType P)) (Some (GlobalItem k)) ns a)
types_all P (Some (ExpressionItem k) ∷ ns) a = types_all P ns (All-tail (λ o. IfSome o (OfType P)) (Some (ExpressionItem k)) ns a)

flat_none : (p : ℕ → Bool) (f : ℕ → List ℕ) (xs : List ℕ) → All (λ x. list_any p (f x) ≡ false) xs → list_any p (flat_map f xs) ≡ false
flat_none p f [] a = refl
flat_none p f (x ∷ xs) a =
    list_any-append p (f x) (flat_map f xs) ∙ ap (λ b. b || list_any p (flat_map f xs)) (All-head (λ y. list_any p (f y) ≡ false) x xs a) ∙ flat_none p f xs (All-tail (λ y. list_any p (f y) ≡ false) x xs a)

pub type_row_at : (m : ModuleValue) (k : ℕ) (e : Row × Span) → slice_get m.types k ≡ Some e → world m (TypeItem k) ≡ Some e.0
unfolding world
type_row_at m k e at = ap (option_map (λ x. x.0)) at

nothing_linked : (m : ModuleValue) (k : ℕ) → slice_get m.types k ≡ None → linked (links_of m) k ≡ []
nothing_linked m k e = ap (λ o. unwrap_or o []) (slice_get-map (λ (x : Row × Span). types_named x.0) m.types k ∙ ap (option_map (λ (x : Row × Span). types_named x.0)) e)

nothing_marked : (m : ModuleValue) (k : ℕ) → slice_get m.types k ≡ None → is_marked (pending_of m) k ≡ false
nothing_marked m k e = ap (λ o. unwrap_or o false) (slice_get-map (λ (x : Row × Span). list_any is_override x.0.names) m.types k ∙ ap (option_map (λ (x : Row × Span). list_any is_override x.0.names)) e)

abbrev Quiet : ModuleValue → ℕ → ℕ → Type 0
Quiet m n k = list_any (is_marked (pending_of m)) (reach n (links_of m) k) ≡ false

quiet_by : (m : ModuleValue) (n k : ℕ) → ((j : ℕ) → ReachesOnly n (world m) IsFixed j → Quiet m n j) → ReachesOnly (suc n) (world m) IsFixed k → (o : Option (Row × Span)) → slice_get m.types k ≡ o → Quiet m (suc n) k
unfolding ReachesOnly
quiet_by m n k ih h None e =
    let p = is_marked (pending_of m) in
    let front : list_any p (flat_map (reach n (links_of m)) (linked (links_of m) k)) ≡ false = ap (λ xs. list_any p (flat_map (reach n (links_of m)) xs)) (nothing_linked m k e) in
    list_any-append p (flat_map (reach n (links_of m)) (linked (links_of m) k)) (k ∷ []) ∙ ap (λ b. b || list_any p (k ∷ [])) front ∙ or_false (p k) ∙ nothing_marked m k e
quiet_by m n k ih h (Some x) e =
    let p = is_marked (pending_of m) in
    let g = h x.0 (type_row_at m k x e) in
    let links : linked (links_of m) k ≡ types_named x.0 = linked-map (λ (y : Row × Span). types_named y.0) m.types k x e in
    let each : All (λ j. list_any p (reach n (links_of m) j) ≡ false) (types_named x.0) = All-weaker (ReachesOnly n (world m) IsFixed) (Quiet m n) ih (types_named x.0) (types_all (ReachesOnly n (world m) IsFixed) x.0.names g.1) in
    let front : list_any p (flat_map (reach n (links_of m)) (linked (links_of m) k)) ≡ false = ap (λ xs. list_any p (flat_map (reach n (links_of m)) xs)) links ∙ flat_none p (reach n (links_of m)) (types_named x.0) each in
    let mark : p k ≡ false = marked-map (λ (y : Row × Span). list_any is_override y.0.names) m.types k x e ∙ g.0 in
    list_any-append p (flat_map (reach n (links_of m)) (linked (links_of m) k)) (k ∷ []) ∙ ap (λ b. b || list_any p (k ∷ [])) front ∙ or_false (p k) ∙ mark

quiet : (m : ModuleValue) (n k : ℕ) → ReachesOnly n (world m) IsFixed k → Quiet m n k
quiet m zero k h = refl
quiet m (suc n) k h = quiet_by m n k (quiet m n) h (slice_get m.types k) refl

pub unsized_pending : (m : ModuleValue) (k : ℕ) → IsUnsized (world m) k → is_size_pending m k ≡ false
unfolding trail
unsized_pending m k h = quiet m (suc k) k (h (suc k))

-- ---- earlier types

earlier_by : (m : ModuleValue) → ItemsStand (world m) → (k : ℕ) (o : Option (Row × Span)) → slice_get m.types k ≡ o → All (λ x. x < k) (linked (links_of m) k)
earlier_by m i k None e = subst (All (λ x. x < k)) (sym (nothing_linked m k e)) (All-nil (λ x. x < k))
earlier_by m i k (Some x) e =
    let own = i.names (TypeItem k) x.0 (type_row_at m k x e) in
    let types = types_all (λ j. j < k) x.0.names (All-weaker (λ o. IfSome o (MayName (world m) (TypeItem k))) (λ o. IfSome o (OfType (λ j. j < k))) (type_of m k) x.0.names own) in
    subst (All (λ y. y < k)) (sym (linked-map (λ (y : Row × Span). types_named y.0) m.types k x e)) types
  where
    type_of : (m : ModuleValue) (k : ℕ) (o : Option ItemPlace) → IfSome o (MayName (world m) (TypeItem k)) → IfSome o (OfType (λ j. j < k))
    type_of m k None h = tt
    type_of m k (Some q) h = h.of_type

pub types_earlier : (m : ModuleValue) → ItemsStand (world m) → AreEarlier (links_of m)
types_earlier m i k = earlier_by m i k (slice_get m.types k) refl

-- ---- a type that names a sized one is sized

up_flat : (p : ℕ → Bool) (f : ℕ → List ℕ) (xs : List ℕ) (j : ℕ) → has xs j ≡ true → list_any p (f j) ≡ true → list_any p (flat_map f xs) ≡ true
up_flat p f [] j h i = absurd (false≢true h)
up_flat p f (x ∷ xs) j h i =
    list_any-append p (f x) (flat_map f xs) ∙ ⊎_elim (λ e. or_left (list_any p (f x)) (list_any p (flat_map f xs)) (ap (λ y. list_any p (f y)) (eqb_eq x j e) ∙ i)) (λ e. or_right (list_any p (f x)) (list_any p (flat_map f xs)) (up_flat p f xs j e i)) (or_cases (x == j) (has xs j) h)

pub pending_up : (m : ModuleValue) → AreEarlier (links_of m) → (k j : ℕ) → has (linked (links_of m) k) j ≡ true → is_size_pending m j ≡ true → is_size_pending m k ≡ true
pending_up m a k j h i =
    let ls = links_of m in
    let p = is_marked (pending_of m) in
    ap (list_any p) (trail-step ls a k) ∙ list_any-append p (flat_map (trail ls) (linked ls k)) (k ∷ []) ∙ or_left (list_any p (flat_map (trail ls) (linked ls k))) (list_any p (k ∷ [])) (up_flat p (trail ls) (linked ls k) j h i)

pub pending_itself : (m : ModuleValue) → AreEarlier (links_of m) → (k : ℕ) → is_marked (pending_of m) k ≡ true → is_size_pending m k ≡ true
pending_itself m a k h =
    let ls = links_of m in
    let p = is_marked (pending_of m) in
    ap (list_any p) (trail-step ls a k) ∙ list_any-append p (flat_map (trail ls) (linked ls k)) (k ∷ []) ∙ or_right (list_any p (flat_map (trail ls) (linked ls k))) (list_any p (k ∷ [])) (or_left (p k) false h)

row_by : (o : Option (Row × Span)) (r : Row) → option_map (λ (e : Row × Span). e.0) o ≡ Some r → (e : Row × Span) × (o ≡ Some e) × (e.0 ≡ r)
row_by None r h = cc
row_by (Some x) r h = (x, refl, (let q : x.0 ≡ r = cc in q))

-- ---- ranks

-- one more than the last expression that is named
abbrev expression_top : Option ItemPlace → ℕ
expression_top None = 0
expression_top (Some (TypeItem k)) = 0
expression_top (Some (ConstantItem k)) = 0
expression_top (Some (OverrideItem k)) = 0
expression_top (Some (GlobalItem k)) = 0
expression_top (Some (ExpressionItem k)) = suc k

abbrev top : List (Option ItemPlace) → ℕ
top [] = 0
top (o ∷ ns) = max (expression_top o) (top ns)

abbrev row_top : Option Row → ℕ
row_top None = 0
row_top (Some r) = top r.names

-- types without sizes, then constants, overrides and expressions, then the types with sizes, then globals
unfoldable rank : ModuleValue → ItemPlace → ℕ
rank m (TypeItem k) = if is_size_pending m k then length m.types + 2 * length m.global_expressions + 1 + k else k
rank m (ConstantItem k) = length m.types + 2 * row_top (world m (ConstantItem k))
rank m (OverrideItem k) = length m.types + 2 * row_top (world m (OverrideItem k))
rank m (GlobalItem k) = 2 * length m.types + 2 * length m.global_expressions + 1
rank m (ExpressionItem k) = length m.types + 2 * k + 1

rank_type : (m : ModuleValue) (k : ℕ) (b : Bool) → is_size_pending m k ≡ b → rank m (TypeItem k) ≡ (if b then length m.types + 2 * length m.global_expressions + 1 + k else k)
unfolding rank
rank_type m k b e = ap (λ c. if c then length m.types + 2 * length m.global_expressions + 1 + k else k) e

rank_constant : (m : ModuleValue) (k : ℕ) (r : Row) → world m (ConstantItem k) ≡ Some r → rank m (ConstantItem k) ≡ length m.types + 2 * top r.names
unfolding rank
rank_constant m k r e = ap (λ o. length m.types + 2 * row_top o) e

rank_override : (m : ModuleValue) (k : ℕ) (r : Row) → world m (OverrideItem k) ≡ Some r → rank m (OverrideItem k) ≡ length m.types + 2 * top r.names
unfolding rank
rank_override m k r e = ap (λ o. length m.types + 2 * row_top o) e

rank_global : (m : ModuleValue) (k : ℕ) → rank m (GlobalItem k) ≡ 2 * length m.types + 2 * length m.global_expressions + 1
unfolding rank
rank_global m k = refl

rank_expression : (m : ModuleValue) (k : ℕ) → rank m (ExpressionItem k) ≡ length m.types + 2 * k + 1
unfolding rank
rank_expression m k = refl

top_bound : (b : ℕ) (ns : List (Option ItemPlace)) → All (λ o. IfSome o (IsBefore b)) ns → top ns ≤ b
top_bound b [] a = omega arith
top_bound b (o ∷ ns) a =
    let h = one o (All-head (λ o. IfSome o (IsBefore b)) o ns a) in
    let t = top_bound b ns (All-tail (λ o. IfSome o (IsBefore b)) o ns a) in
    omega (arith, h, t)
  where
    one : (o : Option ItemPlace) → IfSome o (IsBefore b) → expression_top o ≤ b
    one None h = omega arith
    one (Some (TypeItem k)) h = omega arith
    one (Some (ConstantItem k)) h = omega arith
    one (Some (OverrideItem k)) h = omega arith
    one (Some (GlobalItem k)) h = omega arith
    one (Some (ExpressionItem k)) h = omega (arith, h)

top_above : (ns : List (Option ItemPlace)) (i k : ℕ) → slice_get ns i ≡ Some (Some (ExpressionItem k)) → k < top ns
top_above [] i k e = cc
top_above (o ∷ ns) zero k e = let g : o ≡ Some (ExpressionItem k) = cc in let t : expression_top o ≡ suc k = ap expression_top g in omega (arith, t)
top_above (o ∷ ns) (suc i) k e = let h = top_above ns i k e in omega (arith, h)

top_within : (b : ℕ) (ns : List (Option ItemPlace)) → ((i k : ℕ) → slice_get ns i ≡ Some (Some (ExpressionItem k)) → k < b) → top ns ≤ b
top_within b [] f = omega arith
top_within b (None ∷ ns) f = let t = top_within b ns (λ i k e. f (suc i) k e) in omega (arith, t)
top_within b (Some (TypeItem j) ∷ ns) f = let t = top_within b ns (λ i k e. f (suc i) k e) in omega (arith, t)
top_within b (Some (ConstantItem j) ∷ ns) f = let t = top_within b ns (λ i k e. f (suc i) k e) in omega (arith, t)
top_within b (Some (OverrideItem j) ∷ ns) f = let t = top_within b ns (λ i k e. f (suc i) k e) in omega (arith, t)
top_within b (Some (GlobalItem j) ∷ ns) f = let t = top_within b ns (λ i k e. f (suc i) k e) in omega (arith, t)
top_within b (Some (ExpressionItem j) ∷ ns) f = let t = top_within b ns (λ i k e. f (suc i) k e) in let h = f 0 j refl in omega (arith, t, h)

pub row_of : (m : ModuleValue) (k : ℕ) (r : Row) → world m (TypeItem k) ≡ Some r → (e : Row × Span) × (slice_get m.types k ≡ Some e) × (e.0 ≡ r)
unfolding world
row_of m k r e = row_by (slice_get m.types k) r e

pub in_types : (ns : List (Option ItemPlace)) (i j : ℕ) → slice_get ns i ≡ Some (Some (TypeItem j)) → has (filter_map type_at ns) j ≡ true
in_types [] i j e = cc
in_types (o ∷ ns) zero j e = let g : o ≡ Some (TypeItem j) = cc in subst (λ x. has (filter_map type_at (x ∷ ns)) j ≡ true) (sym g) (or_left (j == j) (has (filter_map type_at ns) j) (eq_eqb j j refl))
in_types (None ∷ ns) (suc i) j e = in_types ns i j e
in_types (Some (TypeItem k) ∷ ns) (suc i) j e = or_right (k == j) (has (filter_map type_at ns) j) (in_types ns i j e)
in_types (Some (ConstantItem k) ∷ ns) (suc i) j e = in_types ns i j e
in_types (Some (OverrideItem k) ∷ ns) (suc i) j e = in_types ns i j e
in_types (Some (GlobalItem k) ∷ ns) (suc i) j e = in_types ns i j e
in_types (Some (ExpressionItem k) ∷ ns) (suc i) j e = in_types ns i j e

pub override_in : (ns : List (Option ItemPlace)) (i j : ℕ) → slice_get ns i ≡ Some (Some (OverrideItem j)) → list_any is_override ns ≡ true
override_in [] i j e = cc
override_in (o ∷ ns) zero j e = let g : o ≡ Some (OverrideItem j) = cc in subst (λ x. list_any is_override (x ∷ ns) ≡ true) (sym g) refl
override_in (o ∷ ns) (suc i) j e = or_right (is_override o) (list_any is_override ns) (override_in ns i j e)

module _ (m : ModuleValue) (s : ItemsStand (world m)) where
  abbrev T : ℕ
  T = length m.types

  abbrev E : ℕ
  E = length m.global_expressions

  name_at : (p : ItemPlace) (r : Row) (i : ℕ) (q : ItemPlace) → world m p ≡ Some r → slice_get r.names i ≡ Some (Some q) → MayName (world m) p q
  name_at p r i q at e = all_at (λ o. IfSome o (MayName (world m) p)) r.names i (Some q) (s.names p r at) e

  -- what an item names stands within
  top_all : (p : ItemPlace) (r : Row) → world m p ≡ Some r → top r.names ≤ E
  top_all p r at = top_within E r.names (λ i k e. expression_within m k (name_at p r i (ExpressionItem k) at e).there)

  unsized_rank : (j : ℕ) → IsUnsized (world m) j → IsIn (world m) (TypeItem j) → rank m (TypeItem j) < T
  unsized_rank j h at = let l = type_within m j at in let r = rank_type m j false (unsized_pending m j h) in omega (arith, l, r)

  type_rank : (j : ℕ) → IsIn (world m) (TypeItem j) → rank m (TypeItem j) < 2 * T + 2 * E + 1
  type_rank j at = ⊎_elim (λ e. let l = type_within m j at in let r = rank_type m j true e in omega (arith, l, r)) (λ e. let l = type_within m j at in let r = rank_type m j false e in omega (arith, l, r)) (cases_Bool (is_size_pending m j))

  type_names_type : (k : ℕ) (r : Row) (i j : ℕ) → world m (TypeItem k) ≡ Some r → slice_get r.names i ≡ Some (Some (TypeItem j)) → rank m (TypeItem j) < rank m (TypeItem k)
  type_names_type k r i j at e =
      let n = name_at (TypeItem k) r i (TypeItem j) at e in
      let less : j < k = n.of_type in
      let jt = type_within m j n.there in
      let x = row_of m k r at in
      let linked_j : has (linked (links_of m) k) j ≡ true = ap (λ xs. has xs j) (linked-map (λ (y : Row × Span). types_named y.0) m.types k x.0 x.1 ∙ ap types_named x.2) ∙ in_types r.names i j e in
      ⊎_elim (λ a. let ra = rank_type m k true a in ⊎_elim (λ b. let rb = rank_type m j true b in omega (arith, less, ra, rb)) (λ b. let rb = rank_type m j false b in omega (arith, jt, ra, rb)) (cases_Bool (is_size_pending m j))) (λ a. let ra = rank_type m k false a in ⊎_elim (λ b. absurd (false≢true (sym a ∙ pending_up m (types_earlier m s) k j linked_j b))) (λ b. let rb = rank_type m j false b in omega (arith, less, ra, rb)) (cases_Bool (is_size_pending m j))) (cases_Bool (is_size_pending m k))

  type_names_override : (k : ℕ) (r : Row) (i j : ℕ) → world m (TypeItem k) ≡ Some r → slice_get r.names i ≡ Some (Some (OverrideItem j)) → rank m (OverrideItem j) < rank m (TypeItem k)
  type_names_override k r i j at e =
      let n = name_at (TypeItem k) r i (OverrideItem j) at e in
      let x = row_of m k r at in
      let mark : is_marked (pending_of m) k ≡ true = marked-map (λ (y : Row × Span). list_any is_override y.0.names) m.types k x.0 x.1 ∙ ap (λ (y : Row). list_any is_override y.names) x.2 ∙ override_in r.names i j e in
      let ra = rank_type m k true (pending_itself m (types_earlier m s) k mark) in
      let rb = rank_override m j n.there.0 n.there.1 in
      let t = top_all (OverrideItem j) n.there.0 n.there.1 in
      omega (arith, ra, rb, t)

  top_before : (k : ℕ) (q : ItemPlace) (r : Row) → world m q ≡ Some r → NamesBefore (world m) k q → top r.names ≤ k
  top_before k q r at h = top_bound k r.names (h r at)

  below : (p : ItemPlace) (r : Row) (i : ℕ) (q : ItemPlace) → world m p ≡ Some r → slice_get r.names i ≡ Some (Some q) → rank m q < rank m p
  below (TypeItem k) r i (TypeItem j) at e = type_names_type k r i j at e
  below (TypeItem k) r i (OverrideItem j) at e = type_names_override k r i j at e
  below (TypeItem k) r i (ConstantItem j) at e = absurd (false≢true (name_at (TypeItem k) r i (ConstantItem j) at e).kind)
  below (TypeItem k) r i (GlobalItem j) at e = absurd (false≢true (name_at (TypeItem k) r i (GlobalItem j) at e).kind)
  below (TypeItem k) r i (ExpressionItem j) at e = absurd (false≢true (name_at (TypeItem k) r i (ExpressionItem j) at e).kind)
  below (ConstantItem k) r i (TypeItem j) at e = let n = name_at (ConstantItem k) r i (TypeItem j) at e in let u = unsized_rank j n.of_type n.there in let c = rank_constant m k r at in omega (arith, u, c)
  below (ConstantItem k) r i (ExpressionItem j) at e = let c = rank_constant m k r at in let x = rank_expression m j in let t = top_above r.names i j e in omega (arith, c, x, t)
  below (ConstantItem k) r i (ConstantItem j) at e = absurd (false≢true (name_at (ConstantItem k) r i (ConstantItem j) at e).kind)
  below (ConstantItem k) r i (OverrideItem j) at e = absurd (false≢true (name_at (ConstantItem k) r i (OverrideItem j) at e).kind)
  below (ConstantItem k) r i (GlobalItem j) at e = absurd (false≢true (name_at (ConstantItem k) r i (GlobalItem j) at e).kind)
  below (OverrideItem k) r i (TypeItem j) at e = let n = name_at (OverrideItem k) r i (TypeItem j) at e in let u = unsized_rank j n.of_type n.there in let c = rank_override m k r at in omega (arith, u, c)
  below (OverrideItem k) r i (ExpressionItem j) at e = let c = rank_override m k r at in let x = rank_expression m j in let t = top_above r.names i j e in omega (arith, c, x, t)
  below (OverrideItem k) r i (ConstantItem j) at e = absurd (false≢true (name_at (OverrideItem k) r i (ConstantItem j) at e).kind)
  below (OverrideItem k) r i (OverrideItem j) at e = absurd (false≢true (name_at (OverrideItem k) r i (OverrideItem j) at e).kind)
  below (OverrideItem k) r i (GlobalItem j) at e = absurd (false≢true (name_at (OverrideItem k) r i (GlobalItem j) at e).kind)
  below (GlobalItem k) r i (TypeItem j) at e = let n = name_at (GlobalItem k) r i (TypeItem j) at e in let u = type_rank j n.there in let c = rank_global m k in omega (arith, u, c)
  below (GlobalItem k) r i (ExpressionItem j) at e = let n = name_at (GlobalItem k) r i (ExpressionItem j) at e in let l = expression_within m j n.there in let c = rank_global m k in let x = rank_expression m j in omega (arith, c, x, l)
  below (GlobalItem k) r i (ConstantItem j) at e = absurd (false≢true (name_at (GlobalItem k) r i (ConstantItem j) at e).kind)
  below (GlobalItem k) r i (OverrideItem j) at e = absurd (false≢true (name_at (GlobalItem k) r i (OverrideItem j) at e).kind)
  below (GlobalItem k) r i (GlobalItem j) at e = absurd (false≢true (name_at (GlobalItem k) r i (GlobalItem j) at e).kind)
  below (ExpressionItem k) r i (TypeItem j) at e = let n = name_at (ExpressionItem k) r i (TypeItem j) at e in let u = unsized_rank j n.of_type n.there in let c = rank_expression m k in omega (arith, u, c)
  below (ExpressionItem k) r i (ConstantItem j) at e =
      let n = name_at (ExpressionItem k) r i (ConstantItem j) at e in
      let t = top_before k (ConstantItem j) n.there.0 n.there.1 n.following in
      let c = rank_constant m j n.there.0 n.there.1 in
      let x = rank_expression m k in
      omega (arith, t, c, x)
  below (ExpressionItem k) r i (OverrideItem j) at e =
      let n = name_at (ExpressionItem k) r i (OverrideItem j) at e in
      let t = top_before k (OverrideItem j) n.there.0 n.there.1 n.following in
      let c = rank_override m j n.there.0 n.there.1 in
      let x = rank_expression m k in
      omega (arith, t, c, x)
  below (ExpressionItem k) r i (GlobalItem j) at e = absurd (false≢true (name_at (ExpressionItem k) r i (GlobalItem j) at e).kind)
  below (ExpressionItem k) r i (ExpressionItem j) at e =
      let n = name_at (ExpressionItem k) r i (ExpressionItem j) at e in
      let l : j < k = n.following in
      let x = rank_expression m j in
      let y = rank_expression m k in
      omega (arith, l, x, y)

  within_depth : (p : ItemPlace) (r : Row) → world m p ≡ Some r → rank m p < depth m
  within_depth (TypeItem k) r at = let t = type_rank k (r, at) in omega (arith, t)
  within_depth (ConstantItem k) r at = let c = rank_constant m k r at in let t = top_all (ConstantItem k) r at in omega (arith, c, t)
  within_depth (OverrideItem k) r at = let c = rank_override m k r at in let t = top_all (OverrideItem k) r at in omega (arith, c, t)
  within_depth (GlobalItem k) r at = let c = rank_global m k in omega (arith, c)
  within_depth (ExpressionItem k) r at = let c = rank_expression m k in let l = expression_within m k (r, at) in omega (arith, c, l)

  below_name : (p : ItemPlace) (r : Row) (i : ℕ) (o : Option ItemPlace) → world m p ≡ Some r → slice_get r.names i ≡ Some o → IsBelowIn m (rank m) p o
  below_name p r i None at e = tt
  below_name p r i (Some q) at e = ((name_at p r i q at e).there, below p r i q at e)

  ranked : IsRankedBy m (rank m)
  ranked = record { names = λ p r at. from_at (IsBelowIn m (rank m) p) r.names (λ i o e. below_name p r i o at e); within = within_depth }

pub formed_copyable : (m : ModuleValue) → AreFormed m → IsCopyable m × AreSpecial m
formed_copyable m f =
    (record { kinds = f.kinds; rank = rank m; ranked = ranked m f.items }, record { there = All-weaker (λ (e : Entry). MayBeSpecial m e.1) (λ (e : Entry). HasAt m (TypeItem e.1)) (λ e h. h.there) (special_entries m.special_types) f.special; distinct = entries_distinct m.special_types f.keys })
