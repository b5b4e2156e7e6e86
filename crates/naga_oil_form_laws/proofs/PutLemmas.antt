-- An item that is copied may stand, if its source may.
use Rattle.std.proofs.Common.{◌≡◌, ⊎_elim, ℕ, zero, suc, ◌<◌, true, ◌||◌, List, [], ◌∷◌, Option, Some, None, option_map, slice_get, refl, ap, sym, ◌∙◌, subst, arith, All, IfSome}
use Rattle.std.specs.List.{AllZip, list_any}
use Rattle.std.proofs.lemmas.List.Elements.{All-nil, All-cons, All-head, All-tail}
use Rattle.naga_oil_form.specs.ItemForm.{is_override}
use Rattle.naga_oil_ir.specs.Rows.{Row, parts_row}
use Rattle.naga_oil_ir.specs.ModuleValue.{ModuleValue}
use Rattle.naga_oil_ir.specs.declared.names.ItemPlace.{ItemPlace}
use Rattle.naga_oil_ir.specs.declared.names.ItemPlace.TheVariants.{TypeItem, ConstantItem, OverrideItem, GlobalItem, ExpressionItem}
use Rattle.naga_oil_ir.specs.declared.span.Span.{Span}
use Rattle.naga_oil_derive.specs.Tree.{World, Kept}
use Rattle.naga_oil_derive.specs.World.{ItemMap, goes, world}
use Rattle.naga_oil_derive.specs.Copying.{Goes, NameGoesTo, IsCopyOf, AreCopied, Fetches}
use Rattle.naga_oil_derive.specs.Copied.{CopyState}
use Rattle.naga_oil_derive.specs.CopiedLaw.{place_number, reads_now, IsMidway, PutsOne}
use Rattle.naga_oil_derive.proofs.CopyLemmas.{same_rows}
use Rattle.naga_oil_derive.proofs.WorldLemmas.{named_names}
use Rattle.naga_oil_form_laws.specs.ItemsStand.{OfType, ReachesOnly, AllReached, IsFixed, IsUnsized, MayNameType, IsBefore, NamesBefore, StandsAfter, MayStandAfter, IsIn, may_name_kind, MayName, MayBeGlobal, ItemsStand}
use Rattle.naga_oil_form_laws.proofs.ItemLemmas.{names_later}

-- ---- places map to places of their kind

-- a place maps to a place of its kind
pub record KeepsKinds (m : Goes) : Type 0 where
  pub kind : (p q : ItemPlace) → m p ≡ Some q → place_number q ≡ place_number p

mapped : (C : ℕ → ItemPlace) (o : Option ℕ) (q : ItemPlace) → option_map C o ≡ Some q → (k : ℕ) × (q ≡ C k)
mapped C None q e = cc
mapped C (Some k) q e = (k, (let g : C k ≡ q = cc in sym g))

kind_kept : (m : ItemMap) (p q : ItemPlace) → goes m p ≡ Some q → place_number q ≡ place_number p
unfolding goes
kind_kept m (TypeItem k) q e = ap place_number (mapped TypeItem _ q e).1
kind_kept m (ConstantItem k) q e = ap place_number (mapped ConstantItem _ q e).1
kind_kept m (OverrideItem k) q e = ap place_number (mapped OverrideItem _ q e).1
kind_kept m (GlobalItem k) q e = ap place_number (mapped GlobalItem _ q e).1
kind_kept m (ExpressionItem k) q e = ap place_number (mapped ExpressionItem _ q e).1

pub keeps_kinds : (m : ItemMap) → KeepsKinds (goes m)
keeps_kinds m = record { kind = kind_kept m }

-- what a place of a type has, the type that it maps to has
type_gone : (m : Goes) (Q R : ℕ → Type 0) → ((k j : ℕ) → m (TypeItem k) ≡ Some (TypeItem j) → Q k → R j) → (p q : ItemPlace) → place_number q ≡ place_number p → m p ≡ Some q → OfType Q p → OfType R q
type_gone m Q R f (TypeItem k) (TypeItem j) n e h = f k j e h
type_gone m Q R f (ConstantItem k) (TypeItem j) n e h = absurd (omega (arith, n))
type_gone m Q R f (OverrideItem k) (TypeItem j) n e h = absurd (omega (arith, n))
type_gone m Q R f (GlobalItem k) (TypeItem j) n e h = absurd (omega (arith, n))
type_gone m Q R f (ExpressionItem k) (TypeItem j) n e h = absurd (omega (arith, n))
type_gone m Q R f p (ConstantItem j) n e h = tt
type_gone m Q R f p (OverrideItem j) n e h = tt
type_gone m Q R f p (GlobalItem j) n e h = tt
type_gone m Q R f p (ExpressionItem j) n e h = tt

override_gone : (p q : ItemPlace) → place_number q ≡ place_number p → is_override (Some q) ≡ is_override (Some p)
override_gone (TypeItem k) (TypeItem j) n = refl
override_gone (ConstantItem k) (ConstantItem j) n = refl
override_gone (OverrideItem k) (OverrideItem j) n = refl
override_gone (GlobalItem k) (GlobalItem j) n = refl
override_gone (ExpressionItem k) (ExpressionItem j) n = refl
override_gone _ _ n = absurd (omega (arith, n))

-- ---- the names of a copy

-- what holds of each name holds of what it maps to
pub zip_names : (m : Goes) (Q R : ItemPlace → Type 0) → ((p q : ItemPlace) → m p ≡ Some q → Q p → R q) → (ps qs : List (Option ItemPlace)) → AllZip (NameGoesTo m) ps qs → All (λ o. IfSome o Q) ps → All (λ o. IfSome o R) qs
zip_names m Q R f [] [] z a = All-nil (λ o. IfSome o R)
zip_names m Q R f [] (q ∷ qs) z a = absurd z
zip_names m Q R f (p ∷ ps) [] z a = absurd z
zip_names m Q R f (None ∷ ps) (None ∷ qs) z a = All-cons (λ o. IfSome o R) None qs tt (zip_names m Q R f ps qs z.1 (All-tail (λ o. IfSome o Q) None ps a))
zip_names m Q R f (None ∷ ps) (Some q ∷ qs) z a = absurd z.0
zip_names m Q R f (Some p ∷ ps) (None ∷ qs) z a = absurd z.0
zip_names m Q R f (Some p ∷ ps) (Some q ∷ qs) z a =
    All-cons (λ o. IfSome o R) (Some q) qs (f p q z.0 (All-head (λ o. IfSome o Q) (Some p) ps a)) (zip_names m Q R f ps qs z.1 (All-tail (λ o. IfSome o Q) (Some p) ps a))

override_zip : (m : Goes) (o x : Option ItemPlace) → KeepsKinds m → NameGoesTo m o x → is_override x ≡ is_override o
override_zip m None None k h = refl
override_zip m None (Some q) k h = absurd h
override_zip m (Some p) None k h = absurd h
override_zip m (Some p) (Some q) k h = override_gone p q (k.kind p q h)

any_zip : (m : Goes) → KeepsKinds m → (ps qs : List (Option ItemPlace)) → AllZip (NameGoesTo m) ps qs → list_any is_override qs ≡ list_any is_override ps
any_zip m k [] [] z = refl
any_zip m k [] (q ∷ qs) z = absurd z
any_zip m k (p ∷ ps) [] z = absurd z
any_zip m k (p ∷ ps) (q ∷ qs) z = λ i. override_zip m p q k z.0 i || any_zip m k ps qs z.1 i

-- ---- what copies of types reach

-- a world reads as another, apart from names of items
pub record NamesAs (w w0 : World) : Type 0 where
  pub names : (p : ItemPlace) (r : Row) → w p ≡ Some r → (s : Row) × (w0 p ≡ Some s) × (r.names ≡ s.names)

swap_type : (P : ℕ → ℕ → Type 0) (q : ItemPlace) → ((n : ℕ) → OfType (P n) q) → OfType (λ k. (n : ℕ) → P n k) q
swap_type P (TypeItem k) h = h
swap_type P (ConstantItem k) h = tt
swap_type P (OverrideItem k) h = tt
swap_type P (GlobalItem k) h = tt
swap_type P (ExpressionItem k) h = tt

swap_some : (P : ℕ → ItemPlace → Type 0) (o : Option ItemPlace) → ((n : ℕ) → IfSome o (P n)) → IfSome o (λ q. (n : ℕ) → P n q)
swap_some P None h = tt
swap_some P (Some q) h = h

some_weaker : (P Q : ItemPlace → Type 0) → ((q : ItemPlace) → P q → Q q) → (o : Option ItemPlace) → IfSome o P → IfSome o Q
some_weaker P Q f None h = tt
some_weaker P Q f (Some q) h = f q h

-- what holds of the types named to every depth
pub all_depths : (P : ℕ → ℕ → Type 0) (ns : List (Option ItemPlace)) → ((n : ℕ) → All (λ o. IfSome o (OfType (P n))) ns) → All (λ o. IfSome o (OfType (λ k. (n : ℕ) → P n k))) ns
all_depths P ns h = λ i x l. some_weaker (λ q. (n : ℕ) → OfType (P n) q) (OfType (λ k. (n : ℕ) → P n k)) (swap_type P) _ (swap_some (λ n. OfType (P n)) _ (λ n. h n i x l))

-- what a copied type has, its copy has
abbrev pub CopiesHave : (w w0 : World) (kept m : Goes) (P Q : ℕ → Row → Type 0) → Type 0
CopiesHave w w0 kept m P Q = (k j : ℕ) (source r copy : Row) → m (TypeItem k) ≡ Some (TypeItem j) → kept (TypeItem k) ≡ None → w0 (TypeItem k) ≡ Some source → w (TypeItem k) ≡ Some r → r.names ≡ source.names → IsCopyOf m r copy → P k source → Q j copy

-- all that kept types reach has a property
abbrev pub KeptReach : World → Kept → (ℕ → Row → Type 0) → Type 0
KeptReach v kept Q = (p : ItemPlace) (j : ℕ) → kept p ≡ Some (TypeItem j) → AllReached v Q j

module _ (w w0 v : World) (kept m : Goes) (P Q : ℕ → Row → Type 0) (a : AreCopied w v kept m) (same : NamesAs w w0) (kinds : KeepsKinds m) (have : CopiesHave w w0 kept m P Q) (u : KeptReach v kept Q) where
  reach_step : (n : ℕ) → ((k j : ℕ) → m (TypeItem k) ≡ Some (TypeItem j) → AllReached w0 P k → ReachesOnly n v Q j) → (k j : ℕ) → m (TypeItem k) ≡ Some (TypeItem j) → AllReached w0 P k → (o : Option ItemPlace) → kept (TypeItem k) ≡ o → ReachesOnly (suc n) v Q j
  unfolding ReachesOnly
  reach_step n ih k j g h (Some x) e =
      let f : Some x ≡ Some (TypeItem j) = sym (a.stand (TypeItem k) x e) ∙ g in
      u (TypeItem k) j (e ∙ f) (suc n)
  reach_step n ih k j g h None e = λ r at.
      let known = a.known (TypeItem k) (TypeItem j) g in
      let copy = a.each (TypeItem k) (TypeItem j) known.0 g e known.1 in
      let source = same.names (TypeItem k) known.0 known.1 in
      let is : copy.0 ≡ r = same_rows copy.0 r (v (TypeItem j)) copy.1 at in
      let zip : AllZip (NameGoesTo m) source.0.names copy.0.names = subst (λ ns. AllZip (NameGoesTo m) ns copy.0.names) source.2 copy.2.names in
      let here : Q j copy.0 = have k j source.0 known.0 copy.0 g e source.1 known.1 source.2 copy.2 (h 1 source.0 source.1).0 in
      let below = all_depths (λ d. ReachesOnly d w0 P) source.0.names (λ d. (h (suc d) source.0 source.1).1) in
      let names = zip_names m (OfType (AllReached w0 P)) (OfType (ReachesOnly n v Q)) (λ p q y. type_gone m (AllReached w0 P) (ReachesOnly n v Q) ih p q (kinds.kind p q y) y) source.0.names copy.0.names zip below in
      subst (λ (x : Row). Q j x × All (λ o. IfSome o (OfType (ReachesOnly n v Q))) x.names) is (here, names)

  reach_to : (n k j : ℕ) → m (TypeItem k) ≡ Some (TypeItem j) → AllReached w0 P k → ReachesOnly n v Q j
  unfolding ReachesOnly
  reach_to zero k j g h = tt
  reach_to (suc n) k j g h = reach_step n (reach_to n) k j g h (kept (TypeItem k)) refl

  -- what all types have that a type reaches, all have that its copy reaches
  pub reach_copied : (k j : ℕ) → m (TypeItem k) ≡ Some (TypeItem j) → AllReached w0 P k → AllReached v Q j
  reach_copied k j g h n = reach_to n k j g h

-- kept types aren't sized
abbrev pub KeptUnsized : World → Kept → Type 0
KeptUnsized v kept = KeptReach v kept IsFixed

fixed_copies : (w w0 : World) (kept m : Goes) → KeepsKinds m → CopiesHave w w0 kept m IsFixed IsFixed
fixed_copies w w0 kept m kinds k j source r copy g n at e names c h =
    any_zip m kinds source.names copy.names (subst (λ ns. AllZip (NameGoesTo m) ns copy.names) names c.names) ∙ h

pub unsized_copied : (w w0 v : World) (kept m : Goes) → AreCopied w v kept m → NamesAs w w0 → KeepsKinds m → KeptUnsized v kept → (k j : ℕ) → m (TypeItem k) ≡ Some (TypeItem j) → IsUnsized w0 k → IsUnsized v j
unsized_copied w w0 v kept m a same kinds u k j g h = reach_copied w w0 v kept m IsFixed IsFixed a same kinds (fixed_copies w w0 kept m kinds) u k j g h

-- ---- a free place stands after those that are not

rows_before : {X : Type 0} (f : X → Row) (xs : List X) (j k : ℕ) (r : Row) → option_map f (slice_get xs j) ≡ Some r → option_map f (slice_get xs k) ≡ None → j < k
rows_before f [] j k r e g = cc
rows_before f (x ∷ xs) j zero r e g = cc
rows_before f (x ∷ xs) zero (suc k) r e g = omega arith
rows_before f (x ∷ xs) (suc j) (suc k) r e g = let h = rows_before f xs j k r e g in omega (arith, h)

type_before : (t : ModuleValue) (j k : ℕ) → IsIn (world t) (TypeItem j) → world t (TypeItem k) ≡ None → j < k
unfolding world
type_before t j k at e = rows_before (λ x. x.0) t.types j k at.0 at.1 e

expression_before : (t : ModuleValue) (j k : ℕ) → IsIn (world t) (ExpressionItem j) → world t (ExpressionItem k) ≡ None → j < k
unfolding world
expression_before t j k at e = rows_before (λ x. parts_row x.0) t.global_expressions j k at.0 at.1 e

is_before : (t : ModuleValue) (k : ℕ) (q : ItemPlace) → world t (ExpressionItem k) ≡ None → IsIn (world t) q → IsBefore k q
is_before t k (TypeItem j) e at = tt
is_before t k (ConstantItem j) e at = tt
is_before t k (OverrideItem j) e at = tt
is_before t k (GlobalItem j) e at = tt
is_before t k (ExpressionItem j) e at = expression_before t j k at e

names_before : (t : ModuleValue) (k : ℕ) (p : ItemPlace) → ItemsStand (world t) → world t (ExpressionItem k) ≡ None → NamesBefore (world t) k p
names_before t k p i e = λ r at. λ j x l. some_weaker (MayName (world t) p) (IsBefore k) (λ q h. is_before t k q e h.there) _ (i.names p r at j x l)

stands_past : (t : ModuleValue) (k : ℕ) (q : ItemPlace) → ItemsStand (world t) → world t (ExpressionItem k) ≡ None → IsIn (world t) q → StandsAfter (world t) k q
stands_past t k (TypeItem j) i e at = tt
stands_past t k (ConstantItem j) i e at = names_before t k (ConstantItem j) i e
stands_past t k (OverrideItem j) i e at = names_before t k (OverrideItem j) i e
stands_past t k (GlobalItem j) i e at = tt
stands_past t k (ExpressionItem j) i e at = expression_before t j k at e

free_after : (t : ModuleValue) (p q : ItemPlace) → ItemsStand (world t) → world t p ≡ None → IsIn (world t) q → MayStandAfter (world t) p q
free_after t (TypeItem k) q i e at = tt
free_after t (ConstantItem k) q i e at = tt
free_after t (OverrideItem k) q i e at = tt
free_after t (GlobalItem k) q i e at = tt
free_after t (ExpressionItem k) q i e at = stands_past t k q i e at

-- ---- what a copy at a free place names

copy_type : (w0 : World) (t : ModuleValue) (p x : ItemPlace) (k j : ℕ) → place_number x ≡ place_number p → (IsUnsized w0 k → IsUnsized (world t) j) → world t x ≡ None → IsIn (world t) (TypeItem j) → MayNameType w0 p k → MayNameType (world t) x j
copy_type w0 t p (TypeItem y) k j n f e at h = type_before t j y at e
copy_type w0 t p (GlobalItem y) k j n f e at h = tt
copy_type w0 t (ConstantItem z) (ConstantItem y) k j n f e at h = f h
copy_type w0 t (OverrideItem z) (OverrideItem y) k j n f e at h = f h
copy_type w0 t (ExpressionItem z) (ExpressionItem y) k j n f e at h = f h
copy_type w0 t _ _ k j n f e at h = absurd (omega (arith, n))

same_kinds : (p x a q : ItemPlace) → place_number x ≡ place_number p → place_number q ≡ place_number a → may_name_kind (place_number p) (place_number a) ≡ true → may_name_kind (place_number x) (place_number q) ≡ true
same_kinds p x a q e f h = ap (λ k. may_name_kind k (place_number q)) e ∙ ap (may_name_kind (place_number p)) f ∙ h

module _ (m : ModuleValue) (kept : Kept) (s : CopyState) (i : IsMidway m kept s) (source : ItemsStand (world m)) (target : ItemsStand (world s.target)) (u : KeptUnsized (world s.target) kept) where
  names_as : NamesAs (reads_now m s) (world m)
  names_as = record { names = named_names (world m) (world s.target) (goes s.places) }

  pub unsized_here : (k j : ℕ) → goes s.places (TypeItem k) ≡ Some (TypeItem j) → IsUnsized (world m) k → IsUnsized (world s.target) j
  unsized_here = unsized_copied (reads_now m s) (world m) (world s.target) kept (goes s.places) i.copied names_as (keeps_kinds s.places) u

  copy_name : (p x : ItemPlace) → place_number x ≡ place_number p → world s.target x ≡ None → (a q : ItemPlace) → goes s.places a ≡ Some q → MayName (world m) p a → MayName (world s.target) x q
  copy_name p x n e a q g h =
      let at = i.copied.there a q g in
      let following = free_after s.target x q target e at in
      record {
        there = at;
        kind = same_kinds p x a q n (kind_kept s.places a q g) h.kind;
        of_type = type_gone (goes s.places) (MayNameType (world m) p) (MayNameType (world s.target) x) (λ k j y. copy_type (world m) s.target p x k j n (unsized_here k j y) e (i.copied.there (TypeItem k) (TypeItem j) y)) a q (kind_kept s.places a q g) g h.of_type;
        following = following;
      }

  new_stands : (t : ModuleValue) (p x : ItemPlace) (r row copy : Row) → world m p ≡ Some r → row.names ≡ r.names → row.label.kind ≡ r.label.kind → IsCopyOf (goes s.places) row copy → Fetches (world s.target) (world t) copy x → place_number x ≡ place_number p → world s.target x ≡ None → ItemsStand (world t)
  new_stands t p x r row copy at ns kind c f n e =
      let v = world s.target in
      let zip : AllZip (NameGoesTo (goes s.places)) r.names copy.names = subst (λ y. AllZip (NameGoesTo (goes s.places)) y copy.names) ns c.names in
      let names = zip_names (goes s.places) (MayName (world m) p) (MayName v x) (copy_name p x n e) r.names copy.names zip (source.names p r at) in
      let of_copy = names_later v (world t) x f.stays target copy.names names in
      let is = λ (y : ItemPlace) (z : Row) (g : y ≡ x) (h : world t y ≡ Some z). same_rows copy z (world t x) f.at (ap (world t) (sym g) ∙ h) in
      record {
        names = λ y z h. ⊎_elim (λ old. names_later v (world t) y f.stays target z.names (target.names y z old)) (λ new. subst (λ a. All (λ o. IfSome o (MayName (world t) a)) z.names) (sym new.0) (subst (λ (b : Row). All (λ o. IfSome o (MayName (world t) x)) b.names) (is y z new.0 h) of_copy)) (f.only y z h);
        kinds = λ y z h. ⊎_elim (λ old. target.kinds y z old) (λ new. subst (λ (b : Row). MayBeGlobal b.label.kind) (is y z new.0 h) (subst MayBeGlobal (sym (ap (λ l. l.kind) c.label ∙ kind)) (source.kinds p r at))) (f.only y z h);
      }

  -- what is copied may stand
  pub put_stands : (b : CopyState) (p : ItemPlace) (r row : Row) (span : Option Span) → world m p ≡ Some r → row.names ≡ r.names → row.label.kind ≡ r.label.kind → PutsOne m s b p row span → ItemsStand (world b.target)
  put_stands b p r row span at ns kind c =
      ⊎_elim (λ same. subst (λ (t : ModuleValue). ItemsStand (world t)) (sym same) target) (λ new. new_stands b.target p c.place r row c.copy at ns kind c.copies c.fetches c.kind new.0) c.adds
