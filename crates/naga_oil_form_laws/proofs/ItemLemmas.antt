-- Items that may stand, as a module grows.
use Rattle.std.proofs.Common.{◌≡◌, ℕ, zero, suc, List, Option, Some, None, ap, ◌∙◌, All, IfSome}
use Rattle.std.specs.List.{IsDistinct}
use Rattle.std.proofs.lemmas.List.Elements.{All-nil}
use Rattle.naga_oil_ir.specs.Rows.{Row}
use Rattle.naga_oil_ir.specs.ModuleValue.{no_items}
use Rattle.naga_oil_ir.specs.declared.names.ItemPlace.{ItemPlace}
use Rattle.naga_oil_ir.specs.declared.names.ItemPlace.TheVariants.{TypeItem, ConstantItem, OverrideItem, GlobalItem, ExpressionItem}
use Rattle.naga_oil_ir.specs.declared.span.Span.{Span}
use Rattle.naga_oil_derive.specs.Tree.{World}
use Rattle.naga_oil_derive.specs.World.{world, span_at}
use Rattle.naga_oil_derive.proofs.CopyLemmas.{same_rows}
use Rattle.naga_oil_derive.proofs.DeriveLemmas.{world_empty, nothing_some}
use Rattle.naga_oil_form_laws.specs.ItemsStand.{OfType, ReachesOnly, IsFixed, IsUnsized, MayNameType, NamesBefore, StandsAfter, MayStandAfter, IsIn, MayName, ItemsStand, MayBeSpecial, AreFormed}

-- ---- the empty module

no_span : (p : ItemPlace) (s : Span) → span_at no_items p ≡ Some s → ⊥
unfolding span_at
no_span (TypeItem k) s e = cc
no_span (ConstantItem k) s e = cc
no_span (OverrideItem k) s e = cc
no_span (GlobalItem k) s e = cc
no_span (ExpressionItem k) s e = cc

pub nothing_formed : AreFormed no_items
unfolding IsDistinct
nothing_formed = record {
  kinds = λ p r e. absurd (nothing_some (world no_items p) r (world_empty p) e);
  keys = tt;
  items = record {
    names = λ p r e. absurd (nothing_some (world no_items p) r (world_empty p) e);
    kinds = λ p r e. absurd (nothing_some (world no_items p) r (world_empty p) e);
  };
  special = All-nil (λ e. MayBeSpecial no_items e.1);
  spans = λ p s e. absurd (no_span p s e);
}

-- ---- growth

-- what stands stays
abbrev pub Stays : World → World → Type 0
Stays v u = (p : ItemPlace) (r : Row) → v p ≡ Some r → u p ≡ Some r

pub all_both : {X : Type 0} (P Q R : X → Type 0) → ((x : X) → P x → Q x → R x) → (xs : List X) → All P xs → All Q xs → All R xs
all_both P Q R f xs a b = λ i x l. f _ (a i x l) (b i x l)

type_both : (P Q R : ℕ → Type 0) (S : ItemPlace → Type 0) → ((k : ℕ) → S (TypeItem k) → Q k → R k) → (q : ItemPlace) → S q → OfType Q q → OfType R q
type_both P Q R S f (TypeItem k) s h = f k s h
type_both P Q R S f (ConstantItem k) s h = tt
type_both P Q R S f (OverrideItem k) s h = tt
type_both P Q R S f (GlobalItem k) s h = tt
type_both P Q R S f (ExpressionItem k) s h = tt

some_both : (P Q R : ItemPlace → Type 0) → ((q : ItemPlace) → P q → Q q → R q) → (o : Option ItemPlace) → IfSome o P → IfSome o Q → IfSome o R
some_both P Q R f None a b = tt
some_both P Q R f (Some q) a b = f q a b

-- what a type reaches is the same in a module that has more
pub reaches_later : (v u : World) (P Q : ℕ → Row → Type 0) → Stays v u → ItemsStand v → ((k : ℕ) (r : Row) → v (TypeItem k) ≡ Some r → P k r → Q k r) → (n k : ℕ) → IsIn v (TypeItem k) → ReachesOnly n v P k → ReachesOnly n u Q k
unfolding ReachesOnly
reaches_later v u P Q stays i f zero k at h = tt
reaches_later v u P Q stays i f (suc n) k at h = λ r e.
    let is : at.0 ≡ r = same_rows at.0 r (u (TypeItem k)) (stays (TypeItem k) at.0 at.1) e in
    let here : v (TypeItem k) ≡ Some r = at.1 ∙ ap Some is in
    let old = h r here in (
      f k r here old.0,
      all_both (λ o. IfSome o (MayName v (TypeItem k))) (λ o. IfSome o (OfType (ReachesOnly n v P))) (λ o. IfSome o (OfType (ReachesOnly n u Q))) (λ o. some_both (MayName v (TypeItem k)) (OfType (ReachesOnly n v P)) (OfType (ReachesOnly n u Q)) (λ q. type_both (ReachesOnly n v P) (ReachesOnly n v P) (ReachesOnly n u Q) (MayName v (TypeItem k)) (λ j m. reaches_later v u P Q stays i f n j m.there) q) o) r.names (i.names (TypeItem k) r here) old.1,
    )

pub unsized_later : (v u : World) → Stays v u → ItemsStand v → (k : ℕ) → IsIn v (TypeItem k) → IsUnsized v k → IsUnsized u k
unsized_later v u stays i k at h n = reaches_later v u IsFixed IsFixed stays i (λ j r e x. x) n k at (h n)

-- ---- what was there may stand as before

before_later : (v u : World) (k : ℕ) (p : ItemPlace) → Stays v u → IsIn v p → NamesBefore v k p → NamesBefore u k p
before_later v u k p stays at h = λ r e. h r (at.1 ∙ ap Some (same_rows at.0 r (u p) (stays p at.0 at.1) e))

after_later : (v u : World) (k : ℕ) (q : ItemPlace) → Stays v u → IsIn v q → StandsAfter v k q → StandsAfter u k q
after_later v u k (TypeItem j) stays at h = tt
after_later v u k (ConstantItem j) stays at h = before_later v u k (ConstantItem j) stays at h
after_later v u k (OverrideItem j) stays at h = before_later v u k (OverrideItem j) stays at h
after_later v u k (GlobalItem j) stays at h = tt
after_later v u k (ExpressionItem j) stays at h = h

stand_later : (v u : World) (p q : ItemPlace) → Stays v u → IsIn v q → MayStandAfter v p q → MayStandAfter u p q
stand_later v u (TypeItem k) q stays at h = tt
stand_later v u (ConstantItem k) q stays at h = tt
stand_later v u (OverrideItem k) q stays at h = tt
stand_later v u (GlobalItem k) q stays at h = tt
stand_later v u (ExpressionItem k) q stays at h = after_later v u k q stays at h

type_later : (v u : World) (p : ItemPlace) (j : ℕ) → Stays v u → ItemsStand v → IsIn v (TypeItem j) → MayNameType v p j → MayNameType u p j
type_later v u (TypeItem k) j stays i at h = h
type_later v u (ConstantItem k) j stays i at h = unsized_later v u stays i j at h
type_later v u (OverrideItem k) j stays i at h = unsized_later v u stays i j at h
type_later v u (GlobalItem k) j stays i at h = tt
type_later v u (ExpressionItem k) j stays i at h = unsized_later v u stays i j at h

pub name_later : (v u : World) (p q : ItemPlace) → Stays v u → ItemsStand v → MayName v p q → MayName u p q
name_later v u p q stays i h = record {
  there = (h.there.0, stays q h.there.0 h.there.1);
  kind = h.kind;
  of_type = type_both (MayNameType v p) (MayNameType v p) (MayNameType u p) (IsIn v) (λ j at x. type_later v u p j stays i at x) q h.there h.of_type;
  following = stand_later v u p q stays h.there h.following;
}

some_weaker : (P Q : ItemPlace → Type 0) → ((q : ItemPlace) → P q → Q q) → (o : Option ItemPlace) → IfSome o P → IfSome o Q
some_weaker P Q f None h = tt
some_weaker P Q f (Some q) h = f q h

pub names_later : (v u : World) (p : ItemPlace) → Stays v u → ItemsStand v → (ns : List (Option ItemPlace)) → All (λ o. IfSome o (MayName v p)) ns → All (λ o. IfSome o (MayName u p)) ns
names_later v u p stays i ns a = λ j x l. some_weaker (MayName v p) (MayName u p) (λ q. name_later v u p q stays i) _ (a j x l)
