-- What holds after items were copied one after another, also if memory ran out, and the result of copying them.
use Rattle.std.proofs.Common.{◌≡◌, ℕ, List, Option, Some, None, refl, ap, sym, ◌∙◌, subst, All, IfSome}
use Rattle.std.proofs.lemmas.List.{length-map}
use Rattle.std.proofs.lemmas.List.Elements.{All-weaker}
use Rattle.naga_oil_ir.specs.Rows.{Row, Text}
use Rattle.naga_oil_ir.specs.ModuleValue.{ModuleValue, special_value}
use Rattle.naga_oil_ir.specs.declared.module.Module.{Module}
use Rattle.naga_oil_ir.specs.declared.names.ItemPlace.{ItemPlace}
use Rattle.naga_oil_ir.specs.declared.names.ItemPlace.TheVariants.{TypeItem}
use Rattle.naga_oil_derive.specs.declared.maps.Maps.{Maps}
use Rattle.naga_oil_derive.specs.Tree.{Kept}
use Rattle.naga_oil_rename.specs.Renames.{under_name}
use Rattle.naga_oil_derive.specs.World.{goes, value_of, world, Extends}
use Rattle.naga_oil_derive.specs.Copying.{IsThere, AreRanked, IsCopying, Grows, WentSomewhere, AreNames, goes_under, source_world, kept_between}
use Rattle.naga_oil_derive.specs.Copied.{CopyState, copy_state, put, put_type, copy_item, copy_all}
use Rattle.naga_oil_derive.specs.CopiedLaw.{IsKinded, HasAt, IsBelowIn, IsCopyable, reads_now, spans_by, IsMidway, IsReady}
use Rattle.naga_oil_derive.specs.Putting.{CanPut, Putting, NothingPut, ItemPut, TypePutting, NoType, TypeLast}
use Rattle.naga_oil_derive.proofs.TreeLemmas.{puts_keeps}
use Rattle.naga_oil_derive.proofs.CopyLemmas.{kept_same}
use Rattle.naga_oil_derive.proofs.WorldLemmas.{Extends-refl, Extends-trans}
use Rattle.naga_oil_derive.proofs.PutLaws.{put_named, put_item}
use Rattle.naga_oil_derive.proofs.KindLaws.{value_kinds, ranked_copyable}
use Rattle.naga_oil_derive.proofs.CopiedLaws.{midway_step, lowers, lower_names, not_among, still_nowhere, copied_item, copied_all}

-- ---- over values alone

-- a state between copies, and what came before stays
pub record IsLater (m : ModuleValue) (kept : Kept) (s u : CopyState) : Type 0 where
  pub midway : IsMidway m kept u
  pub went : (p q : ItemPlace) → goes s.places p ≡ Some q → goes u.places p ≡ Some q
  pub extends : Extends s.target u.target

later_refl : (m : ModuleValue) (kept : Kept) (s : CopyState) → IsMidway m kept s → IsLater m kept s s
later_refl m kept s i = record { midway = i; went = λ p q g. g; extends = Extends-refl s.target }

later_trans : (m : ModuleValue) (kept : Kept) (s t u : CopyState) → IsLater m kept s t → IsLater m kept t u → IsLater m kept s u
later_trans m kept s t u a b = record { midway = b.midway; went = λ p q g. b.went p q (a.went p q g); extends = Extends-trans s.target t.target u.target a.extends b.extends }

ready : (m : ModuleValue) (kept : Kept) (s : CopyState) (p : ItemPlace) → IsKinded m → IsMidway m kept s → (c : CanPut m s p) → IsReady m s p c.row
ready m kept s p k i c = record { source = k; target = i.kinds; roomy = i.roomy; at = c.there; names = c.names }

put_later : (m : ModuleValue) (shift : ℕ) (kept : Kept) (s : CopyState) (p : ItemPlace) → IsKinded m → IsMidway m kept s → CanPut m s p → IsLater m kept s (put m shift s p)
put_later m shift kept s p k i c =
    let one = put_item m shift s p c.row (ready m kept s p k i c) in
    record {
      midway = midway_step m kept s (put m shift s p) p None c.row c.row (spans_by m shift p) k i c.nowhere one c.there refl;
      went = puts_keeps (goes s.places) (goes (put m shift s p).places) p one.place c.nowhere one.puts;
      extends = one.extends;
    }

type_later : (m : ModuleValue) (shift : ℕ) (kept : Kept) (s : CopyState) (k : ℕ) (name : Option Text) → IsKinded m → IsMidway m kept s → CanPut m s (TypeItem k) → IsLater m kept s (put_type m shift name s k)
type_later m shift kept s k name kinds i c =
    let p = TypeItem k in
    let u = put_type m shift name s k in
    let one = put_named m shift s k c.row name (ready m kept s p kinds i c) in
    record {
      midway = midway_step m kept s u p name c.row (under_name name c.row) (spans_by m shift p) kinds i c.nowhere one c.there refl;
      went = puts_keeps (goes s.places) (goes u.places) p one.place c.nowhere one.puts;
      extends = one.extends;
    }

pub putting_later : (m : ModuleValue) (shift : ℕ) (kept : Kept) (s u : CopyState) → IsKinded m → IsMidway m kept s → Putting m shift s u → IsLater m kept s u
putting_later m shift kept s u k i NothingPut = later_refl m kept s i
putting_later m shift kept s u k i (ItemPut p c more) =
    let one = put_later m shift kept s p k i c in
    later_trans m kept s (put m shift s p) u one (putting_later m shift kept (put m shift s p) u k one.midway more)

pub type_putting_later : (m : ModuleValue) (shift : ℕ) (kept : Kept) (name : Option Text) (k : ℕ) (s u : CopyState) → IsKinded m → IsMidway m kept s → TypePutting m shift name k s u → IsLater m kept s u
type_putting_later m shift kept name k s u kinds i (NoType a) = putting_later m shift kept s u kinds i a
type_putting_later m shift kept name k s u kinds i (TypeLast {t} a c e) =
    let names = putting_later m shift kept s t kinds i a in
    let last = type_later m shift kept t k name kinds names.midway c in
    subst (IsLater m kept s) (sym e) (later_trans m kept s t (put_type m shift name t k) names last)

pub putting_trans : {m : ModuleValue} {shift : ℕ} {s t u : CopyState} → Putting m shift s t → Putting m shift t u → Putting m shift s u
putting_trans NothingPut b = b
putting_trans (ItemPut p c more) b = ItemPut p c (putting_trans more b)

there_name : (m : ModuleValue) (rank : ItemPlace → ℕ) (p : ItemPlace) (o : Option ItemPlace) → IsBelowIn m rank p o → IfSome o (HasAt m)
there_name m rank p None h = tt
there_name m rank p (Some q) h = h.0

-- once what an item names was copied, the item can be put
pub can_put : (m : ModuleValue) (shift : ℕ) (kept : Kept) (s : CopyState) (p : ItemPlace) (r : Row) → IsCopyable m → IsMidway m kept s → world m p ≡ Some r → goes s.places p ≡ None → CanPut m (copy_all m shift s r.names) p
can_put m shift kept s p r c i at fresh =
    let w = reads_now m s in
    let below = c.ranked.names p r at in
    let a = copied_all m shift kept s r.names c i (All-weaker (IsBelowIn m c.rank p) (λ o. IfSome o (HasAt m)) (there_name m c.rank p) r.names below) in
    record {
      row = r;
      there = at;
      nowhere = still_nowhere m shift kept w s (copy_all m shift s r.names) _ p a.0 (not_among m kept w c.rank p r.names (lowers m c.rank s c.ranked) (lower_names m c.rank p r.names below)) fresh;
      names = a.1;
    }

-- ---- the state of copying, as a value

pub midway_of : (source t : Module) (m : Maps) → IsCopying source t m → IsMidway (value_of source) (kept_between source t) (copy_state m t)
unfolding source_world goes_under value_of
midway_of source t m i = record {
  kinds = value_kinds t;
  roomy = record { types = i.long.types ∙ sym (length-map source.types _); constants = i.long.constants ∙ sym (length-map source.constants _); overrides = i.long.overrides ∙ sym (length-map source.overrides _); globals = i.long.globals ∙ sym (length-map source.global_variables _); expressions = i.long.expressions ∙ sym (length-map source.global_expressions _) };
  sound = i.sound;
  copied = i.copied;
}

pub copying_of : (source t : Module) (m : Maps) → IsMidway (value_of source) (kept_between source t) (copy_state m t) → IsCopying source t m
unfolding source_world goes_under value_of
copying_of source t m i = record {
  long = record { types = i.roomy.types ∙ length-map source.types _; constants = i.roomy.constants ∙ length-map source.constants _; overrides = i.roomy.overrides ∙ length-map source.overrides _; globals = i.roomy.globals ∙ length-map source.global_variables _; expressions = i.roomy.expressions ∙ length-map source.global_expressions _ };
  sound = i.sound;
  copied = i.copied;
}

pub special_kept : (t u : Module) → Extends (value_of t) (value_of u) → special_value u.special_types ≡ special_value t.special_types
unfolding value_of
special_kept t u e = ap (λ (v : ModuleValue). v.special_types) e.rest

later_copying : (source t u : Module) (m n : Maps) → IsLater (value_of source) (kept_between source t) (copy_state m t) (copy_state n u) → IsCopying source u n
later_copying source t u m n g = copying_of source u n (subst (λ k. IsMidway (value_of source) k (copy_state n u)) (sym (kept_same source t u (special_kept t u g.extends))) g.midway)

later_grows : (source t u : Module) (m n : Maps) → n.offset ≡ m.offset → IsLater (value_of source) (kept_between source t) (copy_state m t) (copy_state n u) → Grows m n t u
unfolding goes_under
later_grows source t u m n e g = record { went = g.went; offset = e; extends = g.extends; special = special_kept t u g.extends }

-- ---- after items were put

later : (source t u : Module) (m n : Maps) → IsCopying source t m → Putting (value_of source) m.offset (copy_state m t) (copy_state n u) → IsLater (value_of source) (kept_between source t) (copy_state m t) (copy_state n u)
later source t u m n i p = putting_later (value_of source) m.offset (kept_between source t) (copy_state m t) (copy_state n u) (value_kinds source) (midway_of source t m i) p

pub putting_copying : (source t u : Module) (m n : Maps) → IsCopying source t m → Putting (value_of source) m.offset (copy_state m t) (copy_state n u) → IsCopying source u n
putting_copying source t u m n i p = later_copying source t u m n (later source t u m n i p)

pub putting_grows : (source t u : Module) (m n : Maps) → IsCopying source t m → n.offset ≡ m.offset → Putting (value_of source) m.offset (copy_state m t) (copy_state n u) → Grows m n t u
putting_grows source t u m n i e p = later_grows source t u m n e (later source t u m n i p)

type_later_of : (source t u : Module) (m n : Maps) (name : Option Text) (k : ℕ) → IsCopying source t m → TypePutting (value_of source) m.offset name k (copy_state m t) (copy_state n u) → IsLater (value_of source) (kept_between source t) (copy_state m t) (copy_state n u)
type_later_of source t u m n name k i p = type_putting_later (value_of source) m.offset (kept_between source t) name k (copy_state m t) (copy_state n u) (value_kinds source) (midway_of source t m i) p

pub type_putting_copying : (source t u : Module) (m n : Maps) (name : Option Text) (k : ℕ) → IsCopying source t m → TypePutting (value_of source) m.offset name k (copy_state m t) (copy_state n u) → IsCopying source u n
type_putting_copying source t u m n name k i p = later_copying source t u m n (type_later_of source t u m n name k i p)

pub type_putting_grows : (source t u : Module) (m n : Maps) (name : Option Text) (k : ℕ) → IsCopying source t m → n.offset ≡ m.offset → TypePutting (value_of source) m.offset name k (copy_state m t) (copy_state n u) → Grows m n t u
type_putting_grows source t u m n name k i e p = later_grows source t u m n e (type_later_of source t u m n name k i p)

-- ---- after an item was copied

pub copied_went : (source t u : Module) (m n : Maps) (p : ItemPlace) → AreRanked source → IsCopying source t m → IsThere source p → copy_state n u ≡ copy_item (value_of source) m.offset (copy_state m t) p → WentSomewhere (goes_under n) (Some p)
unfolding goes_under
copied_went source t u m n p a i there e =
    let g = copied_item (value_of source) m.offset (kept_between source t) (copy_state m t) p (ranked_copyable source a) (midway_of source t m i) there in
    (g.1.0, ap (λ (s : CopyState). goes s.places p) e ∙ g.1.1)

-- ---- items copied after others

pub putting_next : {m : ModuleValue} {shift d : ℕ} {s t u : CopyState} → d ≡ shift → Putting m shift s t → Putting m d t u → Putting m shift s u
putting_next {m} {t} {u} e a b = putting_trans a (subst (λ x. Putting m x t u) e b)

names_of : (o : Option Row) (r : Row) (ns : List (Option ItemPlace)) → o ≡ Some r → AreNames o ns → ns ≡ r.names
names_of o r ns e a = subst (λ x. AreNames x ns) e a

-- an item can be put in the state in which its names were copied
ready_now : (source t u : Module) (m n : Maps) (p : ItemPlace) (ns : List (Option ItemPlace)) → AreRanked source → IsCopying source t m → IsThere source p → goes_under m p ≡ None → AreNames (world (value_of source) p) ns → copy_state n u ≡ copy_all (value_of source) m.offset (copy_state m t) ns → CanPut (value_of source) (copy_state n u) p
unfolding goes_under
ready_now source t u m n p ns a i there fresh names e =
    let v = value_of source in
    let s = copy_state m t in
    subst (λ x. CanPut v x p) (sym (e ∙ ap (copy_all v m.offset s) (names_of (world v p) there.0 ns there.1 names))) (can_put v m.offset (kept_between source t) s p there.0 (ranked_copyable source a) (midway_of source t m i) there.1 fresh)

pub putting_item : (source t u x : Module) (m n k : Maps) (p : ItemPlace) (ns : List (Option ItemPlace)) → AreRanked source → IsCopying source t m → IsThere source p → goes_under m p ≡ None → AreNames (world (value_of source) p) ns → n.offset ≡ m.offset → Putting (value_of source) m.offset (copy_state m t) (copy_state n u) → copy_state n u ≡ copy_all (value_of source) m.offset (copy_state m t) ns → copy_state k x ≡ put (value_of source) n.offset (copy_state n u) p → Putting (value_of source) m.offset (copy_state m t) (copy_state k x)
putting_item source t u x m n k p ns a i there fresh names offset before e is =
    let v = value_of source in
    let s = copy_state n u in
    putting_trans before (ItemPut p (ready_now source t u m n p ns a i there fresh names e) (subst (λ y. Putting v m.offset y (copy_state k x)) (is ∙ ap (λ d. put v d s p) offset) NothingPut))

pub putting_type : (source t u x : Module) (m n k : Maps) (h : ℕ) (name : Option Text) (ns : List (Option ItemPlace)) → AreRanked source → IsCopying source t m → IsThere source (TypeItem h) → goes_under m (TypeItem h) ≡ None → AreNames (world (value_of source) (TypeItem h)) ns → n.offset ≡ m.offset → Putting (value_of source) m.offset (copy_state m t) (copy_state n u) → copy_state n u ≡ copy_all (value_of source) m.offset (copy_state m t) ns → copy_state k x ≡ put_type (value_of source) n.offset name (copy_state n u) h → TypePutting (value_of source) m.offset name h (copy_state m t) (copy_state k x)
putting_type source t u x m n k h name ns a i there fresh names offset before e is =
    TypeLast before (ready_now source t u m n (TypeItem h) ns a i there fresh names e) (is ∙ ap (λ d. put_type (value_of source) d name (copy_state n u) h) offset)

pub names_went : (source t u : Module) (m n : Maps) (ns : List (Option ItemPlace)) → AreRanked source → IsCopying source t m → All (λ o. IfSome o (HasAt (value_of source))) ns → copy_state n u ≡ copy_all (value_of source) m.offset (copy_state m t) ns → All (WentSomewhere (goes_under n)) ns
unfolding goes_under
names_went source t u m n ns a i there e =
    subst (λ (s : CopyState). All (WentSomewhere (goes s.places)) ns) (sym e) (copied_all (value_of source) m.offset (kept_between source t) (copy_state m t) ns (ranked_copyable source a) (midway_of source t m i) there).1
