-- Copying an item after what it names is copying items one after another.
use Rattle.std.proofs.Common.{◌≡◌, ℕ, zero, suc, ◌<◌, List, [], ◌∷◌, Option, Some, None, is_some, if◌then◌else◌, refl, ap, sym, ◌∙◌, subst, arith, All, IfSome}
use Rattle.std.proofs.lemmas.List.Elements.{All-head, All-tail, All-weaker}
use Rattle.naga_oil_ir.specs.Rows.{Row, Text}
use Rattle.naga_oil_ir.specs.ModuleValue.{ModuleValue}
use Rattle.naga_oil_ir.specs.declared.names.ItemPlace.{ItemPlace}
use Rattle.naga_oil_ir.specs.declared.names.ItemPlace.TheVariants.{TypeItem}
use Rattle.naga_oil_derive.specs.Tree.{Kept}
use Rattle.naga_oil_derive.specs.World.{goes, world}
use Rattle.naga_oil_derive.specs.Collected.{depth}
use Rattle.naga_oil_derive.specs.Copied.{CopyState, Copier, put, put_type, copy_each, copy_row_names, copy_item_by, copy_within, copy_item, copy_all, copy_named_type}
use Rattle.naga_oil_derive.specs.CopiedLaw.{HasAt, IsBelowIn, IsRankedBy, IsCopyable, IsMidway}
use Rattle.naga_oil_derive.specs.Putting.{Putting, NothingPut, ItemPut, TypePutting, NoType, TypeLast}
use Rattle.naga_oil_derive.proofs.CopiedLaws.{copied_item, copied_again, type_again}
use Rattle.naga_oil_derive.proofs.PuttingLemmas.{putting_trans, can_put}

-- ---- an item is copied alike at any depth that is enough

each_same : (f g : Copier) (P : ItemPlace → Type 0) → ((q : ItemPlace) → P q → (s : CopyState) → f s q ≡ g s q) → (ps : List (Option ItemPlace)) → All (λ o. IfSome o P) ps → (s : CopyState) → copy_each f s ps ≡ copy_each g s ps
each_same f g P h [] a s = refl
each_same f g P h (None ∷ ps) a s = each_same f g P h ps (All-tail (λ o. IfSome o P) None ps a) s
each_same f g P h (Some p ∷ ps) a s =
    each_same f g P h ps (All-tail (λ o. IfSome o P) (Some p) ps a) (f s p) ∙ ap (λ x. copy_each g x ps) (h p (All-head (λ o. IfSome o P) (Some p) ps a) s)

abbrev Below : ModuleValue → (ItemPlace → ℕ) → ItemPlace → ItemPlace → Type 0
Below m rank p q = HasAt m q × (rank q < rank p)

within_same : (m : ModuleValue) (shift : ℕ) (rank : ItemPlace → ℕ) → IsRankedBy m rank → (n k : ℕ) (p : ItemPlace) → HasAt m p → rank p < n → rank p < k → (s : CopyState) → copy_within n m shift s p ≡ copy_within k m shift s p
unfolding copy_within
within_same m shift rank a zero k p at l h s = absurd (omega (arith, l))
within_same m shift rank a (suc n) zero p at l h s = absurd (omega (arith, h))
within_same m shift rank a (suc n) (suc k) p at l h s =
    let f = copy_within n m shift in
    let g = copy_within k m shift in
    let each = each_same f g (Below m rank p) (λ q b x. within_same m shift rank a n k q b.0 (let c = b.1 in omega (arith, c, l)) (let c = b.1 in omega (arith, c, h)) x) at.0.names (a.names p at.0 at.1) s in
    let row : copy_row_names f s (world m p) ≡ copy_row_names g s (world m p) = ap (copy_row_names f s) at.1 ∙ each ∙ sym (ap (copy_row_names g s) at.1) in
    ap (λ x. if is_some (goes s.places p) then s else put m shift x p) row

one_more : (m : ModuleValue) (shift : ℕ) (s : CopyState) (p : ItemPlace) → copy_within (suc (depth m)) m shift s p ≡ copy_item_by (copy_item m shift) m shift s p
unfolding copy_within
one_more m shift s p = refl

-- an item that isn't mapped is copied after what it names
item_step : (m : ModuleValue) (shift : ℕ) (s : CopyState) (p : ItemPlace) (r : Row) → IsCopyable m → world m p ≡ Some r → goes s.places p ≡ None → copy_item m shift s p ≡ put m shift (copy_all m shift s r.names) p
item_step m shift s p r c at fresh =
    let l = c.ranked.within p r at in
    within_same m shift c.rank c.ranked (depth m) (suc (depth m)) p (r, at) l (omega (arith, l)) s ∙ one_more m shift s p ∙ ap (λ o. if is_some o then s else put m shift (copy_row_names (copy_item m shift) s (world m p)) p) fresh ∙ ap (λ o. put m shift (copy_row_names (copy_item m shift) s o) p) at

-- ---- items copied one after another

module _ (m : ModuleValue) (shift : ℕ) (kept : Kept) (c : IsCopyable m) where
  -- what copying an item does
  abbrev Puts : ItemPlace → Type 0
  Puts p = HasAt m p → (s : CopyState) → IsMidway m kept s → Putting m shift s (copy_item m shift s p)

  names_puts : (P : ItemPlace → Type 0) → ((q : ItemPlace) → P q → HasAt m q × Puts q) → (ps : List (Option ItemPlace)) → All (λ o. IfSome o P) ps → (s : CopyState) → IsMidway m kept s → Putting m shift s (copy_all m shift s ps)
  names_puts P h [] a s i = NothingPut
  names_puts P h (None ∷ ps) a s i = names_puts P h ps (All-tail (λ o. IfSome o P) None ps a) s i
  names_puts P h (Some q ∷ ps) a s i =
      let one = h q (All-head (λ o. IfSome o P) (Some q) ps a) in
      putting_trans (one.1 one.0 s i) (names_puts P h ps (All-tail (λ o. IfSome o P) (Some q) ps a) (copy_item m shift s q) (copied_item m shift kept s q c i one.0).0.midway)

  item_by : (p : ItemPlace) (r : Row) → world m p ≡ Some r → (s : CopyState) → IsMidway m kept s → ((t : CopyState) → t ≡ copy_all m shift s r.names → Putting m shift s t) → (o : Option ItemPlace) → goes s.places p ≡ o → Putting m shift s (copy_item m shift s p)
  item_by p r at s i h (Some q) e = subst (Putting m shift s) (sym (copied_again m shift s p (q, e))) NothingPut
  item_by p r at s i h None e =
      let t = copy_all m shift s r.names in
      subst (Putting m shift s) (sym (item_step m shift s p r c at e)) (putting_trans (h t refl) (ItemPut p (can_put m shift kept s p r c i at e) NothingPut))

  item_within : (n : ℕ) (p : ItemPlace) → c.rank p < n → Puts p
  item_within zero p l at s i = absurd (omega (arith, l))
  item_within (suc n) p l at s i =
      let below = c.ranked.names p at.0 at.1 in
      let names = names_puts (Below m c.rank p) (λ q b. (b.0, item_within n q (let d = b.1 in omega (arith, d, l)))) at.0.names below s i in
      item_by p at.0 at.1 s i (λ t e. subst (Putting m shift s) (sym e) names) (goes s.places p) refl

  pub item_puts : (p : ItemPlace) → Puts p
  item_puts p = item_within (suc (c.rank p)) p (omega arith)

  pub all_puts : (ps : List (Option ItemPlace)) → All (λ o. IfSome o (HasAt m)) ps → (s : CopyState) → IsMidway m kept s → Putting m shift s (copy_all m shift s ps)
  all_puts ps a s i = names_puts (HasAt m) (λ q h. (h, item_puts q)) ps a s i

  there_below : (p : ItemPlace) (o : Option ItemPlace) → IsBelowIn m c.rank p o → IfSome o (HasAt m)
  there_below p None h = tt
  there_below p (Some q) h = h.0

  type_by : (k : ℕ) (name : Option Text) (r : Row) → world m (TypeItem k) ≡ Some r → (s : CopyState) → IsMidway m kept s → (o : Option ItemPlace) → goes s.places (TypeItem k) ≡ o → TypePutting m shift name k s (copy_named_type m shift name s k)
  type_by k name r at s i (Some q) e = subst (TypePutting m shift name k s) (sym (type_again m shift s k name (q, e))) (NoType NothingPut)
  type_by k name r at s i None e =
      let t = copy_all m shift s r.names in
      let there = All-weaker (IsBelowIn m c.rank (TypeItem k)) (λ o. IfSome o (HasAt m)) (there_below (TypeItem k)) r.names (c.ranked.names (TypeItem k) r at) in
      let is : copy_named_type m shift name s k ≡ put_type m shift name t k = ap (λ o. if is_some o then s else put_type m shift name (copy_row_names (copy_item m shift) s (world m (TypeItem k))) k) e ∙ ap (λ o. put_type m shift name (copy_row_names (copy_item m shift) s o) k) at in
      TypeLast (all_puts r.names there s i) (can_put m shift kept s (TypeItem k) r c i at e) is

  pub type_puts : (k : ℕ) (name : Option Text) → HasAt m (TypeItem k) → (s : CopyState) → IsMidway m kept s → TypePutting m shift name k s (copy_named_type m shift name s k)
  type_puts k name at s i = type_by k name at.0 at.1 s i (goes s.places (TypeItem k)) refl
