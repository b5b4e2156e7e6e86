-- The result of copying the waiting items, and that it ends.
use Rattle.std.proofs.Common.{◌≡◌, ⊎_elim, ◌⊎◌, inl, inr, ℕ, zero, suc, ◌+◌, ◌<◌, ◌≤◌, false, List, [], ◌∷◌, ◌++◌, length, drop, take, take_all, get_or, Option, Some, None, is_some, drop_of_length-le, refl, ap, sym, ◌∙◌, subst, arith, All, IfSome, Result, Ok, Err, OnOk, OnErr, append_assoc}
use Rattle.std.specs.List.{sum_by}
use Rattle.std.proofs.lemmas.List.{drop_more}
use Rattle.std.proofs.lemmas.List.Elements.{All-head, All-tail, All-weaker, All-nil, All-cons, All-append, All-pop, All-more}
use Rattle.std.proofs.lemmas.List.Sums.{sum_by-cons, sum_by_push}
use Rattle.naga_oil_ir.specs.Rows.{Row}
use Rattle.naga_oil_ir.specs.ModuleValue.{ModuleValue}
use Rattle.naga_oil_ir.specs.declared.module.Module.{Module}
use Rattle.naga_oil_ir.specs.declared.names.ItemPlace.{ItemPlace}
use Rattle.naga_oil_derive.specs.Tree.{World}
use Rattle.naga_oil_derive.specs.World.{value_of, world, goes}
use Rattle.naga_oil_derive.specs.Collected.{depth}
use Rattle.naga_oil_derive.specs.Copying.{Goes, Puts, WentSomewhere, AreNames, IsThere, IsBelowItem, AreRanked, IsCopying, goes_under, rank}
use Rattle.naga_oil_derive.specs.Copied.{CopyState, copy_state, put, copy_item, copy_all}
use Rattle.naga_oil_derive.specs.Putting.{CanPut, Putting, NothingPut, ItemPut}
use Rattle.naga_oil_derive.specs.declared.maps.Maps.{Maps}
use Rattle.naga_oil_derive.specs.declared.copy.Waiting.{Waiting}
use Rattle.naga_oil_derive.specs.Waiting.{next_item, Waits, AreItemsWaiting, left_names, finish_item, finish_items, steps_of_name, steps_of_row, item_steps, waiting_steps}
use Rattle.naga_oil_derive.proofs.TreeLemmas.{puts_keeps}
use Rattle.naga_oil_derive.proofs.CollectLemmas.{Lowers}
use Rattle.naga_oil_derive.proofs.KindLaws.{value_kinds}
use Rattle.naga_oil_derive.proofs.PutLaws.{put_item}
use Rattle.naga_oil_derive.proofs.PuttingLemmas.{midway_of}
use Rattle.naga_oil_derive.proofs.CopiedLaws.{copied_again}
use Rattle.naga_oil_derive.proofs.CopiedLemmas.{fresh, lower}

-- ---- one name more

abbrev pub next : Waiting → Waiting
next w = record w { copied = w.copied + 1 }

pub left_next : (w : Waiting) (o : Option ItemPlace) → w.copied < length w.names.items → o ≡ get_or w.names.items w.copied o → left_names w ≡ o ∷ left_names (next w)
left_next w o l e = drop_more w.names.items w.copied o l ∙ ap (λ x. x ∷ left_names (next w)) (sym e)

pub finish_last : (m : ModuleValue) (shift : ℕ) (s : CopyState) (ws : List Waiting) (w : Waiting) → finish_items m shift s (ws ++ w ∷ []) ≡ finish_items m shift (finish_item m shift s w) ws
finish_last m shift s [] w = refl
finish_last m shift s (v ∷ ws) w = ap (λ u. finish_item m shift u v) (finish_last m shift s ws w)

-- what a name requires is copied
abbrev pub named : ModuleValue → ℕ → CopyState → Option ItemPlace → CopyState
named m shift s o = copy_all m shift s (o ∷ [])

copied_first : (m : ModuleValue) (shift : ℕ) (s : CopyState) (o : Option ItemPlace) (os : List (Option ItemPlace)) → copy_all m shift s (o ∷ os) ≡ copy_all m shift (named m shift s o) os
copied_first m shift s None os = refl
copied_first m shift s (Some p) os = refl

pub finish_next : (m : ModuleValue) (shift : ℕ) (s : CopyState) (w : Waiting) (o : Option ItemPlace) → left_names w ≡ o ∷ left_names (next w) → finish_item m shift s w ≡ finish_item m shift (named m shift s o) (next w)
finish_next m shift s w o e = ap (λ os. put m shift (copy_all m shift s os) w.item) e ∙ ap (λ u. put m shift u w.item) (copied_first m shift s o (left_names (next w)))

pub finish_none : (m : ModuleValue) (shift : ℕ) (s : CopyState) (w : Waiting) → length w.names.items ≤ w.copied → finish_item m shift s w ≡ put m shift s w.item
finish_none m shift s w l = ap (λ os. put m shift (copy_all m shift s os) w.item) (drop_of_length-le w.names.items l)

-- an item that is added to the waiting ones is to be copied
pub new_finish : (source : Module) (shift : ℕ) (s : CopyState) (w : Waiting) → AreRanked source → goes s.places w.item ≡ None → IsThere source w.item → AreNames (world (value_of source) w.item) w.names.items → w.copied ≡ 0 → finish_item (value_of source) shift s w ≡ copy_item (value_of source) shift s w.item
new_finish source shift s w a nowhere there names none =
    let m = value_of source in
    let t = copy_all m shift s w.names.items in
    ap (λ k. put m shift (copy_all m shift s (drop k w.names.items)) w.item) none ∙ fresh source shift a s t (put m shift t w.item) w.item w.names.items there false (sym (ap is_some nowhere)) refl names refl refl

-- ---- each item waits for those after it

pub waits_last : (source : Module) (g : Goes) (ws : List Waiting) (w : Waiting) → AreItemsWaiting source g (ws ++ w ∷ []) → Waits source g w []
waits_last source g [] w h = h.0
waits_last source g (v ∷ ws) w h = waits_last source g ws w h.1

abbrev IsLower : Module → Waiting → Waiting → Type 0
IsLower source w v = rank source v.item < rank source w.item

-- in the place of the last come others, of which it is the first, and none is higher
pub waits_more : (source : Module) (g : Goes) (ws : List Waiting) (w : Waiting) (vs : List Waiting) → next_item vs ≡ Some w.item → All (λ v. rank source v.item ≤ rank source w.item) vs → AreItemsWaiting source g vs → AreItemsWaiting source g (ws ++ w ∷ []) → AreItemsWaiting source g (ws ++ vs)
waits_more source g [] w vs e l a h = a
waits_more source g (x ∷ ws) w vs e l a h =
    let i = h.0 in
    let all = All-pop (IsLower source x) (ws ++ w ∷ []) ws (Some w) refl i.lower in
    let less : rank source w.item < rank source x.item = all.1 in
    let more : All (IsLower source x) vs = All-weaker (λ v. rank source v.item ≤ rank source w.item) (IsLower source x) (λ v k. omega (arith, k, less)) vs l in
    (record { there = i.there; names = i.names; nowhere = i.nowhere; copied = subst (λ o. All (λ n. WentSomewhere g n ⊎ (n ≡ o)) (take x.copied x.names.items)) (first_same ws) i.copied; lower = All-append (IsLower source x) ws vs all.0 more }, waits_more source g ws w vs e l a h.1)
  where
    first_same : (us : List Waiting) → next_item (us ++ w ∷ []) ≡ next_item (us ++ vs)
    first_same [] = sym e
    first_same (u ∷ us) = refl

same_item : (source : Module) (w v : Waiting) → IsLower source w v → w.item ≡ v.item → ⊥
same_item source w v l e = let same = ap (rank source) e in absurd (omega (arith, l, same))

-- the last one is put
pub waits_put : (source : Module) (g h : Goes) (ws : List Waiting) (w : Waiting) (q : ItemPlace) → Puts g h w.item q → AreItemsWaiting source g (ws ++ w ∷ []) → AreItemsWaiting source h ws
waits_put source g h [] w q p a = tt
waits_put source g h (x ∷ ws) w q p a =
    let i = a.0 in
    let last = waits_last source g ws w a.1 in
    let all = All-pop (IsLower source x) (ws ++ w ∷ []) ws (Some w) refl i.lower in
    (record { there = i.there; names = i.names; nowhere = p.others x.item (same_item source x w all.1) ∙ i.nowhere; copied = All-weaker (λ n. WentSomewhere g n ⊎ (n ≡ next_item (ws ++ w ∷ []))) (λ n. WentSomewhere h n ⊎ (n ≡ next_item ws)) (λ n k. went_on last.nowhere ws n k) (take x.copied x.names.items) i.copied; lower = all.0 }, waits_put source g h ws w q p a.1)
  where
    went_more : g w.item ≡ None → (o : Option ItemPlace) → WentSomewhere g o → WentSomewhere h o
    went_more f None k = tt
    went_more f (Some y) k = (k.0, puts_keeps g h w.item q f p y k.0 k.1)

    went_on : g w.item ≡ None → (us : List Waiting) (o : Option ItemPlace) → WentSomewhere g o ⊎ (o ≡ next_item (us ++ w ∷ [])) → WentSomewhere h o ⊎ (o ≡ next_item us)
    went_on f us o (inl k) = inl (went_more f o k)
    went_on f [] o (inr k) = inl (subst (WentSomewhere h) (sym k) (q, p.at))
    went_on f (u ∷ us) o (inr k) = inr k

-- with one more name, which is mapped or waits next
pub waits_next : (source : Module) (g : Goes) (w : Waiting) (o : Option ItemPlace) (vs : List Waiting) → Waits source g w [] → w.copied < length w.names.items → o ≡ get_or w.names.items w.copied o → WentSomewhere g o ⊎ (o ≡ next_item vs) → All (IsLower source w) vs → Waits source g (next w) vs
waits_next source g w o vs i l e h lower =
    let P = λ (n : Option ItemPlace). WentSomewhere g n ⊎ (n ≡ next_item vs) in
    let before = All-weaker (λ n. WentSomewhere g n ⊎ (n ≡ None)) P (λ n k. ⊎_elim inl (λ x. inl (subst (WentSomewhere g) (sym x) tt)) k) (take w.copied w.names.items) i.copied in
    record { there = i.there; names = i.names; nowhere = i.nowhere; copied = All-more P w.names.items w.copied o l before (subst P e h); lower = lower }

row_names : (source : Module) (g : Goes) (w : Waiting) (i : Waits source g w []) → w.names.items ≡ i.there.0.names
row_names source g w i = subst (λ x. AreNames x w.names.items) i.there.1 i.names

all_went : (source : Module) (g : Goes) (w : Waiting) → Waits source g w [] → length w.names.items ≤ w.copied → All (WentSomewhere g) w.names.items
all_went source g w i l =
    All-weaker (λ n. WentSomewhere g n ⊎ (n ≡ None)) (WentSomewhere g) (λ n k. ⊎_elim (λ x. x) (λ x. subst (WentSomewhere g) (sym x) tt) k) w.names.items (subst (All (λ n. WentSomewhere g n ⊎ (n ≡ None))) (take_all w.copied w.names.items l) i.copied)

-- what an item names is there, of lower rank
pub name_below : (source : Module) (g : Goes) (w : Waiting) (o : Option ItemPlace) → AreRanked source → Waits source g w [] → w.copied < length w.names.items → o ≡ get_or w.names.items w.copied o → IsBelowItem source w.item o
name_below source g w o a i l e =
    let all = subst (All (IsBelowItem source w.item)) (sym (row_names source g w i)) (a.names w.item i.there.0 i.there.1) in
    subst (IsBelowItem source w.item) (sym e) (all w.copied o l)

-- ---- an item is put

can_put : (source : Module) (s : CopyState) (w : Waiting) → Waits source (goes s.places) w [] → length w.names.items ≤ w.copied → CanPut (value_of source) s w.item
can_put source s w i l = record { row = i.there.0; there = i.there.1; nowhere = i.nowhere; names = subst (All (WentSomewhere (goes s.places))) (row_names source (goes s.places) w i) (all_went source (goes s.places) w i l) }

pub put_putting : (source t u : Module) (m n : Maps) (shift : ℕ) (w : Waiting) → Waits source (goes_under m) w [] → length w.names.items ≤ w.copied → copy_state n u ≡ put (value_of source) shift (copy_state m t) w.item → Putting (value_of source) shift (copy_state m t) (copy_state n u)
unfolding goes_under
put_putting source t u m n shift w i l e =
    let s = copy_state m t in
    ItemPut w.item (can_put source s w i l) (subst (Putting (value_of source) shift (put (value_of source) shift s w.item)) (sym e) NothingPut)

pub put_waits : (source t u : Module) (m n : Maps) (shift : ℕ) (ws : List Waiting) (w : Waiting) → IsCopying source t m → AreItemsWaiting source (goes_under m) (ws ++ w ∷ []) → length w.names.items ≤ w.copied → copy_state n u ≡ put (value_of source) shift (copy_state m t) w.item → AreItemsWaiting source (goes_under n) ws
unfolding goes_under
put_waits source t u m n shift ws w copying h l e =
    let v = value_of source in
    let s = copy_state m t in
    let x = put v shift s w.item in
    let i = waits_last source (goes s.places) ws w h in
    let mid = midway_of source t m copying in
    let c = can_put source s w i l in
    let one = put_item v shift s w.item c.row (record { source = value_kinds source; target = mid.kinds; roomy = mid.roomy; at = c.there; names = c.names }) in
    subst (λ (y : CopyState). AreItemsWaiting source (goes y.places) ws) (sym e) (waits_put source (goes s.places) (goes x.places) ws w one.place one.puts h)

-- ---- steps

same_steps : (rank : ItemPlace → ℕ) (b : ℕ) (f g : ItemPlace → ℕ) → ((p : ItemPlace) → rank p < b → f p ≡ g p) → (ps : List (Option ItemPlace)) → All (λ o. IfSome o (λ q. rank q < b)) ps → sum_by (steps_of_name f) ps ≡ sum_by (steps_of_name g) ps
same_steps rank b f g e [] a = refl
same_steps rank b f g e (None ∷ ps) a =
    let i = same_steps rank b f g e ps (All-tail (λ o. IfSome o (λ q. rank q < b)) None ps a) in
    sum_by-cons (steps_of_name f) None ps ∙ ap (λ n. 1 + n) i ∙ sym (sum_by-cons (steps_of_name g) None ps)
same_steps rank b f g e (Some p ∷ ps) a =
    let i = same_steps rank b f g e ps (All-tail (λ o. IfSome o (λ q. rank q < b)) (Some p) ps a) in
    let one = e p (All-head (λ o. IfSome o (λ q. rank q < b)) (Some p) ps a) in
    sum_by-cons (steps_of_name f) (Some p) ps ∙ ap (λ n. f p + n) i ∙ ap (λ n. n + sum_by (steps_of_name g) ps) one ∙ sym (sum_by-cons (steps_of_name g) (Some p) ps)

row_steps : (w : World) (rank : ItemPlace → ℕ) → Lowers w rank → (p : ItemPlace) (f g : ItemPlace → ℕ) → ((q : ItemPlace) → rank q < rank p → f q ≡ g q) → (o : Option Row) → w p ≡ o → steps_of_row f o ≡ steps_of_row g o
row_steps w rank l p f g e None at = refl
row_steps w rank l p f g e (Some r) at = ap (λ n. 2 + n) (same_steps rank (rank p) f g e r.names (l p r at))

enough_steps : (w : World) (rank : ItemPlace → ℕ) → Lowers w rank → (n k : ℕ) (p : ItemPlace) → rank p < n → rank p < k → item_steps n w p ≡ item_steps k w p
unfolding item_steps
enough_steps w rank l zero k p a b = absurd (omega arith)
enough_steps w rank l (suc n) zero p a b = absurd (omega arith)
enough_steps w rank l (suc n) (suc k) p a b = row_steps w rank l p (item_steps n w) (item_steps k w) (λ q h. enough_steps w rank l n k q (omega arith) (omega arith)) (w p) refl

steps_there : (source : Module) (p : ItemPlace) → AreRanked source → IsThere source p → item_steps (depth (value_of source)) (world (value_of source)) p ≡ steps_of_row (item_steps (depth (value_of source)) (world (value_of source))) (world (value_of source) p)
unfolding item_steps
steps_there source p a t =
    let m = value_of source in
    let l : Lowers (world m) (rank source) = λ q r at. All-weaker (IsBelowItem source q) (λ o. IfSome o (λ x. rank source x < rank source q)) (lower source q) r.names (a.names q r at) in
    let w = a.within p t in
    enough_steps (world m) (rank source) l (depth m) (suc (depth m)) p w (omega arith)

some_steps : (f : ItemPlace → ℕ) (o : Option Row) → 0 < steps_of_row f o
some_steps f None = omega arith
some_steps f (Some r) = omega arith

pub item_some : (n : ℕ) (w : World) (p : ItemPlace) → 0 < item_steps n w p
unfolding item_steps
item_some zero w p = omega arith
item_some (suc n) w p = some_steps (item_steps n w) (w p)

pub steps_next : (m : ModuleValue) (w : Waiting) (o : Option ItemPlace) → left_names w ≡ o ∷ left_names (next w) → waiting_steps m w ≡ waiting_steps m (next w) + steps_of_name (item_steps (depth m) (world m)) o
steps_next m w o e =
    let g = steps_of_name (item_steps (depth m) (world m)) in
    let a : sum_by g (left_names w) ≡ g o + sum_by g (left_names (next w)) = ap (sum_by g) e ∙ sum_by-cons g o (left_names (next w)) in
    omega (arith, a)

pub new_steps : (source : Module) (g : Goes) (w : Waiting) → AreRanked source → Waits source g w [] → w.copied ≡ 0 → waiting_steps (value_of source) w < item_steps (depth (value_of source)) (world (value_of source)) w.item
new_steps source g w a i none =
    let m = value_of source in
    let f = steps_of_name (item_steps (depth m) (world m)) in
    let own : waiting_steps m w ≡ 1 + sum_by f w.names.items = ap (λ k. 1 + sum_by f (drop k w.names.items)) none in
    let all : item_steps (depth m) (world m) w.item ≡ 2 + sum_by f w.names.items = steps_there source w.item a i.there ∙ ap (steps_of_row (item_steps (depth m) (world m))) i.there.1 ∙ ap (λ ns. 2 + sum_by f ns) (sym (row_names source g w i)) in
    omega (arith, own, all)

-- ---- a mapped name

named_gone : (m : ModuleValue) (shift : ℕ) (s : CopyState) (o : Option ItemPlace) → WentSomewhere (goes s.places) o → named m shift s o ≡ s
named_gone m shift s None w = refl
named_gone m shift s (Some p) w = copied_again m shift s p w

some_for : (n : ℕ) (w : World) (o : Option ItemPlace) → 0 < steps_of_name (item_steps n w) o
some_for n w None = omega arith
some_for n w (Some p) = item_some n w p

itself_lower : (source : Module) (w : Waiting) → All (λ (v : Waiting). rank source v.item ≤ rank source w.item) (next w ∷ [])
itself_lower source w = All-cons (λ (v : Waiting). rank source v.item ≤ rank source w.item) (next w) [] (omega arith) (All-nil (λ (v : Waiting). rank source v.item ≤ rank source w.item))

pub gone_waits : (source : Module) (g : Goes) (ws : List Waiting) (w : Waiting) (o : Option ItemPlace) → AreItemsWaiting source g (ws ++ w ∷ []) → w.copied < length w.names.items → o ≡ get_or w.names.items w.copied o → WentSomewhere g o → AreItemsWaiting source g (ws ++ next w ∷ [])
gone_waits source g ws w o h l e went =
    let i = waits_last source g ws w h in
    waits_more source g ws w (next w ∷ []) refl (itself_lower source w) (waits_next source g w o [] i l e (inl went) (All-nil (IsLower source w)), tt) h

pub gone_copied : (m : ModuleValue) (shift : ℕ) (s : CopyState) (ws : List Waiting) (w : Waiting) (o : Option ItemPlace) → left_names w ≡ o ∷ left_names (next w) → WentSomewhere (goes s.places) o → finish_items m shift s (ws ++ next w ∷ []) ≡ finish_items m shift (finish_item m shift s w) ws
gone_copied m shift s ws w o e went =
    finish_last m shift s ws (next w) ∙ ap (λ u. finish_items m shift u ws) (ap (λ u. finish_item m shift u (next w)) (sym (named_gone m shift s o went)) ∙ sym (finish_next m shift s w o e))

pub gone_fewer : (m : ModuleValue) (ws : List Waiting) (w : Waiting) (o : Option ItemPlace) → left_names w ≡ o ∷ left_names (next w) → sum_by (waiting_steps m) (ws ++ next w ∷ []) < sum_by (waiting_steps m) ws + waiting_steps m w
gone_fewer m ws w o e =
    let a = sum_by_push (waiting_steps m) ws (next w) in
    let b = steps_next m w o e in
    let k = some_for (depth m) (world m) o in
    omega (arith, a, b, k)

-- ---- one that waits next

pub more_waits : (source : Module) (g : Goes) (ws : List Waiting) (w v : Waiting) (o : Option ItemPlace) → AreRanked source → AreItemsWaiting source g (ws ++ w ∷ []) → w.copied < length w.names.items → o ≡ get_or w.names.items w.copied o → o ≡ Some v.item → Waits source g v [] → AreItemsWaiting source g ((ws ++ next w ∷ []) ++ v ∷ [])
more_waits source g ws w v o a h l e is new =
    let i = waits_last source g ws w h in
    let below : rank source v.item < rank source w.item = (subst (IsBelowItem source w.item) is (name_below source g w o a i l e)).1 in
    let P = λ (x : Waiting). rank source x.item ≤ rank source w.item in
    let ranks : All P (next w ∷ v ∷ []) = All-cons P (next w) (v ∷ []) (omega arith) (All-cons P v [] (omega (arith, below)) (All-nil P)) in
    let lower : All (IsLower source w) (v ∷ []) = All-cons (IsLower source w) v [] below (All-nil (IsLower source w)) in
    subst (AreItemsWaiting source g) (sym (append_assoc ws (next w ∷ []) (v ∷ []))) (waits_more source g ws w (next w ∷ v ∷ []) refl ranks (waits_next source g w o (v ∷ []) i l e (inr is) lower, (new, tt)) h)

pub more_copied : (source : Module) (shift : ℕ) (s : CopyState) (ws : List Waiting) (w v : Waiting) (o : Option ItemPlace) → AreRanked source → left_names w ≡ o ∷ left_names (next w) → o ≡ Some v.item → Waits source (goes s.places) v [] → v.copied ≡ 0 → finish_items (value_of source) shift s ((ws ++ next w ∷ []) ++ v ∷ []) ≡ finish_items (value_of source) shift (finish_item (value_of source) shift s w) ws
more_copied source shift s ws w v o a e is i none =
    let m = value_of source in
    let t = finish_item m shift s v in
    let new : t ≡ named m shift s o = new_finish source shift s v a i.nowhere i.there i.names none ∙ ap (named m shift s) (sym is) in
    finish_last m shift s (ws ++ next w ∷ []) v ∙ finish_last m shift t ws (next w) ∙ ap (λ u. finish_items m shift u ws) (ap (λ u. finish_item m shift u (next w)) new ∙ sym (finish_next m shift s w o e))

pub more_fewer : (source : Module) (g : Goes) (ws : List Waiting) (w v : Waiting) (o : Option ItemPlace) → AreRanked source → left_names w ≡ o ∷ left_names (next w) → o ≡ Some v.item → Waits source g v [] → v.copied ≡ 0 → sum_by (waiting_steps (value_of source)) ((ws ++ next w ∷ []) ++ v ∷ []) < sum_by (waiting_steps (value_of source)) ws + waiting_steps (value_of source) w
more_fewer source g ws w v o a e is i none =
    let m = value_of source in
    let f = steps_of_name (item_steps (depth m) (world m)) in
    let x = sum_by_push (waiting_steps m) (ws ++ next w ∷ []) v in
    let y = sum_by_push (waiting_steps m) ws (next w) in
    let b : waiting_steps m w ≡ waiting_steps m (next w) + item_steps (depth m) (world m) v.item = steps_next m w o e ∙ ap (λ p. waiting_steps m (next w) + f p) is in
    let k = new_steps source g v a i none in
    omega (arith, x, y, b, k)

-- ---- a requested item

pub there_if : (source : Module) (p : ItemPlace) (o : Option ItemPlace) → IsBelowItem source p o → IfSome o (IsThere source)
there_if source p None b = tt
there_if source p (Some q) b = b.0

pub put_either : {A B : Type 0} (r : Result A B) (source t u : Module) (m n : Maps) (shift : ℕ) (w : Waiting) → Waits source (goes_under m) w [] → length w.names.items ≤ w.copied → OnOk r (copy_state n u ≡ put (value_of source) shift (copy_state m t) w.item) → OnErr r ((u ≡ t) × (n ≡ m)) → Putting (value_of source) shift (copy_state m t) (copy_state n u)
put_either (Ok x) source t u m n shift w i l e f = put_putting source t u m n shift w i l e
put_either (Err x) source t u m n shift w i l e f = subst (Putting (value_of source) shift (copy_state m t)) (λ j. copy_state (sym f.1 j) (sym f.0 j)) NothingPut
