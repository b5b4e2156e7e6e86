use Rattle.std.proofs.Common.{◌⊎◌, inl, inr, ⊎_elim, ◌≡◌, ℕ, zero, suc, ◌≤◌, ◌+◌, List, [], ◌∷◌, Option, Some, None, refl, ap, sym, ◌∙◌, subst, arith, All, IfSome}
use Rattle.std.specs.List.{AllZip}
use Rattle.std.proofs.lemmas.List.Elements.{All-head, All-tail, All-weaker, All-cons, All-nil}
use Rattle.std.proofs.lemmas.Bool.{cases_order}
use Rattle.naga_oil_ir.specs.declared.names.ItemPlace.{ItemPlace}
use Rattle.naga_oil_ir.specs.declared.names.ItemPlace.TheVariants.{TypeItem, ConstantItem, OverrideItem, GlobalItem, ExpressionItem}
use Rattle.naga_oil_ir.specs.Rows.{Label, Row}
use Rattle.naga_oil_derive.specs.Tree.{World, Tree, Trees, Absent, Item, Then, trees, row_tree, tree, kept_tree, reading}
use Rattle.naga_oil_derive.specs.Copying.{IsWhole, AreWhole, HasNoRepeats, Goes, NameGoesTo, IsCopyOf, AreCopied, IsSound, Puts, Fetches}

-- ---- equal trees are one item

Item-label : (l k : Label) (s t : Trees) → Item l s ≡ Item k t → l ≡ k
Item-label l k s t e = cc

Item-trees : (l k : Label) (s t : Trees) → Item l s ≡ Item k t → s ≡ t
Item-trees l k s t e = cc

Then-first : (s t : Tree) (ss tt : Trees) → Then s ss ≡ Then t tt → s ≡ t
Then-first s t ss us e = cc

Then-rest : (s t : Tree) (ss us : Trees) → Then s ss ≡ Then t us → ss ≡ us
Then-rest s t ss us e = cc

row_absent : (f : ItemPlace → Tree) (o : Option Row) → row_tree f o ≡ Absent → ⊥
row_absent f None e = cc
row_absent f (Some r) e = cc

-- what is there doesn't read as what is absent
tree_absent : (n : ℕ) (v : World) (p : ItemPlace) → tree n v p ≡ Absent → ⊥
unfolding tree
tree_absent zero v p e = cc
tree_absent (suc n) v p e = row_absent (tree n v) (v p) e

same_names : (n : ℕ) (v : World) → ((p q : ItemPlace) → IsWhole n v p → tree n v p ≡ tree n v q → p ≡ q) → (ps qs : List (Option ItemPlace)) → All (λ o. IfSome o (IsWhole n v)) ps → trees (tree n v) ps ≡ trees (tree n v) qs → ps ≡ qs
same_names n v f [] [] a e = refl
same_names n v f [] (q ∷ qs) a e = cc
same_names n v f (p ∷ ps) [] a e = cc
same_names n v f (None ∷ ps) (None ∷ qs) a e = ap (λ xs. None ∷ xs) (same_names n v f ps qs (All-tail (λ o. IfSome o (IsWhole n v)) None ps a) (Then-rest _ _ _ _ e))
same_names n v f (None ∷ ps) (Some q ∷ qs) a e = absurd (tree_absent n v q (sym (Then-first _ _ _ _ e)))
same_names n v f (Some p ∷ ps) (None ∷ qs) a e = absurd (tree_absent n v p (Then-first _ _ _ _ e))
same_names n v f (Some p ∷ ps) (Some q ∷ qs) a e =
    let h : p ≡ q = f p q (All-head (λ o. IfSome o (IsWhole n v)) (Some p) ps a) (Then-first _ _ _ _ e) in
    let t : ps ≡ qs = same_names n v f ps qs (All-tail (λ o. IfSome o (IsWhole n v)) (Some p) ps a) (Then-rest _ _ _ _ e) in
    cc

abbrev row : Label → List (Option ItemPlace) → Row
row l ps = record { label = l; names = ps }

same_row : (n : ℕ) (v : World) → ((p q : ItemPlace) → IsWhole n v p → tree n v p ≡ tree n v q → p ≡ q) → (r : Row) (o : Option Row) → All (λ o. IfSome o (IsWhole n v)) r.names → Item r.label (trees (tree n v) r.names) ≡ row_tree (tree n v) o → o ≡ Some r
same_row n v f r None a e = cc
same_row n v f r (Some s) a e =
    let l : r.label ≡ s.label = Item-label _ _ _ _ e in
    let t : r.names ≡ s.names = same_names n v f r.names s.names a (Item-trees _ _ _ _ e) in
    sym (ap (λ (x : Label). Some (row x r.names)) l ∙ ap (λ (x : List (Option ItemPlace)). Some (row s.label x)) t)

-- where no item stands twice, places that read alike are one place
pub same_place : (v : World) → HasNoRepeats v → (n : ℕ) (p q : ItemPlace) → IsWhole n v p → tree n v p ≡ tree n v q → p ≡ q
unfolding IsWhole tree
same_place v once zero p q h e = absurd h
same_place v once (suc n) p q h e =
    let is : Item h.0.label (trees (tree n v) h.0.names) ≡ row_tree (tree n v) (v q) = sym (ap (row_tree (tree n v)) h.1) ∙ e in
    once p q h.0 h.1 (same_row n v (same_place v once n) h.0 (v q) h.2 is)

-- ---- growth

name_weaker : (P Q : ItemPlace → Type 0) → ((p : ItemPlace) → P p → Q p) → (o : Option ItemPlace) → IfSome o P → IfSome o Q
name_weaker P Q f None h = h
name_weaker P Q f (Some p) h = f p h

names_weaker : (P Q : ItemPlace → Type 0) → ((p : ItemPlace) → P p → Q p) → (ps : List (Option ItemPlace)) → All (λ o. IfSome o P) ps → All (λ o. IfSome o Q) ps
names_weaker P Q f ps a = All-weaker (λ o. IfSome o P) (λ o. IfSome o Q) (name_weaker P Q f) ps a

pub IsWhole-later : (v u : World) → ((p : ItemPlace) (r : Row) → v p ≡ Some r → u p ≡ Some r) → (n : ℕ) (p : ItemPlace) → IsWhole n v p → IsWhole n u p
unfolding IsWhole
IsWhole-later v u f zero p h = h
IsWhole-later v u f (suc n) p h = (h.0, f p h.0 h.1, names_weaker (IsWhole n v) (IsWhole n u) (IsWhole-later v u f n) h.0.names h.2)

pub IsWhole-more : (v : World) (n m : ℕ) (p : ItemPlace) → n ≤ m → IsWhole n v p → IsWhole m v p
unfolding IsWhole
IsWhole-more v zero m p l h = absurd h
IsWhole-more v (suc n) zero p l h = absurd (omega arith)
IsWhole-more v (suc n) (suc m) p l h = (h.0, h.1, names_weaker (IsWhole n v) (IsWhole m v) (λ q. IsWhole-more v n m q (omega arith)) h.0.names h.2)

pub trees_same : (P : ItemPlace → Type 0) (f g : ItemPlace → Tree) → ((p : ItemPlace) → P p → f p ≡ g p) → (ps : List (Option ItemPlace)) → All (λ o. IfSome o P) ps → trees f ps ≡ trees g ps
trees_same P f g e [] a = refl
trees_same P f g e (None ∷ ps) a = ap (Then Absent) (trees_same P f g e ps (All-tail (λ o. IfSome o P) None ps a))
trees_same P f g e (Some p ∷ ps) a =
    let h : f p ≡ g p = e p (All-head (λ o. IfSome o P) (Some p) ps a) in
    let t : trees f ps ≡ trees g ps = trees_same P f g e ps (All-tail (λ o. IfSome o P) (Some p) ps a) in
    cc

-- what was there reads as before
pub tree-later : (v u : World) → ((p : ItemPlace) (r : Row) → v p ≡ Some r → u p ≡ Some r) → (k n : ℕ) (p : ItemPlace) → IsWhole k v p → tree n u p ≡ tree n v p
unfolding IsWhole tree
tree-later v u f zero n p h = absurd h
tree-later v u f (suc k) zero p h = refl
tree-later v u f (suc k) (suc n) p h =
    ap (row_tree (tree n u)) (f p h.0 h.1) ∙ ap (Item h.0.label) (trees_same (IsWhole k v) (tree n u) (tree n v) (λ q. tree-later v u f k n q) h.0.names h.2) ∙ sym (ap (row_tree (tree n v)) h.1)

-- ---- copies read as their sources

copied_trees : (m : Goes) (f g : ItemPlace → Tree) → ((p q : ItemPlace) → m p ≡ Some q → f q ≡ g p) → (ps qs : List (Option ItemPlace)) → AllZip (NameGoesTo m) ps qs → trees f qs ≡ trees g ps
copied_trees m f g e [] [] a = refl
copied_trees m f g e [] (q ∷ qs) a = absurd a
copied_trees m f g e (p ∷ ps) [] a = absurd a
copied_trees m f g e (None ∷ ps) (None ∷ qs) a = ap (Then Absent) (copied_trees m f g e ps qs a.1)
copied_trees m f g e (None ∷ ps) (Some q ∷ qs) a = absurd a.0
copied_trees m f g e (Some p ∷ ps) (None ∷ qs) a = absurd a.0
copied_trees m f g e (Some p ∷ ps) (Some q ∷ qs) a =
    let h : f q ≡ g p = e p q a.0 in
    let t : trees f qs ≡ trees g ps = copied_trees m f g e ps qs a.1 in
    cc

Some-inj : {A : Type 0} (a b : A) → Some a ≡ Some b → a ≡ b
Some-inj a b e = cc

reads_at : (w v : World) (kept m : Goes) → AreCopied w v kept m → (n : ℕ) → ((p q : ItemPlace) → m p ≡ Some q → tree n v q ≡ reading n w v kept p) → (p q : ItemPlace) → m p ≡ Some q → (o : Option ItemPlace) → kept p ≡ o → tree (suc n) v q ≡ kept_tree (tree (suc n) v) o (row_tree (reading n w v kept) (w p))
unfolding tree
reads_at w v kept m a n ih p q g (Some x) e = ap (tree (suc n) v) (Some-inj q x (sym g ∙ a.stand p x e))
reads_at w v kept m a n ih p q g None e =
    let k = a.known p q g in
    let s = a.each p q k.0 g e k.1 in
    let t : trees (tree n v) s.0.names ≡ trees (reading n w v kept) k.0.names = copied_trees m (tree n v) (reading n w v kept) ih k.0.names s.0.names s.2.names in
    let l : s.0.label ≡ k.0.label = s.2.label in
    let i : Item s.0.label (trees (tree n v) s.0.names) ≡ Item k.0.label (trees (reading n w v kept) k.0.names) = cc in
    ap (row_tree (tree n v)) s.1 ∙ i ∙ sym (ap (row_tree (reading n w v kept)) k.1)

-- each copy reads as its source
pub reads : (w v : World) (kept m : Goes) → AreCopied w v kept m → (n : ℕ) (p q : ItemPlace) → m p ≡ Some q → tree n v q ≡ reading n w v kept p
unfolding tree reading
reads w v kept m a zero p q g = refl
reads w v kept m a (suc n) p q g = reads_at w v kept m a n (reads w v kept m a n) p q g (kept p) refl

-- ---- one item more

IfWhole_some : (v : World) (o : Option ItemPlace) → IfSome o (λ p. (n : ℕ) × IsWhole n v p) → (n : ℕ) × IfSome o (IsWhole n v)
IfWhole_some v None h = (0, h)
IfWhole_some v (Some p) h = h

whole_bound : (v : World) (ps : List (Option ItemPlace)) → All (λ o. IfSome o (λ p. (n : ℕ) × IsWhole n v p)) ps → (n : ℕ) × All (λ o. IfSome o (IsWhole n v)) ps
whole_bound v [] a = (0, All-nil (λ o. IfSome o (IsWhole 0 v)))
whole_bound v (o ∷ ps) a =
    let h = IfWhole_some v o (All-head (λ o. IfSome o (λ p. (n : ℕ) × IsWhole n v p)) o ps a) in
    let t = whole_bound v ps (All-tail (λ o. IfSome o (λ p. (n : ℕ) × IsWhole n v p)) o ps a) in
    (h.0 + t.0, All-cons (λ o. IfSome o (IsWhole (h.0 + t.0) v)) o ps (name_weaker (IsWhole h.0 v) (IsWhole (h.0 + t.0) v) (λ q. IsWhole-more v h.0 (h.0 + t.0) q (omega arith)) o h.1) (names_weaker (IsWhole t.0 v) (IsWhole (h.0 + t.0) v) (λ q. IsWhole-more v t.0 (h.0 + t.0) q (omega arith)) ps t.1))

once_step : (v u : World) (s : Row) (q : ItemPlace) → IsSound v → Fetches v u s q → (x y : ItemPlace) (r : Row) → u x ≡ Some r → u y ≡ Some r → (v x ≡ Some r) ⊎ ((x ≡ q) × ((z : ItemPlace) → v z ≡ Some s → ⊥)) → (v y ≡ Some r) ⊎ ((y ≡ q) × ((z : ItemPlace) → v z ≡ Some s → ⊥)) → x ≡ y
once_step v u s q i f x y r e g (inl a) (inl b) = i.once x y r a b
once_step v u s q i f x y r e g (inl a) (inr b) =
    let rs : r ≡ s = Some-inj r s (sym g ∙ ap u b.0 ∙ f.at) in
    absurd (b.1 x (a ∙ ap Some rs))
once_step v u s q i f x y r e g (inr a) (inl b) =
    let rs : r ≡ s = Some-inj r s (sym e ∙ ap u a.0 ∙ f.at) in
    absurd (a.1 y (b ∙ ap Some rs))
once_step v u s q i f x y r e g (inr a) (inr b) = a.0 ∙ sym b.0

pub same_number : (a b : ℕ) → (a ≡ b) ⊎ (a ≡ b → ⊥)
same_number a b = ⊎_elim inl (λ o. inr (λ e. ⊎_elim (λ l. omega arith) (λ l. omega arith) o)) (cases_order a b)

pub same_or_not : (x p : ItemPlace) → (x ≡ p) ⊎ (x ≡ p → ⊥)
same_or_not (TypeItem a) (TypeItem b) = ⊎_elim (λ e. inl (ap TypeItem e)) (λ e. inr (λ h. e (let i : a ≡ b = cc in i))) (same_number a b)
same_or_not (ConstantItem a) (ConstantItem b) = ⊎_elim (λ e. inl (ap ConstantItem e)) (λ e. inr (λ h. e (let i : a ≡ b = cc in i))) (same_number a b)
same_or_not (OverrideItem a) (OverrideItem b) = ⊎_elim (λ e. inl (ap OverrideItem e)) (λ e. inr (λ h. e (let i : a ≡ b = cc in i))) (same_number a b)
same_or_not (GlobalItem a) (GlobalItem b) = ⊎_elim (λ e. inl (ap GlobalItem e)) (λ e. inr (λ h. e (let i : a ≡ b = cc in i))) (same_number a b)
same_or_not (ExpressionItem a) (ExpressionItem b) = ⊎_elim (λ e. inl (ap ExpressionItem e)) (λ e. inr (λ h. e (let i : a ≡ b = cc in i))) (same_number a b)
same_or_not _ _ = inr (λ h. cc)

none_some : (q : ItemPlace) → None ≡ Some q → ⊥
none_some q e = cc

pub puts_keeps : (m n : Goes) (p q : ItemPlace) → m p ≡ None → Puts m n p q → (x y : ItemPlace) → m x ≡ Some y → n x ≡ Some y
puts_keeps m n p q fresh put x y g = put.others x (λ e. none_some y (sym fresh ∙ ap m (sym e) ∙ g)) ∙ g

NameGoesTo-later : (m n : Goes) → ((x y : ItemPlace) → m x ≡ Some y → n x ≡ Some y) → (o k : Option ItemPlace) → NameGoesTo m o k → NameGoesTo n o k
NameGoesTo-later m n g None None h = tt
NameGoesTo-later m n g None (Some y) h = h
NameGoesTo-later m n g (Some x) None h = h
NameGoesTo-later m n g (Some x) (Some y) h = g x y h

AllZip-weaker : {X Y : Type 0} (R S : X → Y → Type 0) → ((x : X) (y : Y) → R x y → S x y) → (xs : List X) (ys : List Y) → AllZip R xs ys → AllZip S xs ys
AllZip-weaker R S f [] [] h = tt
AllZip-weaker R S f [] (y ∷ ys) h = h
AllZip-weaker R S f (x ∷ xs) [] h = h
AllZip-weaker R S f (x ∷ xs) (y ∷ ys) h = (f x y h.0, AllZip-weaker R S f xs ys h.1)

pub IsCopyOf-later : (m n : Goes) → ((x y : ItemPlace) → m x ≡ Some y → n x ≡ Some y) → (r s : Row) → IsCopyOf m r s → IsCopyOf n r s
IsCopyOf-later m n g r s c = record { label = c.label; names = AllZip-weaker (NameGoesTo m) (NameGoesTo n) (NameGoesTo-later m n g) r.names s.names c.names }

names_whole : (w v : World) (kept m : Goes) → AreCopied w v kept m → AreWhole v → (ps qs : List (Option ItemPlace)) → AllZip (NameGoesTo m) ps qs → All (λ o. IfSome o (λ p. (n : ℕ) × IsWhole n v p)) qs
names_whole w v kept m a h [] [] z = All-nil (λ o. IfSome o (λ p. (n : ℕ) × IsWhole n v p))
names_whole w v kept m a h [] (q ∷ qs) z = absurd z
names_whole w v kept m a h (p ∷ ps) [] z = absurd z
names_whole w v kept m a h (None ∷ ps) (None ∷ qs) z = All-cons (λ o. IfSome o (λ p. (n : ℕ) × IsWhole n v p)) None qs tt (names_whole w v kept m a h ps qs z.1)
names_whole w v kept m a h (None ∷ ps) (Some q ∷ qs) z = absurd z.0
names_whole w v kept m a h (Some p ∷ ps) (None ∷ qs) z = absurd z.0
names_whole w v kept m a h (Some p ∷ ps) (Some q ∷ qs) z =
    let t = a.there p q z.0 in
    All-cons (λ o. IfSome o (λ p. (n : ℕ) × IsWhole n v p)) (Some q) qs (h q t.0 t.1) (names_whole w v kept m a h ps qs z.1)

later_bound : (v u : World) → ((p : ItemPlace) (r : Row) → v p ≡ Some r → u p ≡ Some r) → (p : ItemPlace) → ((n : ℕ) × IsWhole n v p) → (n : ℕ) × IsWhole n u p
later_bound v u f p h = (h.0, IsWhole-later v u f h.0 p h.1)

-- an item at hand, whose names are whole, is whole
row_whole : (v : World) (p : ItemPlace) (s : Row) → v p ≡ Some s → All (λ o. IfSome o (λ p. (n : ℕ) × IsWhole n v p)) s.names → (n : ℕ) × IsWhole n v p
unfolding IsWhole
row_whole v p s e a = let b = whole_bound v s.names a in (suc b.0, (s, e, b.1))

-- the target stays sound
pub IsSound-step : (v u : World) (s : Row) (q : ItemPlace) → IsSound v → Fetches v u s q → All (λ o. IfSome o (λ p. (n : ℕ) × IsWhole n v p)) s.names → IsSound u
IsSound-step v u s q i f a =
    let later = names_weaker (λ p. (n : ℕ) × IsWhole n v p) (λ p. (n : ℕ) × IsWhole n u p) (later_bound v u f.stays) s.names a in
    record {
      whole = λ p r e. ⊎_elim (λ w. later_bound v u f.stays p (i.whole p r w)) (λ w. subst (λ x. (n : ℕ) × IsWhole n u x) (sym w.0) (row_whole u q s f.at later)) (f.only p r e);
      once = λ x y r e g. once_step v u s q i f x y r e g (f.only x r e) (f.only y r g);
    }

each_step : (w v u : World) (kept m n : Goes) (p q : ItemPlace) (r s : Row) → AreCopied w v kept m → Puts m n p q → m p ≡ None → kept p ≡ None → w p ≡ Some r → IsCopyOf m r s → Fetches v u s q → (x y : ItemPlace) → n x ≡ Some y → (x ≡ p) ⊎ (x ≡ p → ⊥) → (kept x ≡ None) → (k : Row) → w x ≡ Some k → (t : Row) × (u y ≡ Some t) × IsCopyOf n k t
each_step w v u kept m n p q r s a put fresh free is copy f x y g (inl e) nk k at =
    let qy : q ≡ y = Some-inj q y (sym put.at ∙ ap n (sym e) ∙ g) in
    let rk : r ≡ k = Some-inj r k (sym is ∙ ap w (sym e) ∙ at) in
    (s, subst (λ z. u z ≡ Some s) qy f.at, subst (λ z. IsCopyOf n z s) rk (IsCopyOf-later m n (puts_keeps m n p q fresh put) r s copy))
each_step w v u kept m n p q r s a put fresh free is copy f x y g (inr e) nk k at =
    let was : m x ≡ Some y = sym (put.others x e) ∙ g in
    let t = a.each x y k was nk at in
    (t.0, f.stays y t.0 t.1, IsCopyOf-later m n (puts_keeps m n p q fresh put) k t.0 t.2)

there_step : (v u : World) (m n : Goes) (p q : ItemPlace) (s : Row) → ((x y : ItemPlace) → m x ≡ Some y → (t : Row) × (v y ≡ Some t)) → Puts m n p q → Fetches v u s q → (x y : ItemPlace) → n x ≡ Some y → (x ≡ p) ⊎ (x ≡ p → ⊥) → (t : Row) × (u y ≡ Some t)
there_step v u m n p q s a put f x y g (inl e) =
    let qy : q ≡ y = Some-inj q y (sym put.at ∙ ap n (sym e) ∙ g) in
    (s, subst (λ z. u z ≡ Some s) qy f.at)
there_step v u m n p q s a put f x y g (inr e) =
    let t = a x y (sym (put.others x e) ∙ g) in
    (t.0, f.stays y t.0 t.1)

known_step : (w : World) (m n : Goes) (p q : ItemPlace) (r : Row) → w p ≡ Some r → ((x y : ItemPlace) → m x ≡ Some y → (t : Row) × (w x ≡ Some t)) → Puts m n p q → (x y : ItemPlace) → n x ≡ Some y → (x ≡ p) ⊎ (x ≡ p → ⊥) → (t : Row) × (w x ≡ Some t)
known_step w m n p q r is a put x y g (inl e) = (r, ap w e ∙ is)
known_step w m n p q r is a put x y g (inr e) = a x y (sym (put.others x e) ∙ g)

-- one copy more
pub AreCopied-step : (w v u : World) (kept m n : Goes) (p q : ItemPlace) (r s : Row) → AreCopied w v kept m → Puts m n p q → m p ≡ None → kept p ≡ None → w p ≡ Some r → IsCopyOf m r s → Fetches v u s q → AreCopied w u kept n
AreCopied-step w v u kept m n p q r s a put fresh free is copy f = record {
  stand = λ x y e. puts_keeps m n p q fresh put x y (a.stand x y e);
  each = λ x y k g nk at. each_step w v u kept m n p q r s a put fresh free is copy f x y g (same_or_not x p) nk k at;
  there = λ x y g. there_step v u m n p q s a.there put f x y g (same_or_not x p);
  known = λ x y g. known_step w m n p q r is a.known put x y g (same_or_not x p);
}

-- the copy is sound if its names map into a sound target
pub IsSound-copy : (w v u : World) (kept m : Goes) (r s : Row) (q : ItemPlace) → AreCopied w v kept m → IsSound v → IsCopyOf m r s → Fetches v u s q → IsSound u
IsSound-copy w v u kept m r s q a i c f = IsSound-step v u s q i f (names_whole w v kept m a i.whole r.names s.names c.names)

-- ---- setting a source, and renaming

-- more special types are kept, each at the place that it maps to
pub AreCopied-kept : (w v : World) (kept kept2 m : Goes) → AreCopied w v kept m → ((p q : ItemPlace) → kept2 p ≡ Some q → m p ≡ Some q) → ((p : ItemPlace) → kept2 p ≡ None → kept p ≡ None) → AreCopied w v kept2 m
AreCopied-kept w v kept kept2 m a s f = record {
  stand = s;
  each = λ p q r g nk e. a.each p q r g (f p nk) e;
  there = a.there;
  known = a.known;
}

-- the source reads otherwise, but not where something was copied
pub AreCopied-named : (w w2 v : World) (kept m : Goes) → AreCopied w v kept m → ((p q : ItemPlace) → m p ≡ Some q → w2 p ≡ w p) → AreCopied w2 v kept m
AreCopied-named w w2 v kept m a same = record {
  stand = a.stand;
  each = λ p q r g nk e. a.each p q r g nk (sym (same p q g) ∙ e);
  there = a.there;
  known = λ p q g. ((a.known p q g).0, same p q g ∙ (a.known p q g).1);
}

-- at the start the kept special types stand, and nothing else
pub AreCopied-start : (w v : World) (kept : Goes) → ((p q : ItemPlace) → kept p ≡ Some q → (s : Row) × (v q ≡ Some s)) → ((p q : ItemPlace) → kept p ≡ Some q → (r : Row) × (w p ≡ Some r)) → AreCopied w v kept kept
AreCopied-start w v kept there known = record {
  stand = λ p q e. e;
  each = λ p q r g nk e. absurd (none_some q (sym nk ∙ g));
  there = there;
  known = known;
}
