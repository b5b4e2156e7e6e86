use Rattle.std.proofs.Common.{Bool, true, false, ◌==◌, if◌then◌else◌, ◌⊎◌, inl, inr, ⊎_elim, ◌≡◌, ℕ, zero, suc, ◌<◌, ◌≤◌, List, [], ◌∷◌, ◌++◌, Option, Some, None, option_map, refl, ap, sym, ◌∙◌, subst, arith, All, IfSome}
use Rattle.std.specs.List.{AllZip}
use Rattle.std.proofs.lemmas.List.Elements.{All-head, All-tail}
use Rattle.naga_oil_ir.specs.Rows.{Row}
use Rattle.naga_oil_ir.specs.ModuleValue.{ModuleValue}
use Rattle.naga_oil_ir.specs.declared.span.Span.{Span}
use Rattle.naga_oil_ir.specs.declared.names.ItemPlace.{ItemPlace}
use Rattle.naga_oil_derive.specs.Tree.{World, Kept, Tree, Then, Absent, Item, tree, trees, row_tree, kept_tree, reading}
use Rattle.naga_oil_derive.specs.World.{world}
use Rattle.naga_oil_derive.specs.Collected.{names_trail, row_trail, kept_trail, reached, Stands, Collects, Done, Known, Fresh, Comes}
use Rattle.naga_oil_derive.specs.Copying.{IsWhole, Goes, NameGoesTo, AreCopied, IsSound, Fetches, rank}
use Rattle.naga_oil_derive.proofs.TreeLemmas.{reads, same_place, tree-later, trees_same}
use Rattle.naga_oil_form.proofs.LinkLemmas.{eqb_eq, eq_eqb}
use Rattle.naga_oil_ir.specs.declared.names.ItemPlace.TheVariants.{TypeItem, ConstantItem, OverrideItem, GlobalItem, ExpressionItem}
use Rattle.naga_oil_ir.specs.Rows.{Text}
use Rattle.naga_oil_rename.specs.Renames.{under_name}
use Rattle.naga_oil_derive.specs.World.{renamed_at}

pub Collects-append : {w : World} {kept : Kept} {spans : ItemPlace → Option Span} {v t u : ModuleValue} {xs : List ItemPlace} (ys : List ItemPlace) → Collects w kept spans v xs t → Collects w kept spans t ys u → Collects w kept spans v (xs ++ ys) u
Collects-append ys Done c = c
Collects-append ys (Known s d) c = Known s (Collects-append ys d c)
Collects-append ys (Fresh s d) c = Fresh s (Collects-append ys d c)

-- each of some places
abbrev pub EachPlace : (ItemPlace → Type 0) → List ItemPlace → Type 0
EachPlace P [] = Unit {0}
EachPlace P (p ∷ ps) = P p × EachPlace P ps

pub Collects-known : (w : World) (kept : Kept) (spans : ItemPlace → Option Span) (v : ModuleValue) (ps : List ItemPlace) → EachPlace (Stands w kept (world v)) ps → Collects w kept spans v ps v
Collects-known w kept spans v [] a = Done
Collects-known w kept spans v (p ∷ ps) a = Known a.0 (Collects-known w kept spans v ps a.1)

EachPlace-append : (P : ItemPlace → Type 0) (xs ys : List ItemPlace) → EachPlace P xs → EachPlace P ys → EachPlace P (xs ++ ys)
EachPlace-append P [] ys a b = b
EachPlace-append P (x ∷ xs) ys a b = (a.0, EachPlace-append P xs ys a.1 b)

stands : (w v : World) (kept m : Goes) → AreCopied w v kept m → (p q : ItemPlace) → m p ≡ Some q → Stands w kept v p
stands w v kept m a p q g = (q, a.there p q g, λ n. reads w v kept m a n p q g)

known_names : (w v : World) (kept m : Goes) (f : ItemPlace → List ItemPlace) → ((p q : ItemPlace) → m p ≡ Some q → EachPlace (Stands w kept v) (f p)) → (ps qs : List (Option ItemPlace)) → AllZip (NameGoesTo m) ps qs → EachPlace (Stands w kept v) (names_trail f ps)
known_names w v kept m f h [] [] z = tt
known_names w v kept m f h [] (q ∷ qs) z = tt
known_names w v kept m f h (p ∷ ps) [] z = absurd z
known_names w v kept m f h (None ∷ ps) (None ∷ qs) z = known_names w v kept m f h ps qs z.1
known_names w v kept m f h (None ∷ ps) (Some q ∷ qs) z = absurd z.0
known_names w v kept m f h (Some p ∷ ps) (None ∷ qs) z = absurd z.0
known_names w v kept m f h (Some p ∷ ps) (Some q ∷ qs) z = EachPlace-append (Stands w kept v) (f p) (names_trail f ps) (h p q z.0) (known_names w v kept m f h ps qs z.1)

known_at : (w v : World) (kept m : Goes) → AreCopied w v kept m → (n : ℕ) → ((p q : ItemPlace) → m p ≡ Some q → EachPlace (Stands w kept v) (reached n w kept p)) → (p q : ItemPlace) → m p ≡ Some q → (o : Option ItemPlace) → kept p ≡ o → EachPlace (Stands w kept v) (kept_trail o (row_trail (reached n w kept) (w p) ++ p ∷ []))
known_at w v kept m a n h p q g (Some x) e = tt
known_at w v kept m a n h p q g None e =
    let k = a.known p q g in
    let s = a.each p q k.0 g e k.1 in
    let t : EachPlace (Stands w kept v) (row_trail (reached n w kept) (w p)) = subst (λ o. EachPlace (Stands w kept v) (row_trail (reached n w kept) o)) (sym k.1) (known_names w v kept m (reached n w kept) h k.0.names s.0.names s.2.names) in
    EachPlace-append (Stands w kept v) (row_trail (reached n w kept) (w p)) (p ∷ []) t (stands w v kept m a p q g, tt)

-- all that a copied item reaches stands in the target
pub known_reached : (w v : World) (kept m : Goes) → AreCopied w v kept m → (n : ℕ) (p q : ItemPlace) → m p ≡ Some q → EachPlace (Stands w kept v) (reached n w kept p)
unfolding reached
known_reached w v kept m a zero p q g = tt
known_reached w v kept m a (suc n) p q g = known_at w v kept m a n (known_reached w v kept m a n) p q g (kept p) refl

-- copying an item again adds nothing
pub Collects-copied : (w : World) (v : ModuleValue) (kept m : Goes) (spans : ItemPlace → Option Span) → AreCopied w (world v) kept m → (n : ℕ) (p q : ItemPlace) → m p ≡ Some q → Collects w kept spans v (reached n w kept p) v
Collects-copied w v kept m spans a n p q g = Collects-known w kept spans v (reached n w kept p) (known_reached w (world v) kept m a n p q g)

-- ---- the trail doesn't depend on the depth

abbrev pub Lowers : World → (ItemPlace → ℕ) → Type 0
Lowers w rank = (p : ItemPlace) (r : Row) → w p ≡ Some r → All (λ o. IfSome o (λ q. rank q < rank p)) r.names

pub same_trails : (rank : ItemPlace → ℕ) (b : ℕ) (f g : ItemPlace → List ItemPlace) → ((p : ItemPlace) → rank p < b → f p ≡ g p) → (ps : List (Option ItemPlace)) → All (λ o. IfSome o (λ q. rank q < b)) ps → names_trail f ps ≡ names_trail g ps
same_trails rank b f g e [] a = refl
same_trails rank b f g e (None ∷ ps) a = same_trails rank b f g e ps (All-tail (λ o. IfSome o (λ q. rank q < b)) None ps a)
same_trails rank b f g e (Some p ∷ ps) a =
    let h : f p ≡ g p = e p (All-head (λ o. IfSome o (λ q. rank q < b)) (Some p) ps a) in
    let t : names_trail f ps ≡ names_trail g ps = same_trails rank b f g e ps (All-tail (λ o. IfSome o (λ q. rank q < b)) (Some p) ps a) in
    cc

same_row_trail : (w : World) (rank : ItemPlace → ℕ) → Lowers w rank → (p : ItemPlace) (f g : ItemPlace → List ItemPlace) → ((q : ItemPlace) → rank q < rank p → f q ≡ g q) → (o : Option Row) → w p ≡ o → row_trail f o ≡ row_trail g o
same_row_trail w rank l p f g e None at = refl
same_row_trail w rank l p f g e (Some r) at = same_trails rank (rank p) f g e r.names (l p r at)

pub reached-enough : (w : World) (kept : Kept) (rank : ItemPlace → ℕ) → Lowers w rank → (n m : ℕ) (p : ItemPlace) → rank p < n → rank p < m → reached n w kept p ≡ reached m w kept p
unfolding reached
reached-enough w kept rank l zero m p a b = absurd (omega arith)
reached-enough w kept rank l (suc n) zero p a b = absurd (omega arith)
reached-enough w kept rank l (suc n) (suc m) p a b = ap (λ t. kept_trail (kept p) (t ++ p ∷ [])) (same_row_trail w rank l p (reached n w kept) (reached m w kept) (λ q h. reached-enough w kept rank l n m q (omega arith) (omega arith)) (w p) refl)

-- ---- one copy more

trees_of : (f g : ItemPlace → Tree) → ((p : ItemPlace) → f p ≡ g p) → (ps : List (Option ItemPlace)) → trees f ps ≡ trees g ps
trees_of f g e [] = refl
trees_of f g e (None ∷ ps) = ap (Then Absent) (trees_of f g e ps)
trees_of f g e (Some p ∷ ps) = let h = e p in let t = trees_of f g e ps in cc

row_trees : (f g : ItemPlace → Tree) → ((p : ItemPlace) → f p ≡ g p) → (o : Option Row) → row_tree f o ≡ row_tree g o
row_trees f g e None = refl
row_trees f g e (Some r) = ap (Item r.label) (trees_of f g e r.names)

reading_at : (w v u : World) (kept : Kept) → ((p q : ItemPlace) → kept p ≡ Some q → (k : ℕ) × IsWhole k v q) → ((p : ItemPlace) (r : Row) → v p ≡ Some r → u p ≡ Some r) → (n : ℕ) → ((p : ItemPlace) → reading n w u kept p ≡ reading n w v kept p) → (p : ItemPlace) (o : Option ItemPlace) → kept p ≡ o → kept_tree (tree (suc n) u) o (row_tree (reading n w u kept) (w p)) ≡ kept_tree (tree (suc n) v) o (row_tree (reading n w v kept) (w p))
reading_at w v u kept h l n ih p None e = row_trees (reading n w u kept) (reading n w v kept) ih (w p)
reading_at w v u kept h l n ih p (Some q) e = let k = h p q e in tree-later v u l k.0 (suc n) q k.1

-- what reads by kept types reads the same later
pub reading-later : (w v u : World) (kept : Kept) → ((p q : ItemPlace) → kept p ≡ Some q → (k : ℕ) × IsWhole k v q) → ((p : ItemPlace) (r : Row) → v p ≡ Some r → u p ≡ Some r) → (n : ℕ) (p : ItemPlace) → reading n w u kept p ≡ reading n w v kept p
unfolding reading
reading-later w v u kept h l zero p = refl
reading-later w v u kept h l (suc n) p = reading_at w v u kept h l n (reading-later w v u kept h l n) p (kept p) refl

none_there : (r : Row) (q q2 : ItemPlace) (v : World) → q2 ≡ q → v q ≡ None → v q2 ≡ Some r → ⊥
none_there r q q2 v e f g = let a : v q ≡ Some r = sym (ap v e) ∙ g in cc

-- a copy that was appended reads as no item that was there
pub new_first : (w v u : World) (kept m n : Goes) (p q : ItemPlace) (s : Row) → AreCopied w v kept m → IsSound v → AreCopied w u kept n → IsSound u → n p ≡ Some q → Fetches v u s q → v q ≡ None → Stands w kept v p → ⊥
new_first w v u kept m n p q s a i b j g f free_place st =
    let q2 = st.0 in
    let wv = i.whole q2 st.1.0 st.1.1 in
    let wu = j.whole q2 st.1.0 (f.stays q2 st.1.0 st.1.1) in
    let k = wu.0 in
    let hk = λ (x y : ItemPlace) (e : kept x ≡ Some y). (let t = a.there x y (a.stand x y e) in i.whole y t.0 t.1) in
    let e : tree k u q2 ≡ tree k u q = tree-later v u f.stays wv.0 k q2 wv.1 ∙ st.2 k ∙ sym (reading-later w v u kept hk f.stays k p) ∙ sym (reads w u kept n b k p q g) in
    none_there st.1.0 q q2 v (same_place u j.once k q2 q wu.1 e) free_place st.1.1

pub others_of : (v u : World) (s : Row) (q : ItemPlace) → Fetches v u s q → (x : ItemPlace) (r : Row) → u x ≡ Some r → (v x ≡ Some r) ⊎ (x ≡ q)
others_of v u s q f x r e = ⊎_elim inl (λ n. inr n.0) (f.only x r e)

-- ---- requests

pub step_at : (w : World) (kept : Kept) (rank_of : ItemPlace → ℕ) → Lowers w rank_of → (d e : ℕ) → d ≡ suc e → (p : ItemPlace) (r : Row) → rank_of p < d → w p ≡ Some r → kept p ≡ None → names_trail (reached d w kept) r.names ++ p ∷ [] ≡ reached d w kept p
unfolding reached
step_at w kept rank_of l d e is p r bound at no_kept =
    let same = same_trails rank_of (rank_of p) (reached d w kept) (reached e w kept) (λ q h. reached-enough w kept rank_of l d e q (omega arith) (omega (arith, is))) r.names (l p r at) in
    ap (λ t. t ++ p ∷ []) (same ∙ sym (ap (row_trail (reached e w kept)) at)) ∙ sym (ap (λ o. kept_trail o (row_trail (reached e w kept) (w p) ++ p ∷ [])) no_kept) ∙ sym (ap (λ n. reached n w kept p) is)

-- ---- a source that reads otherwise, but not below a rank

row_agrees : (w : World) (rank_of : ItemPlace → ℕ) → Lowers w rank_of → (b : ℕ) (f g : ItemPlace → Tree) → ((q : ItemPlace) → rank_of q < b → f q ≡ g q) → (q : ItemPlace) → rank_of q < b → (o : Option Row) → w q ≡ o → row_tree f o ≡ row_tree g o
row_agrees w rank_of l b f g e q h None at = refl
row_agrees w rank_of l b f g e q h (Some r) at = ap (Item r.label) (trees_same (λ y. rank_of y < rank_of q) f g (λ y i. e y (omega (arith, h, i))) r.names (l q r at))

pub reading_agrees : (w x v : World) (kept : Kept) (rank_of : ItemPlace → ℕ) → Lowers w rank_of → (b : ℕ) → ((q : ItemPlace) → rank_of q < b → x q ≡ w q) → (n : ℕ) (q : ItemPlace) → rank_of q < b → reading n x v kept q ≡ reading n w v kept q
unfolding reading
reading_agrees w x v kept rank_of l b e zero q h = refl
reading_agrees w x v kept rank_of l b e (suc n) q h =
    ap (λ o. kept_tree (tree (suc n) v) (kept q) (row_tree (reading n x v kept) o)) (e q h) ∙ ap (kept_tree (tree (suc n) v) (kept q)) (row_agrees w rank_of l b (reading n x v kept) (reading n w v kept) (λ y i. reading_agrees w x v kept rank_of l b e n y i) q h (w q) refl)

pub reached_agrees : (w x : World) (kept : Kept) (rank_of : ItemPlace → ℕ) → Lowers w rank_of → (b : ℕ) → ((q : ItemPlace) → rank_of q < b → x q ≡ w q) → (n : ℕ) (q : ItemPlace) → rank_of q < b → reached n x kept q ≡ reached n w kept q
unfolding reached
reached_agrees w x kept rank_of l b e zero q h = refl
reached_agrees w x kept rank_of l b e (suc n) q h =
    ap (λ o. kept_trail (kept q) (row_trail (reached n x kept) o ++ q ∷ [])) (e q h) ∙ ap (λ t. kept_trail (kept q) (t ++ q ∷ [])) (same_row_trail w rank_of l q (reached n x kept) (reached n w kept) (λ y i. reached_agrees w x kept rank_of l b e n y (omega (arith, h, i))) (w q) refl)

-- what an item of some rank reaches has no higher rank
pub below_names : (rank_of : ItemPlace → ℕ) (b c : ℕ) (f : ItemPlace → List ItemPlace) → c ≤ b → ((q : ItemPlace) → rank_of q < b → EachPlace (λ y. rank_of y < b) (f q)) → (ps : List (Option ItemPlace)) → All (λ o. IfSome o (λ q. rank_of q < c)) ps → EachPlace (λ y. rank_of y < b) (names_trail f ps)
below_names rank_of b c f l h [] a = tt
below_names rank_of b c f l h (None ∷ ps) a = below_names rank_of b c f l h ps (All-tail (λ o. IfSome o (λ q. rank_of q < c)) None ps a)
below_names rank_of b c f l h (Some p ∷ ps) a =
    let i : rank_of p < c = All-head (λ o. IfSome o (λ q. rank_of q < c)) (Some p) ps a in
    EachPlace-append (λ y. rank_of y < b) (f p) (names_trail f ps) (h p (omega (arith, i, l))) (below_names rank_of b c f l h ps (All-tail (λ o. IfSome o (λ q. rank_of q < c)) (Some p) ps a))

below_row : (w : World) (rank_of : ItemPlace → ℕ) → Lowers w rank_of → (b : ℕ) (f : ItemPlace → List ItemPlace) → ((q : ItemPlace) → rank_of q < b → EachPlace (λ y. rank_of y < b) (f q)) → (q : ItemPlace) → rank_of q < b → (o : Option Row) → w q ≡ o → EachPlace (λ y. rank_of y < b) (row_trail f o)
below_row w rank_of l b f h q i None at = tt
below_row w rank_of l b f h q i (Some r) at = below_names rank_of b (rank_of q) f (omega (arith, i)) h r.names (l q r at)

below_kept : (rank_of : ItemPlace → ℕ) (b : ℕ) (o : Option ItemPlace) (ps : List ItemPlace) → EachPlace (λ y. rank_of y < b) ps → EachPlace (λ y. rank_of y < b) (kept_trail o ps)
below_kept rank_of b None ps h = h
below_kept rank_of b (Some q) ps h = tt

pub reached_below : (w : World) (kept : Kept) (rank_of : ItemPlace → ℕ) → Lowers w rank_of → (b n : ℕ) (q : ItemPlace) → rank_of q < b → EachPlace (λ y. rank_of y < b) (reached n w kept q)
unfolding reached
reached_below w kept rank_of l b zero q h = tt
reached_below w kept rank_of l b (suc n) q h = below_kept rank_of b (kept q) (row_trail (reached n w kept) (w q) ++ q ∷ []) (EachPlace-append (λ y. rank_of y < b) (row_trail (reached n w kept) (w q)) (q ∷ []) (below_row w rank_of l b (reached n w kept) (reached_below w kept rank_of l b n) q h (w q) refl) (h, tt))

stands_agrees : (w x v : World) (kept : Kept) (p : ItemPlace) → ((n : ℕ) → reading n x v kept p ≡ reading n w v kept p) → Stands w kept v p → Stands x kept v p
stands_agrees w x v kept p e s = (s.0, s.1, λ n. s.2 n ∙ sym (e n))

comes_agrees : (w x : World) (kept : Kept) (spans : ItemPlace → Option Span) (m n : ModuleValue) (p : ItemPlace) → ((v : World) (k : ℕ) → reading k x v kept p ≡ reading k w v kept p) → Comes w kept spans m n p → Comes x kept spans m n p
comes_agrees w x kept spans m n p e c = record {
  at = c.at;
  free = c.free;
  extends = c.extends;
  others = c.others;
  reads = λ k. c.reads k ∙ sym (e (world n) k);
  span = c.span;
  first = λ s. c.first (stands_agrees x w (world m) kept p (λ k. sym (e (world m) k)) s);
}

pub Collects-agrees : (w x : World) (kept : Kept) (spans : ItemPlace → Option Span) (P : ItemPlace → Type 0) → ((p : ItemPlace) → P p → (v : World) (k : ℕ) → reading k x v kept p ≡ reading k w v kept p) → {m n : ModuleValue} {ps : List ItemPlace} → EachPlace P ps → Collects w kept spans m ps n → Collects x kept spans m ps n
Collects-agrees w x kept spans P e h Done = Done
Collects-agrees w x kept spans P e {m} h (Known {p} s c) = Known (stands_agrees w x (world m) kept p (e p h.0 (world m)) s) (Collects-agrees w x kept spans P e h.1 c)
Collects-agrees w x kept spans P e {m} h (Fresh {l} {p} s c) = Fresh (comes_agrees w x kept spans m l p (e p h.0) s) (Collects-agrees w x kept spans P e h.1 c)

-- ---- a name that is given

pub renamed_here : (w : World) (k : ℕ) (n : Option Text) → renamed_at w k n (TypeItem k) ≡ option_map (under_name n) (w (TypeItem k))
unfolding renamed_at
renamed_here w k n = ap (λ b. if b then option_map (under_name n) (w (TypeItem k)) else w (TypeItem k)) (eq_eqb k k refl)

not_same : (b : Bool) (A : Type 0) → (b ≡ true → A) → (b ≡ false) ⊎ A
not_same true A f = inr (f refl)
not_same false A f = inl refl

pub renamed_there : (w : World) (k : ℕ) (n : Option Text) (p : ItemPlace) → (p ≡ TypeItem k → ⊥) → renamed_at w k n p ≡ w p
unfolding renamed_at
renamed_there w k n (TypeItem j) d = ⊎_elim (λ e. ap (λ b. if b then option_map (under_name n) (w (TypeItem j)) else w (TypeItem j)) e) (λ e. absurd (d (ap TypeItem e))) (not_same (j == k) (j ≡ k) (eqb_eq j k))
renamed_there w k n (ConstantItem j) d = refl
renamed_there w k n (OverrideItem j) d = refl
renamed_there w k n (GlobalItem j) d = refl
renamed_there w k n (ExpressionItem j) d = refl
