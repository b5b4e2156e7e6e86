-- Modules that read alike also read alike in another, where what says the same as a special type is that type.
use Rattle.std.proofs.Common.{◌≡◌, ℕ, zero, suc, ◌<◌, ◌==◌, ◌&&◌, if◌then◌else◌, Bool, true, false, List, [], ◌∷◌, map, Option, Some, None, option_map, IfSome, All, refl, ap, sym, ◌∙◌, subst, arith, Decides}
use Rattle.std.proofs.lemmas.Bool.{false≢true, and_parts}
use Rattle.std.proofs.lemmas.List.Elements.{All-head, All-tail, All-weaker, All-nil, All-cons}
use Rattle.naga_oil_ir.specs.ModuleValue.{ModuleValue, FunctionValue}
use Rattle.naga_oil_ir.specs.Rows.{Label, Row, Text}
use Rattle.naga_oil_ir.specs.declared.names.ItemPlace.{ItemPlace}
use Rattle.naga_oil_ir.specs.declared.names.ItemPlace.TheVariants.{TypeItem, ConstantItem, OverrideItem, GlobalItem, ExpressionItem}
use Rattle.naga_oil_ir.specs.declared.parts.Named.{Named}
use Rattle.naga_oil_ir.specs.declared.parts.Named.TheVariants.{Nothing, TypeOf, ConstantAt, OverrideAt, GlobalAt, LocalAt, ArgumentAt, FunctionAt}
use Rattle.naga_oil_ir.specs.declared.span.Span.{Span}
use Rattle.naga_oil_ir.specs.declared.tokens.Token.{Token}
use Rattle.naga_oil_ir.specs.declared.tokens.Token.TheVariants.{GiveCall, Callee}
use Rattle.naga_oil_form.proofs.LinkLemmas.{eqb_eq, eq_eqb}
use Rattle.naga_oil_rename.specs.Renames.{Renames}
use Rattle.naga_oil_derive.specs.declared.special.SpecialKey.{SpecialKey}
use Rattle.naga_oil_derive.specs.Collected.{depth}
use Rattle.naga_oil_derive.specs.CopiedLaw.{HasAt, IsRankedBy, IsBelowIn}
use Rattle.naga_oil_derive.specs.Copying.{IsWhole, IsSound}
use Rattle.naga_oil_derive.specs.Equal.{label_eq, row_eq}
use Rattle.naga_oil_derive.specs.Tree.{World, Tree, Trees, Cut, Absent, Missing, Item, End, Then, trees, row_tree, tree, kept_tree, reading}
use Rattle.naga_oil_derive.specs.World.{world, or_option, kept_in, kept_of, special_at, special_entries}
use Rattle.naga_oil_derive.proofs.EqualLemmas.{row_eq-decides}
use Rattle.naga_oil_derive.proofs.TreeLemmas.{same_place}
use Rattle.naga_oil_copy_laws.specs.Scope.{Scope, ReadAlike, CalledAlike}
use Rattle.naga_oil_copy_laws.specs.ByTree.{CopiesByTree, NamesAlike, callee_in}
use Rattle.naga_oil_link_laws.specs.KeptAlike.{same_tree, same_trees, kept_where, kept_alike}

-- ---- the test

abbrev bare : Label → Row
bare l = record { label = l; names = [] }

same_label : (a b : Label) → Decides (label_eq a b) (a ≡ b)
unfolding row_eq
same_label a b =
    let d = row_eq-decides (bare a) (bare b) in
    ((λ h. ap (λ (r : Row). r.label) (d.0 (ap (λ t. t && true) h))), (λ e. (and_parts (label_eq a b) true (d.1 (ap bare e))).0))

both_true : (a b : Bool) → a ≡ true → b ≡ true → (a && b) ≡ true
both_true a b x y = ap (λ t. t && b) x ∙ y

mutual
  tree_same : (t u : Tree) → same_tree t u ≡ true → t ≡ u
  tree_same Cut Cut h = refl
  tree_same Cut Absent h = absurd (false≢true h)
  tree_same Cut Missing h = absurd (false≢true h)
  tree_same Cut (Item b ys) h = absurd (false≢true h)
  tree_same Absent Cut h = absurd (false≢true h)
  tree_same Absent Absent h = refl
  tree_same Absent Missing h = absurd (false≢true h)
  tree_same Absent (Item b ys) h = absurd (false≢true h)
  tree_same Missing Cut h = absurd (false≢true h)
  tree_same Missing Absent h = absurd (false≢true h)
  tree_same Missing Missing h = refl
  tree_same Missing (Item b ys) h = absurd (false≢true h)
  tree_same (Item a xs) Cut h = absurd (false≢true h)
  tree_same (Item a xs) Absent h = absurd (false≢true h)
  tree_same (Item a xs) Missing h = absurd (false≢true h)
  tree_same (Item a xs) (Item b ys) h =
      let p = and_parts (label_eq a b) (same_trees xs ys) h in
      ap (λ l. Item l xs) ((same_label a b).0 p.0) ∙ ap (Item b) (trees_same xs ys p.1)

  trees_same : (xs ys : Trees) → same_trees xs ys ≡ true → xs ≡ ys
  trees_same End End h = refl
  trees_same End (Then y ys) h = absurd (false≢true h)
  trees_same (Then x xs) End h = absurd (false≢true h)
  trees_same (Then x xs) (Then y ys) h =
      let p = and_parts (same_tree x y) (same_trees xs ys) h in
      ap (λ t. Then t xs) (tree_same x y p.0) ∙ ap (Then y) (trees_same xs ys p.1)

mutual
  tree_itself : (t : Tree) → same_tree t t ≡ true
  tree_itself Cut = refl
  tree_itself Absent = refl
  tree_itself Missing = refl
  tree_itself (Item a xs) = both_true (label_eq a a) (same_trees xs xs) ((same_label a a).1 refl) (trees_itself xs)

  trees_itself : (xs : Trees) → same_trees xs xs ≡ true
  trees_itself End = refl
  trees_itself (Then x xs) = both_true (same_tree x x) (same_trees xs xs) (tree_itself x) (trees_itself xs)

is_same : (t u : Tree) → t ≡ u → same_tree t u ≡ true
is_same t u e = subst (λ x. same_tree t x ≡ true) e (tree_itself t)

bool_same : (a b : Bool) → (a ≡ true → b ≡ true) → (b ≡ true → a ≡ true) → a ≡ b
bool_same true true f g = refl
bool_same true false f g = sym (f refl)
bool_same false true f g = g refl
bool_same false false f g = refl

-- ---- items that read alike in two worlds

-- the item at q in v reads as the item at p in w, to every depth
abbrev pub Alike : World → World → ItemPlace → ItemPlace → Type 0
Alike v w p q = (n : ℕ) → tree n v q ≡ tree n w p

first_same : (s t : Tree) (ss ts : Trees) → Then s ss ≡ Then t ts → s ≡ t
first_same s t ss ts e = cc

rest_same : (s t : Tree) (ss ts : Trees) → Then s ss ≡ Then t ts → ss ≡ ts
rest_same s t ss ts e = cc

label_same : (l k : Label) (s t : Trees) → Item l s ≡ Item k t → l ≡ k
label_same l k s t e = cc

names_same : (l k : Label) (s t : Trees) → Item l s ≡ Item k t → s ≡ t
names_same l k s t e = cc

cut_absent : (v : World) (p : ItemPlace) → tree zero v p ≡ Absent → ⊥
unfolding tree
cut_absent v p e = cc

module _ (v w : World) where
  abbrev NamesAre : List (Option ItemPlace) → List (Option ItemPlace) → Type 0
  NamesAre qs ps = (n : ℕ) → trees (tree n v) qs ≡ trees (tree n w) ps

  -- what the items name reads alike by other readings, if those agree where items read alike
  names_alike : (f g : ItemPlace → Tree) → ((p q : ItemPlace) → Alike v w p q → f q ≡ g p) → (qs ps : List (Option ItemPlace)) → NamesAre qs ps → trees f qs ≡ trees g ps
  names_alike f g h [] [] a = refl
  names_alike f g h [] (p ∷ ps) a = let e = a zero in absurd cc
  names_alike f g h (q ∷ qs) [] a = let e = a zero in absurd cc
  names_alike f g h (None ∷ qs) (None ∷ ps) a = ap (Then Absent) (names_alike f g h qs ps (λ n. rest_same _ _ _ _ (a n)))
  names_alike f g h (None ∷ qs) (Some p ∷ ps) a = absurd (cut_absent w p (sym (first_same _ _ _ _ (a zero))))
  names_alike f g h (Some q ∷ qs) (None ∷ ps) a = absurd (cut_absent v q (first_same _ _ _ _ (a zero)))
  names_alike f g h (Some q ∷ qs) (Some p ∷ ps) a =
      ap (λ t. Then t (trees f qs)) (h p q (λ n. first_same _ _ _ _ (a n))) ∙ ap (Then (g p)) (names_alike f g h qs ps (λ n. rest_same _ _ _ _ (a n)))

  pub rows_alike : (f g : ItemPlace → Tree) → ((p q : ItemPlace) → Alike v w p q → f q ≡ g p) → (s r : Option Row) → ((n : ℕ) → row_tree (tree n v) s ≡ row_tree (tree n w) r) → row_tree f s ≡ row_tree g r
  rows_alike f g h None None a = refl
  rows_alike f g h None (Some r) a = let e = a zero in absurd cc
  rows_alike f g h (Some s) None a = let e = a zero in absurd cc
  rows_alike f g h (Some s) (Some r) a =
      ap (λ l. Item l (trees f s.names)) (label_same _ _ _ _ (a zero)) ∙ ap (Item r.label) (names_alike f g h s.names r.names (λ n. names_same _ _ _ _ (a n)))

  pub row_at : (p q : ItemPlace) → Alike v w p q → (n : ℕ) → row_tree (tree n v) (v q) ≡ row_tree (tree n w) (w p)
  unfolding tree
  row_at p q a n = a (suc n)

  -- ---- wholeness

  names_whole : (n : ℕ) → ((p q : ItemPlace) → Alike v w p q → IsWhole n w p → IsWhole n v q) → (qs ps : List (Option ItemPlace)) → NamesAre qs ps → All (λ o. IfSome o (IsWhole n w)) ps → All (λ o. IfSome o (IsWhole n v)) qs
  names_whole n h [] ps a i = All-nil (λ o. IfSome o (IsWhole n v))
  names_whole n h (q ∷ qs) [] a i = let e = a zero in absurd cc
  names_whole n h (None ∷ qs) (p ∷ ps) a i = All-cons (λ o. IfSome o (IsWhole n v)) None qs tt (names_whole n h qs ps (λ k. rest_same _ _ _ _ (a k)) (All-tail (λ o. IfSome o (IsWhole n w)) p ps i))
  names_whole n h (Some q ∷ qs) (None ∷ ps) a i = absurd (cut_absent v q (first_same _ _ _ _ (a zero)))
  names_whole n h (Some q ∷ qs) (Some p ∷ ps) a i =
      All-cons (λ o. IfSome o (IsWhole n v)) (Some q) qs (h p q (λ k. first_same _ _ _ _ (a k)) (All-head (λ o. IfSome o (IsWhole n w)) (Some p) ps i)) (names_whole n h qs ps (λ k. rest_same _ _ _ _ (a k)) (All-tail (λ o. IfSome o (IsWhole n w)) (Some p) ps i))

  row_whole : (n : ℕ) → ((p q : ItemPlace) → Alike v w p q → IsWhole n w p → IsWhole n v q) → (q : ItemPlace) (o : Option Row) → v q ≡ o → (r : Row) → ((k : ℕ) → row_tree (tree k v) o ≡ Item r.label (trees (tree k w) r.names)) → All (λ o. IfSome o (IsWhole n w)) r.names → (s : Row) × (v q ≡ Some s) × All (λ o. IfSome o (IsWhole n v)) s.names
  row_whole n h q None e r a i = let x = a zero in absurd cc
  row_whole n h q (Some s) e r a i = (s, e, names_whole n h s.names r.names (λ k. names_same _ _ _ _ (a k)) i)

  pub whole_alike : (n : ℕ) (p q : ItemPlace) → Alike v w p q → IsWhole n w p → IsWhole n v q
  unfolding IsWhole
  whole_alike zero p q a h = absurd h
  whole_alike (suc n) p q a h = row_whole n (whole_alike n) q (v q) refl h.0 (λ k. row_at p q a k ∙ ap (row_tree (tree k w)) h.1) h.2

-- an item with a rank below a depth is whole within that depth, also under other names
pub ranked_whole : (m : ModuleValue) (w : World) (rank : ItemPlace → ℕ) → IsRankedBy m rank → ((p : ItemPlace) (r : Row) → world m p ≡ Some r → (s : Row) × (w p ≡ Some s) × (s.names ≡ r.names)) → (n : ℕ) (p : ItemPlace) → HasAt m p → rank p < n → IsWhole n w p
unfolding IsWhole
ranked_whole m w rank by same zero p h l = absurd (omega (arith, l))
ranked_whole m w rank by same (suc n) p h l =
    let s = same p h.0 h.1 in
    (s.0, s.1, subst (λ ns. All (λ o. IfSome o (IsWhole n w)) ns) (sym s.2) (All-weaker (IsBelowIn m rank p) (λ o. IfSome o (IsWhole n w)) (below (λ q i k. ranked_whole m w rank by same n q i (omega (arith, k, l)))) h.0.names (by.names p h.0 h.1)))
  where
    below : ((q : ItemPlace) → HasAt m q → rank q < rank p → IsWhole n w q) → (o : Option ItemPlace) → IsBelowIn m rank p o → IfSome o (IsWhole n w)
    below f None i = tt
    below f (Some q) i = f q i.0 i.1

-- ---- special types

-- the special types of u, each of which reads as that of m for its key
pub record HasSpecialOf (w : World) (m u : ModuleValue) : Type 0 where
  pub sound : IsSound (world u)
  pub places : ℕ → ℕ
  pub entries : special_entries u.special_types ≡ map (λ (e : SpecialKey × ℕ). (e.0, places e.1)) (special_entries m.special_types)
  pub alike : All (λ (e : SpecialKey × ℕ). Alike (world u) w (TypeItem e.1) (TypeItem (places e.1))) (special_entries m.special_types)
  pub whole : All (λ (e : SpecialKey × ℕ). IsWhole (depth m) w (TypeItem e.1)) (special_entries m.special_types)

module _ (w : World) (m u t : ModuleValue) (h : HasSpecialOf w m u) where
  abbrev Entry : Type 0
  Entry = SpecialKey × ℕ

  abbrev size : ℕ
  size = depth m

  abbrev test : ItemPlace → ℕ → Bool
  test p k = same_tree (tree size w (TypeItem k)) (tree size w p)

  abbrev ReadsThere : Entry → Type 0
  ReadsThere e = Alike (world u) w (TypeItem e.1) (TypeItem (h.places e.1))

  abbrev WholeThere : Entry → Type 0
  WholeThere e = IsWhole size w (TypeItem e.1)

  -- what says the same as a special type stands where that is mapped
  says_same : (p q : ItemPlace) (e : Entry) → Alike (world u) w p q → ReadsThere e → WholeThere e → test p e.1 ≡ true → TypeItem (h.places e.1) ≡ q
  says_same p q e a r i s =
      same_place (world u) h.sound.once size (TypeItem (h.places e.1)) q (whole_alike (world u) w size (TypeItem e.1) (TypeItem (h.places e.1)) r i) (r size ∙ tree_same (tree size w (TypeItem e.1)) (tree size w p) s ∙ sym (a size))

  stands_same : (p q : ItemPlace) (e : Entry) → Alike (world u) w p q → ReadsThere e → TypeItem (h.places e.1) ≡ q → test p e.1 ≡ true
  stands_same p q e a r s = is_same (tree size w (TypeItem e.1)) (tree size w p) (sym (r size) ∙ ap (tree size (world u)) s ∙ a size)

  type_of : (j k : ℕ) → TypeItem j ≡ TypeItem k → j ≡ k
  type_of j k e = cc

  kept_type : (g : SpecialKey → Option ℕ) (p : ItemPlace) (k : ℕ) (es : List Entry) → Alike (world u) w p (TypeItem k) → All ReadsThere es → All WholeThere es → kept_in g (map (λ (e : Entry). (e.0, h.places e.1)) es) k ≡ kept_where (test p) g es
  kept_type g p k [] a r i = refl
  kept_type g p k (e ∷ es) a r i =
      let own = All-head ReadsThere e es r in
      let entire = All-head WholeThere e es i in
      let same : (h.places e.1 == k) ≡ test p e.1 = bool_same (h.places e.1 == k) (test p e.1) (λ s. stands_same p (TypeItem k) e a own (ap TypeItem (eqb_eq (h.places e.1) k s))) (λ s. eq_eqb (h.places e.1) k (type_of (h.places e.1) k (says_same p (TypeItem k) e a own entire s))) in
      ap (λ o. or_option o (if h.places e.1 == k then g e.0 else None)) (kept_type g p k es a (All-tail ReadsThere e es r) (All-tail WholeThere e es i)) ∙ ap (λ (b : Bool). or_option (kept_where (test p) g es) (if b then g e.0 else None)) same

  kept_nothing : (g : SpecialKey → Option ℕ) (p q : ItemPlace) (es : List Entry) → ((k : ℕ) → TypeItem k ≡ q → ⊥) → Alike (world u) w p q → All ReadsThere es → All WholeThere es → kept_where (test p) g es ≡ None
  kept_nothing g p q [] n a r i = refl
  kept_nothing g p q (e ∷ es) n a r i =
      ap (λ o. or_option o (if test p e.1 then g e.0 else None)) (kept_nothing g p q es n a (All-tail ReadsThere e es r) (All-tail WholeThere e es i)) ∙ one (test p e.1) refl
    where
      one : (b : Bool) → test p e.1 ≡ b → (if b then g e.0 else None) ≡ None
      one true s = absurd (n (h.places e.1) (says_same p q e a (All-head ReadsThere e es r) (All-head WholeThere e es i) s))
      one false s = refl

  -- items that read alike are kept alike
  kept_same : (p q : ItemPlace) → Alike (world u) w p q → kept_of u.special_types t.special_types q ≡ kept_alike w m t p
  unfolding kept_of kept_alike
  kept_same p (TypeItem k) a =
      ap (λ es. option_map TypeItem (kept_in (special_at t.special_types) es k)) h.entries ∙ ap (option_map TypeItem) (kept_type (special_at t.special_types) p k (special_entries m.special_types) a h.alike h.whole)
  kept_same p (ConstantItem k) a = ap (option_map TypeItem) (sym (kept_nothing (special_at t.special_types) p (ConstantItem k) (special_entries m.special_types) (λ j e. cc) a h.alike h.whole))
  kept_same p (OverrideItem k) a = ap (option_map TypeItem) (sym (kept_nothing (special_at t.special_types) p (OverrideItem k) (special_entries m.special_types) (λ j e. cc) a h.alike h.whole))
  kept_same p (GlobalItem k) a = ap (option_map TypeItem) (sym (kept_nothing (special_at t.special_types) p (GlobalItem k) (special_entries m.special_types) (λ j e. cc) a h.alike h.whole))
  kept_same p (ExpressionItem k) a = ap (option_map TypeItem) (sym (kept_nothing (special_at t.special_types) p (ExpressionItem k) (special_entries m.special_types) (λ j e. cc) a h.alike h.whole))

  -- ---- readings

  pub lifted : (n : ℕ) (p q : ItemPlace) → Alike (world u) w p q → reading n (world u) (world t) (kept_of u.special_types t.special_types) q ≡ reading n w (world t) (kept_alike w m t) p
  unfolding reading
  lifted zero p q a = refl
  lifted (suc n) p q a =
      let f = reading n (world u) (world t) (kept_of u.special_types t.special_types) in
      let g = reading n w (world t) (kept_alike w m t) in
      ap (λ o. kept_tree (tree (suc n) (world t)) o (row_tree f (world u q))) (kept_same p q a) ∙ ap (kept_tree (tree (suc n) (world t)) (kept_alike w m t p)) (rows_alike (world u) w f g (lifted n) (world u q) (w p) (row_at (world u) w p q a))

-- ---- copies in other scopes

module _ (s : Text → Text) (a b c d : Scope) (reads : (p q : ItemPlace) → ReadAlike a b p q → ReadAlike c d p q) (source : (k : ℕ) → c.function_name k ≡ a.function_name k) (target : (k : ℕ) → d.function_name k ≡ b.function_name k) where
  called_on : (k l : ℕ) → CalledAlike s a b k l → CalledAlike s c d k l
  called_on k l e = target l ∙ e ∙ ap s (sym (source k))

  named_on : (r : Renames) (n : Named) → NamesAlike s a b r n → NamesAlike s c d r n
  named_on r Nothing h = (tt, tt)
  named_on r (TypeOf k) h = (reads (TypeItem k) (TypeItem (r.ty k)) h.0, tt)
  named_on r (ConstantAt k) h = (reads (ConstantItem k) (ConstantItem (r.constant k)) h.0, tt)
  named_on r (OverrideAt k) h = (reads (OverrideItem k) (OverrideItem (r.pipeline_override k)) h.0, tt)
  named_on r (GlobalAt k) h = (reads (GlobalItem k) (GlobalItem (r.global k)) h.0, tt)
  named_on r (LocalAt k) h = (tt, tt)
  named_on r (ArgumentAt k) h = (tt, tt)
  named_on r (FunctionAt k) h = (tt, called_on k (r.function k) h.1)

  callee_on : (r : Renames) (x : Token) → IfSome (callee_in x) (λ k. CalledAlike s a b k (r.function k)) → IfSome (callee_in x) (λ k. CalledAlike s c d k (r.function k))
  callee_on r (Callee k) h = called_on k (r.function k) h
  callee_on r (GiveCall k i) h = called_on k (r.function k) h
  callee_on r _ h = tt

  -- a copy stays a copy if items that read alike still do, and functions keep their names
  pub copies_on : (m : Span → Span) (f g : FunctionValue) → CopiesByTree m s a f b g → CopiesByTree m s c f d g
  copies_on m f g w = record {
    goes = w.goes;
    name = w.name;
    arguments = w.arguments;
    outcome = w.outcome;
    locals = w.locals;
    body = w.body;
    spans = w.spans;
    expressions = w.expressions;
    emits = w.emits;
    names = w.names;
    alike = record {
      types = λ k h. reads (TypeItem k) (TypeItem (w.goes.ty k)) (w.alike.types k h);
      expressions = λ k e r at. named_on w.goes e.0.named (w.alike.expressions k e r at);
      callees = λ i x at. callee_on w.goes x (w.alike.callees i x at);
    };
    nothing_else = w.nothing_else;
  }
