-- Places whose first occurrences are in a module's order.
use Rattle.std.proofs.Common.{◌≡◌, ⊎_elim, ◌⊎◌, inl, inr, ℕ, zero, suc, ◌+◌, ◌<◌, ◌≤◌, ◌==◌, Bool, true, false, ◌||◌, if◌then◌else◌, List, [], ◌∷◌, ◌++◌, length, Option, Some, None, option_map, slice_get, refl, ap, sym, ◌∙◌, subst, arith, append-nil, length-append}
use Rattle.std.specs.List.{flat_map, list_any, range_with_len}
use Rattle.std.proofs.lemmas.Bool.{cases_order}
use Rattle.std.proofs.lemmas.Grind.{flat_map-append}
use Rattle.std.proofs.lemmas.List.Sums.{fold-append}
use Rattle.std.proofs.lemmas.Option.{none-some, slice_get_within}
use Rattle.naga_oil_form.proofs.LinkLemmas.{or_left, or_right, eqb_eq, eq_eqb}
use Rattle.naga_oil_ir.specs.ModuleValue.{ModuleValue}
use Rattle.naga_oil_ir.specs.Parts.{Parts}
use Rattle.naga_oil_ir.specs.Rows.{Row, parts_row}
use Rattle.naga_oil_ir.specs.declared.names.ItemPlace.{ItemPlace}
use Rattle.naga_oil_ir.specs.declared.names.ItemPlace.TheVariants.{TypeItem, ConstantItem, OverrideItem, GlobalItem, ExpressionItem}
use Rattle.naga_oil_ir.specs.declared.span.Span.{Span}
use Rattle.naga_oil_derive.specs.CopiedLaw.{HasAt}
use Rattle.naga_oil_derive.specs.World.{world, Begins, Extends}
use Rattle.naga_oil_collected_laws.specs.ItemOrder.{with_first, firsts, type_number, constant_number, override_number, global_number, expression_number, CountUp, AreAllOf}

-- ---- numbers from 0 on

range_last : (a n j : ℕ) → a + n ≡ j → range_with_len a (suc n) ≡ range_with_len a n ++ j ∷ []
range_last a zero j e = let same : a ≡ j = omega (arith, e) in ap (λ k. k ∷ []) same
range_last a (suc n) j e = ap (λ ks. a ∷ ks) (range_last (a + 1) n j (omega (arith, e)))

abbrev is_it : ℕ → ℕ → Bool
is_it k = λ j. j == k

in_range : (a n k : ℕ) → a ≤ k → k < a + n → list_any (is_it k) (range_with_len a n) ≡ true
in_range a zero k l h = absurd (omega (arith, l, h))
in_range a (suc n) k l h =
    ⊎_elim
    (λ e. or_left (a == k) (list_any (is_it k) (range_with_len (a + 1) n)) (eq_eqb a k e))
    (λ o. ⊎_elim
    (λ less. or_right (a == k) (list_any (is_it k) (range_with_len (a + 1) n)) (in_range (a + 1) n k (omega (arith, less)) (omega (arith, h))))
    (λ more. absurd (omega (arith, more, l)))
    o)
    (cases_order a k)

false_of : (b : Bool) → (b ≡ true → ⊥) → b ≡ false
false_of true h = absurd (h refl)
false_of false h = refl

not_in_range : (a n k : ℕ) → a + n ≤ k → list_any (is_it k) (range_with_len a n) ≡ false
not_in_range a zero k l = refl
not_in_range a (suc n) k l =
    let other : (a == k) ≡ false = false_of (a == k) (λ e. let same = eqb_eq a k e in omega (arith, same, l)) in
    ap (λ b. b || list_any (is_it k) (range_with_len (a + 1) n)) other ∙ not_in_range (a + 1) n k (omega (arith, l))

-- ---- first occurrences

abbrev Counts : List ℕ → ℕ → Type 0
Counts ks n = firsts ks ≡ range_with_len 0 n

firsts_one : (ks : List ℕ) (k : ℕ) → firsts (ks ++ k ∷ []) ≡ with_first (firsts ks) k
firsts_one ks k = fold-append with_first [] ks (k ∷ [])

counts_known : (ks : List ℕ) (n k : ℕ) → Counts ks n → k < n → Counts (ks ++ k ∷ []) n
counts_known ks n k c l =
    let there : list_any (is_it k) (firsts ks) ≡ true = ap (list_any (is_it k)) c ∙ in_range 0 n k (omega arith) (omega (arith, l)) in
    firsts_one ks k ∙ ap (λ (b : Bool). if b then firsts ks else firsts ks ++ k ∷ []) there ∙ c

counts_new : (ks : List ℕ) (n : ℕ) → Counts ks n → Counts (ks ++ n ∷ []) (suc n)
counts_new ks n c =
    let new : list_any (is_it n) (firsts ks) ≡ false = ap (list_any (is_it n)) c ∙ not_in_range 0 n n (omega arith) in
    firsts_one ks n ∙ ap (λ (b : Bool). if b then firsts ks else firsts ks ++ n ∷ []) new ∙ ap (λ js. js ++ n ∷ []) c ∙ sym (range_last 0 n n (omega arith))

-- ---- places of one kind

-- whether a place is of a kind, whose places C makes
abbrev IsOf : (ItemPlace → List ℕ) → (ℕ → ItemPlace) → ItemPlace → Type 0
IsOf number C q = ((k : ℕ) × (q ≡ C k)) ⊎ (number q ≡ [])

no_number : (k : ℕ) → k ∷ [] ≡ [] → ⊥
no_number k e = cc

same_first : (j k : ℕ) → j ∷ [] ≡ k ∷ [] → j ≡ k
same_first j k e = cc

module _ (number : ItemPlace → List ℕ) (C : ℕ → ItemPlace) (has : (k : ℕ) → number (C k) ≡ k ∷ []) (is : (q : ItemPlace) → IsOf number C q) where
  one_more : (xs : List ItemPlace) (q : ItemPlace) (ys : List ℕ) → number q ≡ ys → flat_map number (xs ++ q ∷ []) ≡ flat_map number xs ++ ys
  one_more xs q ys e = flat_map-append number xs (q ∷ []) ∙ ap (λ zs. flat_map number xs ++ zs) (append-nil (number q) ∙ e)

  with_number : (xs : List ItemPlace) (q : ItemPlace) (k n : ℕ) → q ≡ C k → Counts (flat_map number xs ++ k ∷ []) n → CountUp number (xs ++ q ∷ []) n
  with_number xs q k n e c = subst (λ ks. Counts ks n) (sym (one_more xs q (k ∷ []) (ap number e ∙ has k))) c

  without_number : (xs : List ItemPlace) (q : ItemPlace) (n : ℕ) → number q ≡ [] → CountUp number xs n → CountUp number (xs ++ q ∷ []) n
  without_number xs q n e c = subst (λ ks. Counts ks n) (sym (one_more xs q [] e ∙ append-nil (flat_map number xs))) c

  same_place : (j k : ℕ) → C j ≡ C k → j ≡ k
  same_place j k e = same_first j k (sym (has j) ∙ ap number e ∙ has k)

  -- a place that stands already
  count_known : (xs : List ItemPlace) (q : ItemPlace) (n : ℕ) → CountUp number xs n → ((k : ℕ) → q ≡ C k → k < n) → CountUp number (xs ++ q ∷ []) n
  count_known xs q n c l = ⊎_elim (λ (o : (k : ℕ) × (q ≡ C k)). with_number xs q o.0 n o.1 (counts_known (flat_map number xs) n o.0 c (l o.0 o.1))) (λ e. without_number xs q n e c) (is q)

  -- a place that is new, where a kind has b items after it had a
  count_new : (xs : List ItemPlace) (q : ItemPlace) (a b : ℕ) → CountUp number xs a → a ≤ b → ((j : ℕ) → j < b → (j < a) ⊎ (C j ≡ q)) → ((k : ℕ) → q ≡ C k → (k < b) × (k < a → ⊥)) → CountUp number (xs ++ q ∷ []) b
  count_new xs q a b c l only new = ⊎_elim numbered unnumbered (is q)
    where
      numbered : (k : ℕ) × (q ≡ C k) → CountUp number (xs ++ q ∷ []) b
      numbered o =
          let k = o.0 in
          let n = new k o.1 in
          let at_end : (a < b → ⊥) ⊎ (a ≡ k) = ⊎_elim (λ e. inl (λ h. omega (arith, e, h))) (λ o2. ⊎_elim (λ h. ⊎_elim (λ i. absurd (omega (arith, i))) (λ e. inr (same_place a k (e ∙ o.1))) (only a h)) (λ h. inl (λ h2. omega (arith, h, h2))) o2) (cases_order a b) in
          let below : k < b = n.0 in
          let is_end : a ≡ k = ⊎_elim (λ no. ⊎_elim (λ e. absurd (n.1 (omega (arith, e, below)))) (λ o2. ⊎_elim (λ h. absurd (no h)) (λ h. absurd (omega (arith, h, l))) o2) (cases_order a b)) (λ e. e) at_end in
          let long : b ≡ suc a = ⊎_elim (λ e. sym e) (λ o2. ⊎_elim (λ h. absurd (⊎_elim (λ i. omega (arith, i)) (λ e. let two = same_place (suc a) k (e ∙ o.1) in omega (arith, two, is_end)) (only (suc a) h))) (λ h. absurd (omega (arith, h, below, is_end))) o2) (cases_order (suc a) b) in
          subst (CountUp number (xs ++ q ∷ [])) (sym long) (with_number xs q a (suc a) (o.1 ∙ ap C (sym is_end)) (counts_new (flat_map number xs) a c))

      unnumbered : number q ≡ [] → CountUp number (xs ++ q ∷ []) b
      unnumbered e =
          let other : (k : ℕ) → C k ≡ q → ⊥ = λ k i. no_number k (sym (has k) ∙ ap number i ∙ e) in
          let long : a ≡ b = ⊎_elim (λ s. s) (λ o. ⊎_elim (λ h. absurd (⊎_elim (λ i. omega (arith, i)) (λ i. other a i) (only a h))) (λ h. absurd (omega (arith, h, l))) o) (cases_order a b) in
          subst (CountUp number (xs ++ q ∷ [])) long (without_number xs q a e c)

-- ---- arenas

some_within : {A : Type 0} (f : A → Row) (xs : List A) (k : ℕ) (o : Option A) (r : Row) → slice_get xs k ≡ o → option_map f o ≡ Some r → k < length xs
some_within f xs k None r e h = absurd (none-some r h)
some_within f xs k (Some x) r e h = slice_get_within xs k x e

at_within : {A : Type 0} (xs : List A) (k : ℕ) → k < length xs → (x : A) × (slice_get xs k ≡ Some x)
at_within [] k l = absurd (omega (arith, l))
at_within (x ∷ xs) zero l = (x, refl)
at_within (x ∷ xs) (suc k) l = at_within xs k (omega (arith, l))

longer : {A : Type 0} (xs ys : List A) → Begins xs ys → length xs ≤ length ys
longer xs ys b = let long = ap length b.1 ∙ length-append xs b.0 in omega (arith, long)

-- what is new in a module is at a place that was free
pub record IsNewAt (t u : ModuleValue) (q : ItemPlace) : Type 0 where
  pub free : world t q ≡ None
  pub there : HasAt u q
  pub only : (x : ItemPlace) (r : Row) → world u x ≡ Some r → (world t x ≡ Some r) ⊎ (x ≡ q)

module _ (A : Type 0) (number : ItemPlace → List ℕ) (C : ℕ → ItemPlace) (has : (k : ℕ) → number (C k) ≡ k ∷ []) (is : (q : ItemPlace) → IsOf number C q) (arena : ModuleValue → List A) (f : A → Row) (reads : (t : ModuleValue) (k : ℕ) → world t (C k) ≡ option_map f (slice_get (arena t) k)) where
  stands_within : (t : ModuleValue) (k : ℕ) (r : Row) → world t (C k) ≡ Some r → k < length (arena t)
  stands_within t k r e = some_within f (arena t) k (slice_get (arena t) k) r refl (sym (reads t k) ∙ e)

  kind_known : (t : ModuleValue) (xs : List ItemPlace) (q : ItemPlace) → HasAt t q → CountUp number xs (length (arena t)) → CountUp number (xs ++ q ∷ []) (length (arena t))
  kind_known t xs q h c = count_known number C has is xs q (length (arena t)) c (λ k e. stands_within t k h.0 (ap (world t) (sym e) ∙ h.1))

  kind_new : (t u : ModuleValue) (xs : List ItemPlace) (q : ItemPlace) → Begins (arena t) (arena u) → IsNewAt t u q → CountUp number xs (length (arena t)) → CountUp number (xs ++ q ∷ []) (length (arena u))
  kind_new t u xs q begins n c = count_new number C has is xs q (length (arena t)) (length (arena u)) c (longer (arena t) (arena u) begins) each new
    where
      each : (j : ℕ) → j < length (arena u) → (j < length (arena t)) ⊎ (C j ≡ q)
      each j l =
          let x = at_within (arena u) j l in
          ⊎_elim (λ e. inl (stands_within t j (f x.0) e)) (λ e. inr e) (n.only (C j) (f x.0) (reads u j ∙ ap (option_map f) x.1))

      new : (k : ℕ) → q ≡ C k → (k < length (arena u)) × (k < length (arena t) → ⊥)
      new k e = (
        stands_within u k n.there.0 (ap (world u) (sym e) ∙ n.there.1),
        λ l. let x = at_within (arena t) k l in none-some (f x.0) (sym n.free ∙ ap (world t) e ∙ reads t k ∙ ap (option_map f) x.1),
      )

-- ---- the five kinds

abbrev first_of : Row × Span → Row
first_of e = e.0

abbrev parts_of : Parts × Span → Row
parts_of e = parts_row e.0

type_is : (q : ItemPlace) → IsOf type_number TypeItem q
type_is (TypeItem k) = inl (k, refl)
type_is (ConstantItem k) = inr refl
type_is (OverrideItem k) = inr refl
type_is (GlobalItem k) = inr refl
type_is (ExpressionItem k) = inr refl

constant_is : (q : ItemPlace) → IsOf constant_number ConstantItem q
constant_is (TypeItem k) = inr refl
constant_is (ConstantItem k) = inl (k, refl)
constant_is (OverrideItem k) = inr refl
constant_is (GlobalItem k) = inr refl
constant_is (ExpressionItem k) = inr refl

override_is : (q : ItemPlace) → IsOf override_number OverrideItem q
override_is (TypeItem k) = inr refl
override_is (ConstantItem k) = inr refl
override_is (OverrideItem k) = inl (k, refl)
override_is (GlobalItem k) = inr refl
override_is (ExpressionItem k) = inr refl

global_is : (q : ItemPlace) → IsOf global_number GlobalItem q
global_is (TypeItem k) = inr refl
global_is (ConstantItem k) = inr refl
global_is (OverrideItem k) = inr refl
global_is (GlobalItem k) = inl (k, refl)
global_is (ExpressionItem k) = inr refl

expression_is : (q : ItemPlace) → IsOf expression_number ExpressionItem q
expression_is (TypeItem k) = inr refl
expression_is (ConstantItem k) = inr refl
expression_is (OverrideItem k) = inr refl
expression_is (GlobalItem k) = inr refl
expression_is (ExpressionItem k) = inl (k, refl)

type_reads : (t : ModuleValue) (k : ℕ) → world t (TypeItem k) ≡ option_map first_of (slice_get t.types k)
unfolding world
type_reads t k = refl

constant_reads : (t : ModuleValue) (k : ℕ) → world t (ConstantItem k) ≡ option_map first_of (slice_get t.constants k)
unfolding world
constant_reads t k = refl

override_reads : (t : ModuleValue) (k : ℕ) → world t (OverrideItem k) ≡ option_map first_of (slice_get t.overrides k)
unfolding world
override_reads t k = refl

global_reads : (t : ModuleValue) (k : ℕ) → world t (GlobalItem k) ≡ option_map first_of (slice_get t.global_variables k)
unfolding world
global_reads t k = refl

expression_reads : (t : ModuleValue) (k : ℕ) → world t (ExpressionItem k) ≡ option_map parts_of (slice_get t.global_expressions k)
unfolding world
expression_reads t k = refl

pub all_known : (t : ModuleValue) (xs : List ItemPlace) (q : ItemPlace) → HasAt t q → AreAllOf t xs → AreAllOf t (xs ++ q ∷ [])
all_known t xs q h a = record {
  types = kind_known (Row × Span) type_number TypeItem (λ k. refl) type_is (λ v. v.types) first_of type_reads t xs q h a.types;
  constants = kind_known (Row × Span) constant_number ConstantItem (λ k. refl) constant_is (λ v. v.constants) first_of constant_reads t xs q h a.constants;
  overrides = kind_known (Row × Span) override_number OverrideItem (λ k. refl) override_is (λ v. v.overrides) first_of override_reads t xs q h a.overrides;
  globals = kind_known (Row × Span) global_number GlobalItem (λ k. refl) global_is (λ v. v.global_variables) first_of global_reads t xs q h a.globals;
  expressions = kind_known (Parts × Span) expression_number ExpressionItem (λ k. refl) expression_is (λ v. v.global_expressions) parts_of expression_reads t xs q h a.expressions;
}

pub all_new : (t u : ModuleValue) (xs : List ItemPlace) (q : ItemPlace) → Extends t u → IsNewAt t u q → AreAllOf t xs → AreAllOf u (xs ++ q ∷ [])
all_new t u xs q e n a = record {
  types = kind_new (Row × Span) type_number TypeItem (λ k. refl) type_is (λ v. v.types) first_of type_reads t u xs q e.types n a.types;
  constants = kind_new (Row × Span) constant_number ConstantItem (λ k. refl) constant_is (λ v. v.constants) first_of constant_reads t u xs q e.constants n a.constants;
  overrides = kind_new (Row × Span) override_number OverrideItem (λ k. refl) override_is (λ v. v.overrides) first_of override_reads t u xs q e.overrides n a.overrides;
  globals = kind_new (Row × Span) global_number GlobalItem (λ k. refl) global_is (λ v. v.global_variables) first_of global_reads t u xs q e.global_variables n a.globals;
  expressions = kind_new (Parts × Span) expression_number ExpressionItem (λ k. refl) expression_is (λ v. v.global_expressions) parts_of expression_reads t u xs q e.global_expressions n a.expressions;
}
