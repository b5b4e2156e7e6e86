-- A key before or after a row of an ordered table has its row, if any, among the rows before or after that row.
use Rattle.std.proofs.Common.{◌≡◌, ℕ, ◌-◌, ◌≤◌, Bool, true, false, cond, List, [], ◌∷◌, ◌++◌, length, get_or, take, drop, Some, None, refl, sym, ◌∙◌, ap, nat_eq, ◌&&◌, IsTrue, Bor, arith, map}
use Rattle.std.proofs.lemmas.List.{map-append, take_rest}
use Rattle.std.specs.Ordering.{nat_cmp, is_lt, is_eq, ordering_reverse}
use Rattle.std.specs.declared.cmp.Ordering.{Ordering}
use Rattle.std.specs.declared.cmp.Ordering.TheVariants.{Less, Equal, Greater}
use Rattle.std.specs.Cmp.{IsTotalOrder, unsigned_ties}
use Rattle.std.specs.Cmp.Lexicographic.{pointwise, slice_cmp, texts_ties}
use Rattle.std.specs.Option.{option_map}
use Rattle.std.specs.Map.{lookup}
use Rattle.std.proofs.lemmas.Cmp.{nat_list_cmp_total, nat_cmp_total}
use Rattle.std.proofs.lemmas.Bool.{and_parts, false≢true}
use Rattle.yettuvam_wgsl_names.specs.Table.{Name, rows, comes_before, is_ordered_by, is_ordered, meaning}

less : (o : Ordering) → is_lt o ≡ true → o ≡ Less
less Less h = refl
less Equal h = absurd (false≢true h)
less Greater h = absurd (false≢true h)

module _ {K : Type 0} (cmp : K → K → Ordering) (total : IsTotalOrder cmp) (test : K → K → Bool) (ties : (x y : K) → test x y ≡ is_eq (cmp x y)) where
  -- a key before another is not the same, either way round
  apart : (m n : K) → cmp m n ≡ Less → test m n ≡ false
  apart m n h = ties m n ∙ ap is_eq h

  apart_back : (m n : K) → cmp m n ≡ Less → test n m ≡ false
  apart_back m n h = ties n m ∙ ap is_eq (total.antisymm n m ∙ ap ordering_reverse h)

  module _ {V : Type 0} where
    ordered_front : (xs ys : List (K × V)) → is_ordered_by cmp (xs ++ ys) ≡ true → is_ordered_by cmp xs ≡ true
    ordered_front [] ys h = refl
    ordered_front (x ∷ []) ys h = refl
    ordered_front (x ∷ (y ∷ xs)) ys h =
        let parts = and_parts (is_lt (cmp x.0 y.0)) (is_ordered_by cmp ((y ∷ xs) ++ ys)) h in
        λ i. parts.0 i && ordered_front (y ∷ xs) ys parts.1 i

    ordered_back : (xs ys : List (K × V)) → is_ordered_by cmp (xs ++ ys) ≡ true → is_ordered_by cmp ys ≡ true
    ordered_back [] ys h = h
    ordered_back (x ∷ xs) ys h = ordered_back xs ys (and_parts (comes_before cmp x.0 (xs ++ ys)) (is_ordered_by cmp (xs ++ ys)) h).1

    later : (m n : K) (es : List (K × V)) → cmp m n ≡ Less → comes_before cmp n es ≡ true → comes_before cmp m es ≡ true
    later m n [] l h = refl
    later m n (e ∷ es) l h = ap is_lt (total.trans m n e.0 l (less (cmp n e.0) h))

    -- a name before the first row has no row
    absent : (n : K) (es : List (K × V)) → comes_before cmp n es ≡ true → is_ordered_by cmp es ≡ true → lookup (test n) es ≡ None
    absent n [] before ordered = refl
    absent n (e ∷ es) before ordered =
        let first = less (cmp n e.0) before in
        let parts = and_parts (comes_before cmp e.0 es) (is_ordered_by cmp es) ordered in
        ap (λ (b : Bool). cond b (Some e.1) (lookup (test n) es)) (apart n e.0 first) ∙ absent n es (later n e.0 es first parts.0) parts.1

    -- the first row comes before a row after it
    first_before : (x : K × V) (xs : List (K × V)) (e : K × V) (ys : List (K × V)) → is_ordered_by cmp (x ∷ (xs ++ e ∷ ys)) ≡ true → cmp x.0 e.0 ≡ Less
    first_before x [] e ys h = less (cmp x.0 e.0) (and_parts (is_lt (cmp x.0 e.0)) (is_ordered_by cmp (e ∷ ys)) h).0
    first_before x (y ∷ xs) e ys h =
        let parts = and_parts (is_lt (cmp x.0 y.0)) (is_ordered_by cmp (y ∷ (xs ++ e ∷ ys))) h in
        total.trans x.0 y.0 e.0 (less (cmp x.0 y.0) parts.0) (first_before y xs e ys parts.1)

    -- a name that all rows before a row come before has its row from there on
    skipped : (n : K) (xs : List (K × V)) (e : K × V) (ys : List (K × V)) → ((m : K) → cmp m e.0 ≡ Less → cmp m n ≡ Less) → is_ordered_by cmp (xs ++ e ∷ ys) ≡ true → lookup (test n) (xs ++ e ∷ ys) ≡ lookup (test n) (e ∷ ys)
    skipped n [] e ys after h = refl
    skipped n (x ∷ xs) e ys after h =
        let other = apart_back x.0 n (after x.0 (first_before x xs e ys h)) in
        let rest = ordered_back (x ∷ []) (xs ++ e ∷ ys) h in
        ap (λ (b : Bool). cond b (Some x.1) (lookup (test n) (xs ++ e ∷ ys))) other ∙ skipped n xs e ys after rest

    front_only : (n : K) (xs ys : List (K × V)) → lookup (test n) ys ≡ None → lookup (test n) (xs ++ ys) ≡ lookup (test n) xs
    front_only n [] ys h = h
    front_only n (x ∷ xs) ys h = ap (cond (test n x.0) (Some x.1)) (front_only n xs ys h)

    pub at_equal : (n : K) (xs : List (K × V)) (e : K × V) (ys : List (K × V)) → is_ordered_by cmp (xs ++ e ∷ ys) ≡ true → cmp n e.0 ≡ Equal → lookup (test n) (xs ++ e ∷ ys) ≡ Some e.1
    at_equal n xs e ys h same =
        let after : (m : K) → cmp m e.0 ≡ Less → cmp m n ≡ Less = λ m l. total.antisymm m n ∙ ap ordering_reverse (total.congr n e.0 m same ∙ total.antisymm e.0 m ∙ ap ordering_reverse l) in
        skipped n xs e ys after h ∙ ap (λ (b : Bool). cond b (Some e.1) (lookup (test n) ys)) (ties n e.0 ∙ ap is_eq same)

    pub at_less : (n : K) (xs : List (K × V)) (e : K × V) (ys : List (K × V)) → is_ordered_by cmp (xs ++ e ∷ ys) ≡ true → cmp n e.0 ≡ Less → (is_ordered_by cmp xs ≡ true) × (lookup (test n) xs ≡ lookup (test n) (xs ++ e ∷ ys))
    at_less n xs e ys h before =
        (ordered_front xs (e ∷ ys) h, sym (front_only n xs (e ∷ ys) (absent n (e ∷ ys) (ap is_lt before) (ordered_back xs (e ∷ ys) h))))

    pub at_greater : (n : K) (xs : List (K × V)) (e : K × V) (ys : List (K × V)) → is_ordered_by cmp (xs ++ e ∷ ys) ≡ true → cmp n e.0 ≡ Greater → (is_ordered_by cmp ys ≡ true) × (lookup (test n) ys ≡ lookup (test n) (xs ++ e ∷ ys))
    at_greater n xs e ys h after =
        let below : cmp e.0 n ≡ Less = total.antisymm e.0 n ∙ ap ordering_reverse after in
        let rest = ordered_back xs (e ∷ ys) h in
        let skip = skipped n xs e ys (λ m l. total.trans m e.0 n l below) h in
        (ordered_back (e ∷ []) ys rest, sym (skip ∙ ap (λ (b : Bool). cond b (Some e.1) (lookup (test n) ys)) (apart_back e.0 n below)))

    -- ---- an ordered table in two parts, the row between them first in the second part

    pub goes_front : (table front rest : List (K × V)) (d : K × V) (n : K) → table ≡ front ++ rest → 1 ≤ length rest → is_ordered_by cmp table ≡ true → cmp n (get_or rest 0 d).0 ≡ Less → (is_ordered_by cmp front ≡ true) × (lookup (test n) front ≡ lookup (test n) table)
    goes_front table front [] d n h long o before = absurd (omega arith)
    goes_front table front (e ∷ back) d n h long o before =
        let r = at_less n front e back (sym (ap (is_ordered_by cmp) h) ∙ o) before in
        (r.0, r.1 ∙ sym (ap (lookup (test n)) h))

    pub stays_here : (table front rest : List (K × V)) (d e : K × V) (n : K) → table ≡ front ++ rest → 1 ≤ length rest → is_ordered_by cmp table ≡ true → cmp n (get_or rest 0 d).0 ≡ Equal → Some (get_or rest 0 e).1 ≡ lookup (test n) table
    stays_here table front [] d e n h long o same = absurd (omega arith)
    stays_here table front (r ∷ back) d e n h long o same =
        sym (ap (lookup (test n)) h ∙ at_equal n front r back (sym (ap (is_ordered_by cmp) h) ∙ o) same)

    pub goes_back : (table front rest : List (K × V)) (d : K × V) (n : K) → table ≡ front ++ rest → 1 ≤ length rest → is_ordered_by cmp table ≡ true → cmp n (get_or rest 0 d).0 ≡ Greater → (is_ordered_by cmp (take (length rest - 1) (drop 1 rest)) ≡ true) × (lookup (test n) (take (length rest - 1) (drop 1 rest)) ≡ lookup (test n) table)
    goes_back table front [] d n h long o after = absurd (omega arith)
    goes_back table front (e ∷ back) d n h long o after =
        let r = at_greater n front e back (sym (ap (is_ordered_by cmp) h) ∙ o) after in
        let whole : take (length (e ∷ back) - 1) (drop 1 (e ∷ back)) ≡ back = take_rest (e ∷ back) 1 in
        (ap (is_ordered_by cmp) whole ∙ r.0, ap (lookup (test n)) whole ∙ r.1 ∙ sym (ap (lookup (test n)) h))

-- ---- the same of a table of names

abbrev by_bytes : Name → Name → Ordering
by_bytes m n = slice_cmp nat_cmp m n

module _ {V : Type 0} where
  divided : (table front : List (Bor Name × V)) (e : Bor Name × V) (back : List (Bor Name × V)) → table ≡ front ++ e ∷ back → rows table ≡ rows front ++ (e.0.now, e.1) ∷ rows back
  divided table front e back h = ap rows h ∙ map-append (λ (r : Bor Name × V). (r.0.now, r.1)) front (e ∷ back)

  pub name_goes_front : (table front rest : List (Bor Name × V)) (d : Bor Name × V) (n : Name) → table ≡ front ++ rest → 1 ≤ length rest → IsTrue (is_ordered (rows table)) → by_bytes n (get_or rest 0 d).0.now ≡ Less → IsTrue (is_ordered (rows front)) × (meaning (rows front) n ≡ meaning (rows table) n)
  name_goes_front table front [] d n h long o before = absurd (omega arith)
  name_goes_front table front (e ∷ back) d n h long o before =
      let parts = divided table front e back h in
      let r = at_less by_bytes nat_list_cmp_total (pointwise nat_eq) texts_ties n (rows front) (e.0.now, e.1) (rows back) (sym (ap is_ordered parts) ∙ o) before in
      (r.0, r.1 ∙ sym (ap (λ t. meaning t n) parts))

  pub name_stays_here : (table front rest : List (Bor Name × V)) (d e : Bor Name × V) (n : Name) → table ≡ front ++ rest → 1 ≤ length rest → IsTrue (is_ordered (rows table)) → by_bytes n (get_or rest 0 d).0.now ≡ Equal → Some (get_or rest 0 e).1 ≡ meaning (rows table) n
  name_stays_here table front [] d e n h long o same = absurd (omega arith)
  name_stays_here table front (r ∷ back) d e n h long o same =
      let parts = divided table front r back h in
      sym (ap (λ t. meaning t n) parts ∙ at_equal by_bytes nat_list_cmp_total (pointwise nat_eq) texts_ties n (rows front) (r.0.now, r.1) (rows back) (sym (ap is_ordered parts) ∙ o) same)

  pub name_goes_back : (table front rest : List (Bor Name × V)) (d : Bor Name × V) (n : Name) → table ≡ front ++ rest → 1 ≤ length rest → IsTrue (is_ordered (rows table)) → by_bytes n (get_or rest 0 d).0.now ≡ Greater → IsTrue (is_ordered (rows (take (length rest - 1) (drop 1 rest)))) × (meaning (rows (take (length rest - 1) (drop 1 rest))) n ≡ meaning (rows table) n)
  name_goes_back table front [] d n h long o after = absurd (omega arith)
  name_goes_back table front (e ∷ back) d n h long o after =
      let parts = divided table front e back h in
      let r = at_greater by_bytes nat_list_cmp_total (pointwise nat_eq) texts_ties n (rows front) (e.0.now, e.1) (rows back) (sym (ap is_ordered parts) ∙ o) after in
      let whole : take (length (e ∷ back) - 1) (drop 1 (e ∷ back)) ≡ back = take_rest (e ∷ back) 1 in
      (ap (λ b. is_ordered (rows b)) whole ∙ r.0, ap (λ b. meaning (rows b) n) whole ∙ r.1 ∙ sym (ap (λ t. meaning t n) parts))

-- ---- and of a table of codes

module _ {V : Type 0} where
  pub code_goes_front : (table front rest : List (ℕ × V)) (d : ℕ × V) (n : ℕ) → table ≡ front ++ rest → 1 ≤ length rest → IsTrue (is_ordered_by nat_cmp table) → nat_cmp n (get_or rest 0 d).0 ≡ Less → IsTrue (is_ordered_by nat_cmp front) × (lookup (nat_eq n) front ≡ lookup (nat_eq n) table)
  code_goes_front table front rest d n h long o before = goes_front nat_cmp nat_cmp_total nat_eq unsigned_ties table front rest d n h long o before

  pub code_stays_here : (table front rest : List (ℕ × V)) (d e : ℕ × V) (n : ℕ) → table ≡ front ++ rest → 1 ≤ length rest → IsTrue (is_ordered_by nat_cmp table) → nat_cmp n (get_or rest 0 d).0 ≡ Equal → Some (get_or rest 0 e).1 ≡ lookup (nat_eq n) table
  code_stays_here table front rest d e n h long o same = stays_here nat_cmp nat_cmp_total nat_eq unsigned_ties table front rest d e n h long o same

  pub code_goes_back : (table front rest : List (ℕ × V)) (d : ℕ × V) (n : ℕ) → table ≡ front ++ rest → 1 ≤ length rest → IsTrue (is_ordered_by nat_cmp table) → nat_cmp n (get_or rest 0 d).0 ≡ Greater → IsTrue (is_ordered_by nat_cmp (take (length rest - 1) (drop 1 rest))) × (lookup (nat_eq n) (take (length rest - 1) (drop 1 rest)) ≡ lookup (nat_eq n) table)
  code_goes_back table front rest d n h long o after = goes_back nat_cmp nat_cmp_total nat_eq unsigned_ties table front rest d n h long o after

-- a value that is seen through a function
pub lookup_map : {A B : Type 0} (g : A → B) (es : List (ℕ × A)) (c : ℕ) → lookup (nat_eq c) (map (λ e. (e.0, g e.1)) es) ≡ option_map g (lookup (nat_eq c) es)
lookup_map g [] c = refl
lookup_map {A} g (e ∷ es) c = by (nat_eq c e.0) (lookup_map g es c)
  where
    by : (b : Bool) → lookup (nat_eq c) (map (λ e. (e.0, g e.1)) es) ≡ option_map g (lookup (nat_eq c) es) → cond b (Some (g e.1)) (lookup (nat_eq c) (map (λ e. (e.0, g e.1)) es)) ≡ option_map g (cond b (Some e.1) (lookup (nat_eq c) es))
    by true later = refl
    by false later = later
