use Rattle.std.proofs.Common.{◌≡◌, ◌≢◌, ⊎_elim, ℕ, zero, suc, ◌+◌, ◌<◌, ◌≤◌, Bool, true, false, cond, ◌||◌, ◌&&◌, ◌==◌, List, [], ◌∷◌, ◌++◌, length, map, option_map, take, get_or, slice_get, slice_set, unwrap_or, Some, None, Vec, Global, All, refl, ap, sym, ◌∙◌, subst, arith, rules, tests, replicate}
use Rattle.std.specs.List.{flat_map, list_any}
use Rattle.std.proofs.lemmas.Bool.{cases_order, cases_lt, or_cases, false≢true}
use Rattle.std.proofs.lemmas.List.Elements.{All-head, All-tail, All-nil, All-cons, All-weaker}
use Rattle.std.proofs.lemmas.List.Folds.{list_any-append, list_any_more}
use Rattle.std.proofs.lemmas.Option.{slice_get-map, slice_get_past, slice_get_read}
use Rattle.std.proofs.Math.Bool.{or_assoc}
use Rattle.naga_oil_form.specs.Links.{Links, lists, linked, AreEarlier, reach, trail, has, added, started, is_marked, AreMarks, reaches}

-- ---- tests

pub or_left : (a b : Bool) → a ≡ true → (a || b) ≡ true
or_left true b h = refl
or_left false b h = absurd (false≢true h)

pub or_right : (a b : Bool) → b ≡ true → (a || b) ≡ true
or_right true b h = refl
or_right false b h = h

pub or_false : (a : Bool) → (a || false) ≡ a
or_false true = refl
or_false false = refl

or_true : (a : Bool) → (a || true) ≡ true
or_true true = refl
or_true false = refl

pub both : (a b : Bool) → (a && b) ≡ true → (a ≡ true) × (b ≡ true)
both true b h = (refl, h)
both false b h = absurd (false≢true h)

pub and_both : (a b : Bool) → a ≡ true → b ≡ true → (a && b) ≡ true
and_both true b h i = i
and_both false b h i = absurd (false≢true h)

pub same_bool : (a b : Bool) → (a ≡ true → b ≡ true) → (b ≡ true → a ≡ true) → a ≡ b
same_bool true true f g = refl
same_bool true false f g = sym (f refl)
same_bool false true f g = g refl
same_bool false false f g = refl

pub eqb_eq : (a b : ℕ) → (a == b) ≡ true → a ≡ b
eqb_eq a b h = search (rules, tests)

pub eq_eqb : (a b : ℕ) → a ≡ b → (a == b) ≡ true
eq_eqb a b h = search (rules, tests)

-- ---- lists

pub has-append : (xs ys : List ℕ) (k : ℕ) → has (xs ++ ys) k ≡ (has xs k || has ys k)
has-append xs ys k = list_any-append (λ y. y == k) xs ys

pub only : (x k : ℕ) → has (x ∷ []) k ≡ true → x ≡ k
only x k h = eqb_eq x k (sym (or_false (x == k)) ∙ h)

pub itself : (x : ℕ) → has (x ∷ []) x ≡ true
itself x = or_left (x == x) false (eq_eqb x x refl)

-- an element of joined lists is an element of one of them
pub in_one : (f : ℕ → List ℕ) (xs : List ℕ) (k : ℕ) → has (flat_map f xs) k ≡ true → (y : ℕ) × (has xs y ≡ true) × (has (f y) k ≡ true)
in_one f [] k h = absurd (false≢true h)
in_one f (x ∷ xs) k h =
    ⊎_elim (λ i. (x, or_left (x == x) (has xs x) (eq_eqb x x refl), i)) (λ i. let r = in_one f xs k i in (r.0, or_right (x == r.0) (has xs r.0) r.1, r.2)) (or_cases (has (f x) k) (has (flat_map f xs) k) (sym (has-append (f x) (flat_map f xs) k) ∙ h))

pub in_all : (f : ℕ → List ℕ) (xs : List ℕ) (y k : ℕ) → has xs y ≡ true → has (f y) k ≡ true → has (flat_map f xs) k ≡ true
in_all f [] y k h i = absurd (false≢true h)
in_all f (x ∷ xs) y k h i =
    has-append (f x) (flat_map f xs) k ∙ ⊎_elim (λ e. or_left (has (f x) k) (has (flat_map f xs) k) (subst (λ v. has (f v) k ≡ true) (sym (eqb_eq x y e)) i)) (λ e. or_right (has (f x) k) (has (flat_map f xs) k) (in_all f xs y k e i)) (or_cases (x == y) (has xs y) h)

-- what holds of each element holds of one
pub All-has : (P : ℕ → Type 0) (xs : List ℕ) (k : ℕ) → All P xs → has xs k ≡ true → P k
All-has P [] k a h = absurd (false≢true h)
All-has P (x ∷ xs) k a h =
    ⊎_elim (λ e. subst P (eqb_eq x k e) (All-head P x xs a)) (λ e. All-has P xs k (All-tail P x xs a) e) (or_cases (x == k) (has xs k) h)

pub All-from_has : (P : ℕ → Type 0) (xs : List ℕ) → ((k : ℕ) → has xs k ≡ true → P k) → All P xs
All-from_has P [] f = All-nil P
All-from_has P (x ∷ xs) f =
    All-cons P x xs (f x (or_left (x == x) (has xs x) (eq_eqb x x refl))) (All-from_has P xs (λ k h. f k (or_right (x == k) (has xs k) h)))

pub slice_get-set_same : {X : Type 0} (xs : List X) (k : ℕ) (v : X) → k < length xs → slice_get (slice_set xs k v) k ≡ Some v
slice_get-set_same [] k v h = absurd (omega arith)
slice_get-set_same (x ∷ xs) zero v h = refl
slice_get-set_same (x ∷ xs) (suc k) v h = slice_get-set_same xs k v (omega arith)

pub slice_get-set_other : {X : Type 0} (xs : List X) (j k : ℕ) (v : X) → k ≢ j → slice_get (slice_set xs j v) k ≡ slice_get xs k
slice_get-set_other [] j k v h = refl
slice_get-set_other (x ∷ xs) zero zero v h = absurd (h refl)
slice_get-set_other (x ∷ xs) zero (suc k) v h = refl
slice_get-set_other (x ∷ xs) (suc j) zero v h = refl
slice_get-set_other (x ∷ xs) (suc j) (suc k) v h = slice_get-set_other xs j k v (λ e. h (ap suc e))

pub slice_get-append_within : {X : Type 0} (xs ys : List X) (k : ℕ) → k < length xs → slice_get (xs ++ ys) k ≡ slice_get xs k
slice_get-append_within [] ys k h = absurd (omega arith)
slice_get-append_within (x ∷ xs) ys zero h = refl
slice_get-append_within (x ∷ xs) ys (suc k) h = slice_get-append_within xs ys k (omega arith)

pub slice_get-append_at : {X : Type 0} (xs : List X) (e : X) → slice_get (xs ++ e ∷ []) (length xs) ≡ Some e
slice_get-append_at [] e = refl
slice_get-append_at (x ∷ xs) e = slice_get-append_at xs e

-- ---- marks

set_at : (fs : List Bool) (j k : ℕ) (b : Bool) → (j == k) ≡ b → j < length fs → is_marked (slice_set fs j true) k ≡ (is_marked fs k || b)
set_at fs j k true e h =
    ap (λ i. is_marked (slice_set fs j true) i) (sym (eqb_eq j k e)) ∙ ap (λ o. unwrap_or o false) (slice_get-set_same fs j true h) ∙ sym (or_true (is_marked fs k))
set_at fs j k false e h =
    ap (λ o. unwrap_or o false) (slice_get-set_other fs j k true (λ q. false≢true (sym e ∙ eq_eqb j k (sym q)))) ∙ sym (or_false (is_marked fs k))

pub marked-set : (fs : List Bool) (j k : ℕ) → j < length fs → is_marked (slice_set fs j true) k ≡ (is_marked fs k || (j == k))
marked-set fs j k h = set_at fs j k (j == k) refl h

-- one more mark
pub mark_more : (old now : List Bool) (xs : List ℕ) (i : ℕ) → i < length xs → All (λ x. x < length old) xs → length now ≡ length old → ((k : ℕ) → is_marked now k ≡ (is_marked old k || has (take i xs) k)) → (k : ℕ) → is_marked (slice_set now (get_or xs i 0) true) k ≡ (is_marked old k || has (take (i + 1) xs) k)
mark_more old now xs i lt a e m k =
    let within : get_or xs i 0 < length old = a i 0 lt in
    marked-set now (get_or xs i 0) k (omega arith) ∙ ap (λ b. b || (get_or xs i 0 == k)) (m k) ∙ or_assoc (is_marked old k) (has (take i xs) k) (get_or xs i 0 == k) ∙ ap (λ b. is_marked old k || b) (sym (list_any_more (λ y. y == k) xs i 0 lt))

-- no mark stands after the last place
pub marked_past : (fs : List Bool) (k : ℕ) → length fs ≤ k → is_marked fs k ≡ false
marked_past fs k h = ap (λ o. unwrap_or o false) (slice_get_past fs k h)

pub marked_within : (fs : List Bool) (k : ℕ) → is_marked fs k ≡ true → k < length fs
marked_within fs k h = ⊎_elim (λ l. l) (λ g. absurd (false≢true (sym (marked_past fs k g) ∙ h))) (cases_lt k (length fs))

pub marked-none : (n k : ℕ) → is_marked (replicate n false) k ≡ false
marked-none zero k = refl
marked-none (suc n) zero = refl
marked-none (suc n) (suc k) = marked-none n k

-- ---- links

pub linked-some : (vs : List (Vec ℕ Global)) (k : ℕ) (v : Vec ℕ Global) → slice_get vs k ≡ Some v → linked (lists vs) k ≡ v.items
linked-some vs k v h = ap (λ o. unwrap_or o []) (slice_get-map (λ (w : Vec ℕ Global). w.items) vs k ∙ ap (option_map (λ (w : Vec ℕ Global). w.items)) h)

pub linked-at : (vs : List (Vec ℕ Global)) (k : ℕ) (v : Vec ℕ Global) → k < length vs → v ≡ get_or vs k v → linked (lists vs) k ≡ v.items
linked-at vs k v h is = linked-some vs k v (slice_get_read vs (length vs) k v refl h is)

pub linked-none : (vs : List (Vec ℕ Global)) (k : ℕ) → slice_get vs k ≡ None → linked (lists vs) k ≡ []
linked-none vs k h = ap (λ o. unwrap_or o []) (slice_get-map (λ (w : Vec ℕ Global). w.items) vs k ∙ ap (option_map (λ (w : Vec ℕ Global). w.items)) h)

pub linked_past : (vs : List (Vec ℕ Global)) (k : ℕ) → length vs ≤ k → linked (lists vs) k ≡ []
linked_past vs k h = linked-none vs k (slice_get_past vs k h)

-- a named place stands before the place that names it
pub named_below : (ls : Links) → AreEarlier ls → (k x : ℕ) → has (linked ls k) x ≡ true → x < k
named_below ls a k x h = All-has (λ y. y < k) (linked ls k) x (a k) h

-- what a place names is within the links
pub named_within : (vs : List (Vec ℕ Global)) (p : ℕ) (v : Vec ℕ Global) (n : ℕ) (xs : List ℕ) → AreEarlier (lists vs) → p < length vs → v ≡ get_or vs p v → n ≡ length vs → xs ≡ v.items → All (λ x. x < n) xs
named_within vs p v n xs a h is e f =
    let Q : List ℕ → Type 0 = All (λ x. x < n) in
    subst Q (linked-at vs p v h is ∙ sym f) (All-weaker (λ x. x < p) (λ x. x < n) (λ x l. omega arith) (linked (lists vs) p) (a p))

pub spread_one : (m a b : Bool) → m ≡ true → a ≡ b → a ≡ (m && b)
spread_one true a b h e = e
spread_one false a b h e = absurd (false≢true h)

pub spread_none : (m a b : Bool) → m ≡ false → a ≡ (a || (m && b))
spread_none true a b h = absurd (false≢true (sym h))
spread_none false a b h = sym (or_false a)

-- earlier as far as a walk has come
pub earlier_push : (ls : Links) (p : ℕ) → ((k : ℕ) → k < p → All (λ x. x < k) (linked ls k)) → All (λ x. x < p) (linked ls p) → (k : ℕ) → k < p + 1 → All (λ x. x < k) (linked ls k)
earlier_push ls p f h k l =
    ⊎_elim (λ e. let Q : ℕ → Type 0 = λ i. All (λ x. x < i) (linked ls i) in subst Q (sym e) h) (⊎_elim (λ i. f k i) (λ i. absurd (omega arith))) (cases_order k p)

pub earlier_all : (vs : List (Vec ℕ Global)) (p : ℕ) → ((k : ℕ) → k < p → All (λ x. x < k) (linked (lists vs) k)) → length vs ≤ p → AreEarlier (lists vs)
earlier_all vs p f h =
    λ k. let past : p ≤ k → All (λ x. x < k) (linked (lists vs) k) = λ i. let Q : List ℕ → Type 0 = All (λ x. x < k) in subst Q (sym (linked_past vs k (omega arith))) (All-nil (λ x. x < k)) in
    ⊎_elim (λ e. past (omega arith)) (⊎_elim (λ i. f k i) (λ i. past (omega arith))) (cases_order k p)

-- ---- what is reached

last_reached : (n : ℕ) (ls : Links) (k : ℕ) → 0 < n → has (reach n ls k) k ≡ true
last_reached zero ls k h = absurd (omega arith)
last_reached (suc n) ls k h = has-append (flat_map (reach n ls) (linked ls k)) (k ∷ []) k ∙ or_right (has (flat_map (reach n ls) (linked ls k)) k) (has (k ∷ []) k) (itself k)

-- what a reached place names is reached
pub reached-closed : (ls : Links) → AreEarlier ls → (n k p x : ℕ) → k < n → has (reach n ls k) p ≡ true → has (linked ls p) x ≡ true → has (reach n ls k) x ≡ true
reached-closed ls a zero k p x h i j = absurd (omega arith)
reached-closed ls a (suc n) k p x h i j =
    has-append (flat_map (reach n ls) (linked ls k)) (k ∷ []) x ∙ or_left (has (flat_map (reach n ls) (linked ls k)) x) (has (k ∷ []) x) (⊎_elim (λ e. let r = in_one (reach n ls) (linked ls k) p e in let b = named_below ls a k r.0 r.1 in in_all (reach n ls) (linked ls k) r.0 x r.1 (reached-closed ls a n r.0 p x (omega arith) r.2 j)) (λ e. let q : k ≡ p = only k p e in let m = subst (λ v. has (linked ls v) x ≡ true) (sym q) j in let b = named_below ls a k x m in in_all (reach n ls) (linked ls k) x x m (last_reached n ls x (omega arith))) (or_cases (has (flat_map (reach n ls) (linked ls k)) p) (has (k ∷ []) p) (sym (has-append (flat_map (reach n ls) (linked ls k)) (k ∷ []) p) ∙ i)))

-- marks that spread along the links reach all that a marked place reaches
reached-marked : (ls : Links) (fs : List Bool) → ((k x : ℕ) → is_marked fs k ≡ true → has (linked ls k) x ≡ true → is_marked fs x ≡ true) → (n r k : ℕ) → is_marked fs r ≡ true → has (reach n ls r) k ≡ true → is_marked fs k ≡ true
reached-marked ls fs c zero r k h i = absurd (false≢true i)
reached-marked ls fs c (suc n) r k h i =
    ⊎_elim (λ e. let y = in_one (reach n ls) (linked ls r) k e in reached-marked ls fs c n y.0 k (c r y.0 h y.1) y.2) (λ e. subst (λ v. is_marked fs v ≡ true) (only r k e) h) (or_cases (has (flat_map (reach n ls) (linked ls r)) k) (has (r ∷ []) k) (sym (has-append (flat_map (reach n ls) (linked ls r)) (r ∷ []) k) ∙ i))

-- ---- what some places reach, each once

once : (b : Bool) (o : List ℕ) (y k : ℕ) → has o y ≡ b → has (cond b o (o ++ y ∷ [])) k ≡ (has o k || (y == k))
once false o y k e = has-append o (y ∷ []) k ∙ ap (λ b. has o k || b) (or_false (y == k))
once true o y k e =
    same_bool (has o k) (has o k || (y == k)) (λ h. or_left (has o k) (y == k) h) (λ h. ⊎_elim (λ i. i) (λ i. subst (λ v. has o v ≡ true) (eqb_eq y k i) e) (or_cases (has o k) (y == k) h))

pub has-added : (o xs : List ℕ) (k : ℕ) → has (added o xs) k ≡ (has o k || has xs k)
has-added o [] k = sym (or_false (has o k))
has-added o (x ∷ xs) k =
    has-added (cond (has o x) o (o ++ x ∷ [])) xs k ∙ ap (λ b. b || has xs k) (once (has o x) o x k refl) ∙ or_assoc (has o k) (x == k) (has xs k)

pub has-started : (ls : Links) (rs : List ℕ) (k : ℕ) → has (started ls rs) k ≡ has (flat_map (trail ls) rs) k
has-started ls rs k = has-added [] (flat_map (trail ls) rs) k

root_started : (ls : Links) (rs : List ℕ) (k : ℕ) → has rs k ≡ true → has (started ls rs) k ≡ true
unfolding trail
root_started ls rs k h = has-started ls rs k ∙ in_all (trail ls) rs k k h (last_reached (suc k) ls k (omega arith))

pub started-closed : (ls : Links) → AreEarlier ls → (rs : List ℕ) (p x : ℕ) → has (started ls rs) p ≡ true → has (linked ls p) x ≡ true → has (started ls rs) x ≡ true
unfolding trail
started-closed ls a rs p x h i =
    let r = in_one (trail ls) rs p (sym (has-started ls rs p) ∙ h) in
    has-started ls rs x ∙ in_all (trail ls) rs r.0 x r.1 (reached-closed ls a (suc r.0) r.0 p x (omega arith) r.2 i)

started-marked : (ls : Links) (fs : List Bool) (rs : List ℕ) → ((k : ℕ) → has rs k ≡ true → is_marked fs k ≡ true) → ((k x : ℕ) → is_marked fs k ≡ true → has (linked ls k) x ≡ true → is_marked fs x ≡ true) → (k : ℕ) → has (started ls rs) k ≡ true → is_marked fs k ≡ true
unfolding trail
started-marked ls fs rs f c k h =
    let r = in_one (trail ls) rs k (sym (has-started ls rs k) ∙ h) in
    reached-marked ls fs c (suc r.0) r.0 k (f r.0 r.1) r.2

-- ---- the marks as far as a walk from the last place on has come

pub record IsSpread (ls : Links) (rs : List ℕ) (n i : ℕ) (fs : List Bool) : Type 0 where
  pub sound : (k : ℕ) → is_marked fs k ≡ true → has (started ls rs) k ≡ true
  pub roots : (k : ℕ) → has rs k ≡ true → is_marked fs k ≡ true
  pub closed : (k x : ℕ) → n ≤ k + i → is_marked fs k ≡ true → has (linked ls k) x ≡ true → is_marked fs x ≡ true

pub IsSpread-start : (vs : List (Vec ℕ Global)) (rs : List ℕ) (fs : List Bool) → ((k : ℕ) → is_marked fs k ≡ has rs k) → IsSpread (lists vs) rs (length vs) 0 fs
IsSpread-start vs rs fs m = record {
  sound = λ k h. root_started (lists vs) rs k (sym (m k) ∙ h);
  roots = λ k h. m k ∙ h;
  closed = λ k x h i j. absurd (false≢true (sym (ap (λ xs. has xs x) (linked_past vs k (omega arith))) ∙ j));
}

spread_closed : (ls : Links) → AreEarlier ls → (rs : List ℕ) (n i p : ℕ) (fs gs : List Bool) → IsSpread ls rs n i fs → p + 1 + i ≡ n → ((k : ℕ) → is_marked gs k ≡ (is_marked fs k || (is_marked fs p && has (linked ls p) k))) → (k x : ℕ) → n ≤ k + (i + 1) → is_marked gs k ≡ true → has (linked ls k) x ≡ true → is_marked gs x ≡ true
spread_closed ls a rs n i p fs gs s e m k x h j l =
    let here : is_marked fs k ≡ true → is_marked gs x ≡ true = λ q. ⊎_elim (λ w. m x ∙ or_right (is_marked fs x) (is_marked fs p && has (linked ls p) x) (and_both (is_marked fs p) (has (linked ls p) x) (subst (λ v. is_marked fs v ≡ true) w q) (subst (λ v. has (linked ls v) x ≡ true) w l))) (λ w. m x ∙ or_left (is_marked fs x) (is_marked fs p && has (linked ls p) x) (s.closed k x (⊎_elim (λ u. omega arith) (λ u. omega arith) w) q l)) (cases_order k p) in
    ⊎_elim here (λ q. let below = named_below ls a p k (both (is_marked fs p) (has (linked ls p) k) q).1 in absurd (omega arith)) (or_cases (is_marked fs k) (is_marked fs p && has (linked ls p) k) (sym (m k) ∙ j))

pub IsSpread-step : (ls : Links) → AreEarlier ls → (rs : List ℕ) (n i p : ℕ) (fs gs : List Bool) → IsSpread ls rs n i fs → p + 1 + i ≡ n → ((k : ℕ) → is_marked gs k ≡ (is_marked fs k || (is_marked fs p && has (linked ls p) k))) → IsSpread ls rs n (i + 1) gs
IsSpread-step ls a rs n i p fs gs s e m = record {
  sound = λ k h. ⊎_elim (λ q. s.sound k q) (λ q. let w = both (is_marked fs p) (has (linked ls p) k) q in started-closed ls a rs p k (s.sound p w.0) w.1) (or_cases (is_marked fs k) (is_marked fs p && has (linked ls p) k) (sym (m k) ∙ h));
  roots = λ k h. m k ∙ or_left (is_marked fs k) (is_marked fs p && has (linked ls p) k) (s.roots k h);
  closed = spread_closed ls a rs n i p fs gs s e m;
}

pub IsSpread-end : (ls : Links) (rs : List ℕ) (n : ℕ) (fs : List Bool) → IsSpread ls rs n n fs → AreMarks fs (started ls rs)
IsSpread-end ls rs n fs s =
    λ k. same_bool (is_marked fs k) (has (started ls rs) k) (s.sound k) (λ h. started-marked ls fs rs s.roots (λ j x. s.closed j x (omega arith)) k h)

-- ---- whether a place reaches a marked one

list_any-flat_map : (p : ℕ → Bool) (f : ℕ → List ℕ) (xs : List ℕ) → list_any p (flat_map f xs) ≡ list_any (λ x. list_any p (f x)) xs
list_any-flat_map p f [] = refl
list_any-flat_map p f (x ∷ xs) = list_any-append p (f x) (flat_map f xs) ∙ ap (λ b. list_any p (f x) || b) (list_any-flat_map p f xs)

list_any-same : (p q : ℕ → Bool) (xs : List ℕ) → All (λ x. p x ≡ q x) xs → list_any p xs ≡ list_any q xs
list_any-same p q [] a = refl
list_any-same p q (x ∷ xs) a = let h : p x ≡ q x = All-head (λ y. p y ≡ q y) x xs a in let t = list_any-same p q xs (All-tail (λ y. p y ≡ q y) x xs a) in cc

flat_map-same : (f g : ℕ → List ℕ) (xs : List ℕ) → All (λ x. f x ≡ g x) xs → flat_map f xs ≡ flat_map g xs
flat_map-same f g [] a = refl
flat_map-same f g (x ∷ xs) a = let h : f x ≡ g x = All-head (λ y. f y ≡ g y) x xs a in let t = flat_map-same f g xs (All-tail (λ y. f y ≡ g y) x xs a) in cc

-- each number greater than the place gives the same list
pub reached-enough : (ls : Links) → AreEarlier ls → (n m k : ℕ) → k < n → k < m → reach n ls k ≡ reach m ls k
reached-enough ls a zero m k h i = absurd (omega arith)
reached-enough ls a (suc n) zero k h i = absurd (omega arith)
reached-enough ls a (suc n) (suc m) k h i =
    ap (λ xs. xs ++ k ∷ []) (flat_map-same (reach n ls) (reach m ls) (linked ls k) (All-weaker (λ x. x < k) (λ x. reach n ls x ≡ reach m ls x) (λ x l. reached-enough ls a n m x (omega arith) (omega arith)) (linked ls k) (a k)))

-- the places that a place reaches, by the places that it names
pub trail-step : (ls : Links) → AreEarlier ls → (k : ℕ) → trail ls k ≡ flat_map (trail ls) (linked ls k) ++ k ∷ []
unfolding trail
trail-step ls a k =
    ap (λ xs. xs ++ k ∷ []) (flat_map-same (reach k ls) (trail ls) (linked ls k) (All-weaker (λ x. x < k) (λ x. reach k ls x ≡ trail ls x) (λ x l. reached-enough ls a k (suc x) x l (omega arith)) (linked ls k) (a k)))

or_turned : (a b : Bool) → (a || b) ≡ (b || (a || false))
or_turned true true = refl
or_turned true false = refl
or_turned false true = refl
or_turned false false = refl

pub reaches-step : (ls : Links) → AreEarlier ls → (fs gs : List Bool) (k : ℕ) → ((x : ℕ) → x < k → is_marked gs x ≡ reaches ls fs x) → (is_marked fs k || list_any (is_marked gs) (linked ls k)) ≡ reaches ls fs k
reaches-step ls a fs gs k m =
    or_turned (is_marked fs k) (list_any (is_marked gs) (linked ls k)) ∙ ap (λ b. b || (is_marked fs k || false)) (list_any-same (is_marked gs) (reaches ls fs) (linked ls k) (All-weaker (λ x. x < k) (λ x. is_marked gs x ≡ reaches ls fs x) m (linked ls k) (a k)) ∙ sym (list_any-flat_map (is_marked fs) (trail ls) (linked ls k))) ∙ sym (list_any-append (is_marked fs) (flat_map (trail ls) (linked ls k)) (k ∷ [])) ∙ ap (list_any (is_marked fs)) (sym (trail-step ls a k))

marked-push_at : (gs : List Bool) (b : Bool) (k : ℕ) → k ≡ length gs → is_marked (gs ++ b ∷ []) k ≡ b
marked-push_at gs b k e = ap (λ i. is_marked (gs ++ b ∷ []) i) e ∙ ap (λ o. unwrap_or o false) (slice_get-append_at gs b)

-- one more place
pub reaches-push : (ls : Links) → AreEarlier ls → (fs gs : List Bool) (p : ℕ) (b : Bool) (xs : List ℕ) → length gs ≡ p → linked ls p ≡ xs → b ≡ (is_marked fs p || list_any (is_marked gs) xs) → ((x : ℕ) → x < p → is_marked gs x ≡ reaches ls fs x) → (k : ℕ) → k < p + 1 → is_marked (gs ++ b ∷ []) k ≡ reaches ls fs k
reaches-push ls a fs gs p b xs long named is m k h =
    ⊎_elim (λ e. marked-push_at gs b k (omega arith) ∙ is ∙ ap (λ ys. is_marked fs p || list_any (is_marked gs) ys) (sym named) ∙ reaches-step ls a fs gs p m ∙ ap (reaches ls fs) (sym e)) (⊎_elim (λ l. ap (λ o. unwrap_or o false) (slice_get-append_within gs (b ∷ []) k (omega arith)) ∙ m k l) (λ l. absurd (omega arith))) (cases_order k p)

-- a place after the last reaches only itself, and isn't marked
pub reaches-past : (ls : Links) → AreEarlier ls → (fs : List Bool) → length fs ≤ length ls → (k : ℕ) → length ls ≤ k → reaches ls fs k ≡ false
reaches-past ls a fs h k g =
    ap (list_any (is_marked fs)) (trail-step ls a k ∙ ap (λ o. flat_map (trail ls) (unwrap_or o []) ++ k ∷ []) (slice_get_past ls k g)) ∙ or_false (is_marked fs k) ∙ marked_past fs k (omega arith)

-- what a place names, where links were made element by element
pub linked-map : {A : Type 0} (f : A → List ℕ) (xs : List A) (k : ℕ) (x : A) → slice_get xs k ≡ Some x → linked (map f xs) k ≡ f x
linked-map f xs k x h = ap (λ o. unwrap_or o []) (slice_get-map f xs k ∙ ap (option_map f) h)

pub marked-map : {A : Type 0} (f : A → Bool) (xs : List A) (k : ℕ) (x : A) → slice_get xs k ≡ Some x → is_marked (map f xs) k ≡ f x
marked-map f xs k x h = ap (λ o. unwrap_or o false) (slice_get-map f xs k ∙ ap (option_map f) h)

-- what holds of each marked place holds of all that is reached
pub reached_each : (ls : Links) (rs : List ℕ) (fs : List Bool) (P : ℕ → Type 0) → AreMarks fs (started ls rs) → ((k : ℕ) → is_marked fs k ≡ true → P k) → All (λ k. All P (trail ls k)) rs
reached_each ls rs fs P m f =
    All-from_has (λ k. All P (trail ls k)) rs (λ r h. All-from_has P (trail ls r) (λ j i. f j (m j ∙ has-started ls rs j ∙ in_all (trail ls) rs r j h i)))

pub each_reached : (ls : Links) (rs : List ℕ) (fs : List Bool) (P : ℕ → Type 0) → AreMarks fs (started ls rs) → All (λ k. All P (trail ls k)) rs → (k : ℕ) → is_marked fs k ≡ true → P k
each_reached ls rs fs P m a k h =
    let r = in_one (trail ls) rs k (sym (has-started ls rs k) ∙ sym (m k) ∙ h) in
    All-has P (trail ls r.0) k (All-has (λ i. All P (trail ls i)) rs r.0 a r.1) r.2
