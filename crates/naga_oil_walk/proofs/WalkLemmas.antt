-- Orders of places: adding, and what stands ready.
use Rattle.std.proofs.Common.{is_none, is_some, nat_lt, Option, ◌≡◌, ⊎_elim, ℕ, zero, suc, ◌+◌, ◌-◌, ◌<◌, ◌≤◌, Bool, true, false, cond, ◌||◌, ◌==◌, not, List, [], ◌∷◌, ◌++◌, length, take, get_or, slice_get, slice_set, Some, None, refl, ap, sym, ◌∙◌, subst, arith}
use Rattle.std.specs.List.{flat_map}
use Rattle.std.specs.Option.{option_flatten}
use Rattle.std.proofs.lemmas.Bool.{cases_order, cases_Bool, cond_both, le-ltb, or_cases, or_left, or_right, false≢true}
use Rattle.std.proofs.lemmas.List.{set_past, take-append-le, take_at, append-nil, take_more, length_push}
use Rattle.std.proofs.lemmas.List.Concat.{flat_map-append}
use Rattle.std.proofs.lemmas.Option.{slice_get_within, none-some, same_Some}
use Rattle.std.proofs.lemmas.List.Elements.{filter-append}
use Rattle.naga_oil_ir.specs.Body.{Tokens}
use Rattle.naga_oil_ir.specs.declared.tokens.Token.{Token}
use Rattle.naga_oil_form.specs.BodyForm.{run, is_external}
use Rattle.naga_oil_form.specs.Links.{Links, linked, AreEarlier, reach, trail, has, added, AreMarks}
use Rattle.naga_oil_form.proofs.LinkLemmas.{has-append, has-added, marked-set, or_false, only, itself, in_one, in_all, slice_get-append_within, slice_get-append_at, trail-step, eq_eqb}
use Rattle.naga_oil_walk.specs.Walk.{IsReachOrder, Holds, externals, Notes, noted, notes_of, notes_after, brief}

-- ---- lists

pub Holds-left : (o xs ys : List ℕ) → Holds o (xs ++ ys) → Holds o xs
Holds-left o xs ys a = λ x h. a x (has-append xs ys x ∙ or_left (has xs x) (has ys x) h)

pub Holds-right : (o xs ys : List ℕ) → Holds o (xs ++ ys) → Holds o ys
Holds-right o xs ys a = λ x h. a x (has-append xs ys x ∙ or_right (has xs x) (has ys x) h)

pub Holds-head : (o : List ℕ) (x : ℕ) (xs : List ℕ) → Holds o (x ∷ xs) → has o x ≡ true
Holds-head o x xs a = Holds-left o (x ∷ []) xs a x (itself x)

-- ---- adding

pub added-append : (o xs ys : List ℕ) → added o (xs ++ ys) ≡ added (added o xs) ys
added-append o [] ys = refl
added-append o (x ∷ xs) ys = added-append (cond (has o x) o (o ++ x ∷ [])) xs ys

pub added-known : (o xs : List ℕ) → Holds o xs → added o xs ≡ o
added-known o [] a = refl
added-known o (x ∷ xs) a = rw (Holds-head o x xs a) (added-known o xs (Holds-right o (x ∷ []) xs a))

-- old places stay, and added places are in the order
pub added-keeps : (o xs : List ℕ) → Holds (added o xs) o
added-keeps o xs = λ x h. has-added o xs x ∙ or_left (has o x) (has xs x) h

pub added-holds : (o xs : List ℕ) → Holds (added o xs) xs
added-holds o xs = λ x h. has-added o xs x ∙ or_right (has o x) (has xs x) h

pub added-token : (f : Token → List ℕ) (o : List ℕ) (ts : Tokens) (i : ℕ) (t : Token) → i < length ts → t ≡ get_or ts i t → added (added o (flat_map f (take i ts))) (f t) ≡ added o (flat_map f (take (i + 1) ts))
added-token f o ts i t h is =
    sym (added-append o (flat_map f (take i ts)) (f t)) ∙ ap (added o) (sym (ap (flat_map f) (take_more ts i t h ∙ ap (λ y. take i ts ++ y ∷ []) (sym is)) ∙ flat_map-append f (take i ts) (t ∷ []) ∙ ap (λ u. flat_map f (take i ts) ++ u) (append-nil (f t))))

-- ---- places that stand ready

at_last : (o : List ℕ) (k i j : ℕ) → i ≡ length o → slice_get (o ++ k ∷ []) i ≡ Some j → k ≡ j
at_last o k i j h e = same_Some k j (sym (slice_get-append_at o k) ∙ ap (slice_get (o ++ k ∷ [])) (sym h) ∙ e)

take_last : (o : List ℕ) (k i : ℕ) → i ≡ length o → take i (o ++ k ∷ []) ≡ o
take_last o k i h = take_at o (k ∷ []) i (sym h)

-- a fact of each place with what stands before it, for one more place
pub push_each : (P : List ℕ → ℕ → Type 0) (o : List ℕ) (k : ℕ) → ((i j : ℕ) → slice_get o i ≡ Some j → P (take i o) j) → P o k → (i j : ℕ) → slice_get (o ++ k ∷ []) i ≡ Some j → P (take i (o ++ k ∷ [])) j
push_each P o k f p i j e =
    ⊎_elim (λ q. subst (λ t. P t j) (sym (take_last o k i q)) (subst (P o) (at_last o k i j q e) p)) (⊎_elim (λ q. subst (λ t. P t j) (sym (take-append-le i o (k ∷ []) (omega arith))) (f i j (sym (slice_get-append_within o (k ∷ []) i q) ∙ e))) (λ q. let l : i < length (o ++ k ∷ []) = slice_get_within (o ++ k ∷ []) i j e in absurd (omega (arith, length_push {X = ℕ})))) (cases_order i (length o))

pub IsReachOrder-nil : (ls : Links) → IsReachOrder ls []
IsReachOrder-nil ls = record { once = λ i k e. absurd (none-some k e); after = λ i k x e h. absurd (none-some k e) }

pub IsReachOrder-push : (ls : Links) (o : List ℕ) (k : ℕ) → IsReachOrder ls o → has o k ≡ false → Holds o (linked ls k) → IsReachOrder ls (o ++ k ∷ [])
IsReachOrder-push ls o k r f w = record {
  once = push_each (λ t j. has t j ≡ false) o k r.once f;
  after = λ i j x e. push_each (λ t j. (x : ℕ) → has (linked ls j) x ≡ true → has t x ≡ true) o k (λ i j e x. r.after i j x e) w i j e x;
}

pub IsReachOrder-add : (ls : Links) (o : List ℕ) (k : ℕ) → IsReachOrder ls o → Holds o (linked ls k) → IsReachOrder ls (added o (k ∷ []))
IsReachOrder-add ls o k r w =
    ⊎_elim (λ h. rw h r) (λ h. rw h (IsReachOrder-push ls o k r h w)) (cases_Bool (has o k))

-- a place that is in an order has a position
pub place_at : (o : List ℕ) (k : ℕ) → has o k ≡ true → (i : ℕ) × (slice_get o i ≡ Some k)
place_at [] k h = absurd (false≢true h)
place_at (x ∷ o) k h =
    ⊎_elim (λ e. (zero, ap Some (only x k (or_left (x == k) false e)))) (λ e. let r = place_at o k e in (suc r.0, r.1)) (or_cases (x == k) (has o k) h)

-- a place that has a position is in the order
pub has_at : (o : List ℕ) (i k : ℕ) → slice_get o i ≡ Some k → has o k ≡ true
has_at [] i k e = absurd (none-some k e)
has_at (x ∷ o) zero k e = or_left (x == k) (has o k) (eq_eqb x k (same_Some x k e))
has_at (x ∷ o) (suc i) k e = or_right (x == k) (has o k) (has_at o i k e)

pub has_take : (i : ℕ) (o : List ℕ) (x : ℕ) → has (take i o) x ≡ true → has o x ≡ true
has_take zero o x h = absurd (false≢true h)
has_take (suc i) [] x h = h
has_take (suc i) (y ∷ o) x h =
    ⊎_elim (λ e. or_left (y == x) (has o x) e) (λ e. or_right (y == x) (has o x) (has_take i o x e)) (or_cases (y == x) (has (take i o) x) h)

pub closed : (ls : Links) (o : List ℕ) → IsReachOrder ls o → (k : ℕ) → has o k ≡ true → Holds o (linked ls k)
closed ls o r k h = λ x i. let p = place_at o k h in has_take p.0 o x (r.after p.0 k x p.1 i)

reached_in : (ls : Links) (o : List ℕ) → ((k x : ℕ) → has o k ≡ true → has (linked ls k) x ≡ true → has o x ≡ true) → (n r k : ℕ) → has o r ≡ true → has (reach n ls r) k ≡ true → has o k ≡ true
reached_in ls o c zero r k h i = absurd (false≢true i)
reached_in ls o c (suc n) r k h i =
    ⊎_elim (λ e. let y = in_one (reach n ls) (linked ls r) k e in reached_in ls o c n y.0 k (c r y.0 h y.1) y.2) (λ e. subst (λ v. has o v ≡ true) (only r k e) h) (or_cases (has (flat_map (reach n ls) (linked ls r)) k) (has (r ∷ []) k) (sym (has-append (flat_map (reach n ls) (linked ls r)) (r ∷ []) k) ∙ i))

-- with a place all places that it reaches are in the order
pub trail_in : (ls : Links) (o : List ℕ) → IsReachOrder ls o → (k : ℕ) → has o k ≡ true → Holds o (trail ls k)
unfolding trail
trail_in ls o r k h = λ x i. reached_in ls o (λ k x a b. closed ls o r k a x b) (suc k) k x h i

-- a place that is in the order adds nothing
pub trail-known : (ls : Links) (o : List ℕ) (k : ℕ) → IsReachOrder ls o → has o k ≡ true → o ≡ added o (trail ls k)
trail-known ls o k r h = sym (added-known o (trail ls k) (trail_in ls o r k h))

-- a place comes after the places that its links reach
pub trail-added : (ls : Links) → AreEarlier ls → (o : List ℕ) (k : ℕ) → added (added o (flat_map (trail ls) (linked ls k))) (k ∷ []) ≡ added o (trail ls k)
trail-added ls a o k = sym (added-append o (flat_map (trail ls) (linked ls k)) (k ∷ [])) ∙ ap (added o) (sym (trail-step ls a k))

-- a place is the last of the places that it reaches
pub ends_trail : (ls : Links) → AreEarlier ls → (x : ℕ) → has (trail ls x) x ≡ true
ends_trail ls a x = ap (λ t. has t x) (trail-step ls a x) ∙ has-append (flat_map (trail ls) (linked ls x)) (x ∷ []) x ∙ or_right (has (flat_map (trail ls) (linked ls x)) x) (has (x ∷ []) x) (itself x)

-- if all places that its links reach are in the order, so are its links
pub links_there : (ls : Links) → AreEarlier ls → (o xs : List ℕ) → Holds (added o (flat_map (trail ls) xs)) xs
links_there ls a o xs = λ x h. added-holds o (flat_map (trail ls) xs) x (in_all (trail ls) xs x x h (ends_trail ls a x))

-- ---- marks

-- the marks with one more place
pub marks_more : (fs : List Bool) (o p : List ℕ) (k : ℕ) → AreMarks fs o → k < length fs → p ≡ o ++ k ∷ [] → AreMarks (slice_set fs k true) p
marks_more fs o p k m h e = λ j. marked-set fs k j h ∙ ap (λ b. b || (k == j)) (m j) ∙ sym (ap (λ q. has q j) e ∙ has-append o (k ∷ []) j ∙ ap (λ b. has o j || b) (or_false (k == j)))

-- ---- ranges

pub run-last : (a n k : ℕ) → a + n ≡ k → run a (suc n) ≡ run a n ++ k ∷ []
run-last a zero k h = let e : a ≡ k = omega arith in ap (λ x. x ∷ []) e
run-last a (suc n) k h = ap (λ t. a ∷ t) (run-last (suc a) n k (omega arith))

pub run-next : (a k : ℕ) → a ≤ k → run a (k + 1 - a) ≡ run a (k - a) ++ k ∷ []
run-next a k h = let e : k + 1 - a ≡ suc (k - a) = omega arith in ap (run a) e ∙ run-last a (k - a) k (omega arith)

pub added-run : (o : List ℕ) (a k : ℕ) → a ≤ k → added (added o (run a (k - a))) (k ∷ []) ≡ added o (run a (k + 1 - a))
added-run o a k h = sym (added-append o (run a (k - a)) (k ∷ [])) ∙ ap (added o) (sym (run-next a k h))

-- one more place of a range
pub flat_run : (f : ℕ → List ℕ) (a k : ℕ) → a ≤ k → flat_map f (run a (k - a)) ++ f k ≡ flat_map f (run a (k + 1 - a))
flat_run f a k h = sym (ap (flat_map f) (run-next a k h) ∙ flat_map-append f (run a (k - a)) (k ∷ []) ∙ ap (λ t. flat_map f (run a (k - a)) ++ t) (append-nil (f k)))

pub added-externals : (ks o xs ys : List ℕ) → added (added o (externals ks xs)) (externals ks ys) ≡ added o (externals ks (xs ++ ys))
added-externals ks o xs ys = sym (added-append o (externals ks xs) (externals ks ys)) ∙ ap (added o) (sym (filter-append (is_external ks) xs ys))

pub externals-more : (ks o xs : List ℕ) (i : ℕ) → i < length xs → added (added o (externals ks (take i xs))) (externals ks (get_or xs i 0 ∷ [])) ≡ added o (externals ks (take (i + 1) xs))
externals-more ks o xs i h = added-externals ks o (take i xs) (get_or xs i 0 ∷ []) ∙ ap (λ t. added o (externals ks t)) (sym (take_more xs i 0 h))

pub one_external : (ks o : List ℕ) (x : ℕ) → is_external ks x ≡ true → added o (x ∷ []) ≡ added o (externals ks (x ∷ []))
one_external ks o x h = ap (λ b. added o (cond b (x ∷ []) [])) (sym h)

pub no_external : (ks o : List ℕ) (x : ℕ) → is_external ks x ≡ false → o ≡ added o (externals ks (x ∷ []))
no_external ks o x h = ap (λ b. added o (cond b (x ∷ []) [])) (sym h)

-- ---- notes

some_stays : (es fs : Notes) (o : Option (ℕ × ℕ)) (b : Bool) → is_some o ≡ not b → b ≡ false → es ≡ cond (is_none (option_flatten (Some o))) fs es
some_stays es fs None b h e = absurd (false≢true (h ∙ ap not e))
some_stays es fs (Some x) b h e = refl

pub noted_kept : (es : Notes) (r p : ℕ × ℕ) (i : ℕ) (o : Option (ℕ × ℕ)) (b : Bool) → r.1 ≤ i → i ≡ r.0 → slice_get es i ≡ Some o → is_some o ≡ not b → b ≡ false → es ≡ noted es r p
noted_kept es r p i o b h is e n f =
    some_stays es (slice_set es r.0 (Some p)) o b n f ∙ ap (λ q. cond (is_none (option_flatten q)) (slice_set es r.0 (Some p)) es) (sym (ap (slice_get es) (sym is) ∙ e)) ∙ ap (λ b. cond (b || is_none (option_flatten (slice_get es r.0))) (slice_set es r.0 (Some p)) es) (sym (le-ltb r.0 r.1 (omega arith)))

pub noted_past : (es : Notes) (r p : ℕ × ℕ) → length es ≤ r.0 → es ≡ noted es r p
noted_past es r p h = cond_both (nat_lt r.0 r.1 || is_none (option_flatten (slice_get es r.0))) (slice_set es r.0 (Some p)) es (λ v. es ≡ v) (λ e. sym (set_past es r.0 (Some p) h)) (λ e. refl)

notes-push : (ks : List ℕ) (ls : Links) (o : List ℕ) (es : Notes) (ts : Tokens) (t : Token) → notes_after ks ls o es (ts ++ t ∷ []) ≡ notes_of ks ls (added o (flat_map (brief ks ls) ts)) (notes_after ks ls o es ts) t
notes-push ks ls o es [] t = refl
notes-push ks ls o es (u ∷ ts) t =
    notes-push ks ls (added o (brief ks ls u)) (notes_of ks ls o es u) ts t ∙ ap (λ p. notes_of ks ls p (notes_after ks ls (added o (brief ks ls u)) (notes_of ks ls o es u) ts) t) (sym (added-append o (brief ks ls u) (flat_map (brief ks ls) ts)))

pub notes-more : (ks : List ℕ) (ls : Links) (o : List ℕ) (es : Notes) (ts : Tokens) (i : ℕ) (t : Token) → i < length ts → t ≡ get_or ts i t → notes_of ks ls (added o (flat_map (brief ks ls) (take i ts))) (notes_after ks ls o es (take i ts)) t ≡ notes_after ks ls o es (take (i + 1) ts)
notes-more ks ls o es ts i t h is = sym (ap (notes_after ks ls o es) (take_more ts i t h ∙ ap (λ y. take i ts ++ y ∷ []) (sym is)) ∙ notes-push ks ls o es (take i ts) t)
