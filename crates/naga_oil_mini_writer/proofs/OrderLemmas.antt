-- Items with equal names, and lines that are removed from the end.
use Rattle.std.proofs.Common.{◌≡◌, ℕ, zero, suc, min, ◌&&◌, ◌+◌, ◌-◌, ◌<◌, Bool, true, false, cond, List, [], ◌∷◌, ◌++◌, length, Option, Some, None, is_some, option_map, refl, sym, ap, subst, ◌∙◌, arith, bytes_eq, set, slice_get, get_or, drop, Bor, ◌≤◌, max, replicate, reverse}
use lib.Seq.{drop-cons}
use Rattle.std.proofs.lemmas.Option.{none-some, same_Some, slice_get-map, slice_get_past}
use Rattle.std.specs.Option.{option_or, IfSome}
use Rattle.std.proofs.lemmas.Bool.Decides.{same_from_decides, nat_tests}
use Rattle.std.proofs.lemmas.List.{length-replicate, reverse-append, replicate_more}
use Rattle.std.proofs.lemmas.Slice.Eq.{bytes_eq-Decides}
use Rattle.naga_oil_mini_symbols.specs.NameTable.{last_place, texts_of}
use Rattle.naga_oil_mini_writer.specs.Order.{greatest_count, place_from, next_places, bounds_used, take_last, fits, fit, anywhere, needing, has_order}
use Rattle.naga_oil_mini_writer.specs.declared.order.Bounds.{Bounds}
use Rattle.naga_oil_mini_writer.specs.declared.order.Room.{Room}

bytes_eq-sym : (a b : List ℕ) → bytes_eq a b ≡ bytes_eq b a
bytes_eq-sym a b =
    let d = bytes_eq-Decides b a in
    same_from_decides (bytes_eq a b) (bytes_eq b a) (bytes_eq-Decides a b) (λ e. sym (d.0 e), λ e. d.1 (sym e))

-- a later name that isn't equal changes nothing
place_from-other : (i : ℕ) (n x : List ℕ) (ns : List (List ℕ)) → bytes_eq n x ≡ false → place_from i n (ns ++ x ∷ []) ≡ place_from i n ns
place_from-other i n x [] e = ap (λ b. cond b i greatest_count) e
place_from-other i n x (m ∷ ns) e = ap (λ k. cond (bytes_eq n m) i k) (place_from-other (i + 1) n x ns e)

-- whether a name is among others
is_there : List ℕ → List (List ℕ) → Bool
is_there n [] = false
is_there n (m ∷ ms) = cond (bytes_eq n m) true (is_there n ms)

-- nor does a name after an equal one
place_from-later : (i : ℕ) (n x : List ℕ) (ns : List (List ℕ)) → is_there n ns ≡ true → place_from i n (ns ++ x ∷ []) ≡ place_from i n ns
unfolding is_there
place_from-later i n x [] e = cc
place_from-later i n x (m ∷ ns) e =
    elim (bytes_eq n m) as (λ b. cond b true (is_there n ns) ≡ true → cond b i (place_from (i + 1) n (ns ++ x ∷ [])) ≡ cond b i (place_from (i + 1) n ns))
    [ true ↦ λ _. refl | false ↦ λ there. place_from-later (i + 1) n x ns there ] e

-- the first equal one is found
place_from-first : (i : ℕ) (n x : List ℕ) (ns : List (List ℕ)) → is_there n ns ≡ false → bytes_eq n x ≡ true → place_from i n (ns ++ x ∷ []) ≡ i + length ns
unfolding is_there
place_from-first i n x [] e s = ap (λ b. cond b i greatest_count) s ∙ omega arith
place_from-first i n x (m ∷ ns) e s =
    elim (bytes_eq n m) as (λ b. cond b true (is_there n ns) ≡ false → cond b i (place_from (i + 1) n (ns ++ x ∷ [])) ≡ i + suc (length ns))
    [ true ↦ λ there. cc | false ↦ λ there. place_from-first (i + 1) n x ns there s ∙ omega arith ] e

-- a name is in the list where it has a last place
is_there-last : (n : List ℕ) (ns : List (List ℕ)) → is_there n ns ≡ is_some (last_place n ns)
unfolding is_there
is_there-last n [] = refl
is_there-last n (m ∷ ms) =
    ap (λ b. cond b true (is_there n ms)) (bytes_eq-sym n m) ∙ ap (λ t. cond (bytes_eq m n) true t) (is_there-last n ms) ∙ joined (bytes_eq m n) (last_place n ms)
  where
    joined : (b : Bool) (o : Option ℕ) → cond b true (is_some o) ≡ is_some (option_or (option_map suc o) (cond b (Some 0) None))
    joined true None = refl
    joined true (Some p) = refl
    joined false None = refl
    joined false (Some p) = refl

-- the places of a list in which a name is marked at a place
abbrev pub marked : List ℕ → Option ℕ → ℕ → List ℕ
marked ps None k = ps
marked ps (Some p) k = set ps p k

-- names and their next places that begin with a name n, with x appended
marked_first : (i : ℕ) (x n : List ℕ) (ns : List (List ℕ)) (o : Option ℕ) (b : Bool) → is_there x ns ≡ is_some o → bytes_eq n x ≡ b
    → place_from (i + 1) n (ns ++ x ∷ []) ∷ (marked (next_places (i + 1) ns) o (i + suc (length ns)) ++ greatest_count ∷ [])
    ≡ marked (place_from (i + 1) n ns ∷ next_places (i + 1) ns) (option_or (option_map suc o) (cond b (Some 0) None)) (i + suc (length ns)) ++ greatest_count ∷ []
marked_first i x n ns (Some p) true t e =
    let same = bytes_eq-Decides n x in
    ap (λ k. k ∷ (set (next_places (i + 1) ns) p (i + suc (length ns)) ++ greatest_count ∷ [])) (place_from-later (i + 1) n x ns (ap (λ m. is_there m ns) (same.0 e) ∙ t))
marked_first i x n ns (Some p) false t e =
    ap (λ k. k ∷ (set (next_places (i + 1) ns) p (i + suc (length ns)) ++ greatest_count ∷ [])) (place_from-other (i + 1) n x ns e)
marked_first i x n ns None true t e =
    let same = bytes_eq-Decides n x in
    ap (λ k. k ∷ (next_places (i + 1) ns ++ greatest_count ∷ [])) (place_from-first (i + 1) n x ns (ap (λ m. is_there m ns) (same.0 e) ∙ t) e ∙ omega arith)
marked_first i x n ns None false t e = ap (λ k. k ∷ (next_places (i + 1) ns ++ greatest_count ∷ [])) (place_from-other (i + 1) n x ns e)

next_places-push : (i : ℕ) (x : List ℕ) (ns : List (List ℕ)) → next_places i (ns ++ x ∷ []) ≡ marked (next_places i ns) (last_place x ns) (i + length ns) ++ greatest_count ∷ []
next_places-push i x [] = refl
next_places-push i x (n ∷ ns) =
    let e : i + 1 + length ns ≡ i + suc (length ns) = omega arith in
    ap (λ t. place_from (i + 1) n (ns ++ x ∷ []) ∷ t) (next_places-push (i + 1) x ns ∙ ap (λ k. marked (next_places (i + 1) ns) (last_place x ns) k ++ greatest_count ∷ []) e)
    ∙ marked_first i x n ns (last_place x ns) (bytes_eq n x) (is_there-last x ns) refl

-- one name more, whose last place is known
pub next_places-more : (x : List ℕ) (ns : List (List ℕ)) (o : Option ℕ) → last_place x ns ≡ o → next_places 0 (ns ++ x ∷ []) ≡ marked (next_places 0 ns) o (length ns) ++ greatest_count ∷ []
next_places-more x ns o e =
    let none : 0 + length ns ≡ length ns = omega arith in
    next_places-push 0 x ns ∙ ap (λ q. marked (next_places 0 ns) q (0 + length ns) ++ greatest_count ∷ []) e ∙ ap (λ k. marked (next_places 0 ns) o k ++ greatest_count ∷ []) none

pub length-next_places : (i : ℕ) (ns : List (List ℕ)) → length (next_places i ns) ≡ length ns
length-next_places i [] = refl
length-next_places i (n ∷ ns) = ap suc (length-next_places (i + 1) ns)

-- a name's next place is the first among those after it
pub next_at : (i k : ℕ) (n : List ℕ) (ns : List (List ℕ)) → slice_get ns k ≡ Some n → slice_get (next_places i ns) k ≡ Some (place_from (i + suc k) n (drop (suc k) ns))
next_at i k n [] e = absurd (none-some n e)
next_at i zero n (m ∷ ns) e = ap (λ x. Some (place_from (i + 1) x ns)) (same_Some m n e)
next_at i (suc k) n (m ∷ ns) e =
    let same : i + 1 + suc k ≡ i + suc (suc k) = omega arith in
    next_at (i + 1) k n ns e ∙ ap (λ j. Some (place_from j n (drop (suc k) ns))) same

-- where there is no name there is no next one
pub next_none : (i k : ℕ) (ns : List (List ℕ)) → slice_get ns k ≡ None → slice_get (next_places i ns) k ≡ None
next_none i k [] e = refl
next_none i zero (m ∷ ns) e = absurd (none-some m (sym e))
next_none i (suc k) (m ∷ ns) e = next_none (i + 1) k ns e

-- a name is the first equal one, or the first is after it
pub place_step : (ts : List (Bor (List ℕ))) (k : ℕ) (n : List ℕ) (d : Bor (List ℕ)) → k < length ts
    → place_from k n (texts_of (drop k ts)) ≡ cond (bytes_eq n (get_or ts k d).now) k (place_from (k + 1) n (texts_of (drop (k + 1) ts)))
place_step ts k n d within =
    let next : suc k ≡ k + 1 = omega arith in
    ap (λ (xs : List (Bor (List ℕ))). place_from k n (texts_of xs)) (drop-cons ts k d within) ∙ ap (λ j. cond (bytes_eq n (get_or ts k d).now) k (place_from (k + 1) n (texts_of (drop j ts)))) next

-- nothing is used where there is no name
pub unused : (ns : List (List ℕ)) (k : ℕ) (b : Bounds) → slice_get ns k ≡ None → b ≡ bounds_used ns k b
unused ns k b e = by (slice_get (next_places 0 ns) k) (next_none 0 k ns e)
  where
    by : (o : Option ℕ) → o ≡ None → b ≡ elim o [ None ↦ b | Some next ↦ record { least = max b.least (k + 1); most = min b.most next } ]
    by None h = refl
    by (Some next) h = absurd (none-some next (sym h))

-- the name at a place
pub text_there : (ts : List (Bor (List ℕ))) (k : ℕ) (t : Bor (List ℕ)) → slice_get ts k ≡ Some t → slice_get (texts_of ts) k ≡ Some t.now
text_there ts k t e = slice_get-map (λ x. x.now) ts k ∙ ap (option_map (λ x. x.now)) e

pub text_past : (ts : List (Bor (List ℕ))) (k : ℕ) → length ts ≤ k → slice_get (texts_of ts) k ≡ None
text_past ts k e = slice_get-map (λ x. x.now) ts k ∙ ap (option_map (λ x. x.now)) (slice_get_past ts k e)

bounded : (q : List ℕ) (ns : List (List ℕ)) → IfSome (last_place q ns) (λ p. p < length ns)
bounded q [] = tt
bounded q (n ∷ ns) = bound (bytes_eq n q) (last_place q ns) (bounded q ns)
  where
    bound : (b : Bool) (o : Option ℕ) → IfSome o (λ p. p < length ns) → IfSome (option_or (option_map suc o) (cond b (Some 0) None)) (λ p. p < suc (length ns))
    bound b (Some p) h = omega arith
    bound true None h = omega arith
    bound false None h = tt

pub last_place-bound : (q : List ℕ) (ns : List (List ℕ)) (p : ℕ) → last_place q ns ≡ Some p → p < length ns
last_place-bound q ns p e = subst (λ o. IfSome o (λ k. k < length ns)) e (bounded q ns)

-- ---- the first place of a name
none_from : (i : ℕ) (n : List ℕ) (ns : List (List ℕ)) → is_there n ns ≡ false → place_from i n ns ≡ greatest_count
unfolding is_there
none_from i n [] e = refl
none_from i n (m ∷ ms) e =
    elim (bytes_eq n m) as (λ b. cond b true (is_there n ms) ≡ false → cond b i (place_from (i + 1) n ms) ≡ greatest_count) [ true ↦ λ there. cc | false ↦ λ there. none_from (i + 1) n ms there ] e

-- a name that has no last place has no first one
pub first_none : (n : List ℕ) (ns ms : List (List ℕ)) → false ≡ is_some (last_place n ns) → ns ≡ ms → greatest_count ≡ place_from 0 n ms
first_none n ns ms e same = sym (none_from 0 n ns (is_there-last n ns ∙ sym e)) ∙ ap (place_from 0 n) same

-- ---- lines that are taken from the end
-- what the line that is taken makes of those before it
abbrev onward : (k c g : ℕ) → Option (Room × List Room × List Room) → Bool
onward k c g o = elim o as (λ _. Bool) [
  | None ↦ true
  | Some t ↦ fits t.0 (length t.1) (min c t.0.constants.most) (min g t.0.globals.most) && fit k (min c t.0.constants.most) (min g t.0.globals.most) t.1 t.2
]

-- a line is taken, and its test is known
pub fit_taken : (n i c g k j f : ℕ) (fs es : List Room) (l : Room) (gs hs : List Room) (b whole : Bool) → i < n → take_last fs es ≡ Some (l, gs, hs)
    → k ≡ min c l.constants.most → j ≡ min g l.globals.most → f ≡ length gs → fits l f k j ≡ b → fit (n - i) c g fs es ≡ whole → (b && fit (n - (i + 1)) k j gs hs) ≡ whole
fit_taken n i c g k j f fs es l gs hs b whole h e ek ej ef eb w =
    let one : n - i ≡ suc (n - (i + 1)) = omega arith in
    ap (λ x. x && fit (n - (i + 1)) k j gs hs) (sym eb) ∙ ap (λ x. fits l x k j && fit (n - (i + 1)) k j gs hs) ef
    ∙ ap (λ x. fits l (length gs) x j && fit (n - (i + 1)) x j gs hs) ek
    ∙ ap (λ x. fits l (length gs) (min c l.constants.most) x && fit (n - (i + 1)) (min c l.constants.most) x gs hs) ej
    ∙ ap (onward (n - (i + 1)) c g) (sym e) ∙ ap (λ x. fit x c g fs es) (sym one) ∙ w

pub fit_none : (k c g : ℕ) (fs es : List Room) → take_last fs es ≡ None → fit k c g fs es ≡ true
fit_none zero c g fs es e = refl
fit_none (suc k) c g fs es e = ap (onward k c g) e

-- ---- lines that name nothing
needing_nothing : (n : ℕ) → needing 0 0 (replicate n anywhere) ≡ replicate n anywhere
needing_nothing zero = refl
needing_nothing (suc n) = ap (λ ls. anywhere ∷ ls) (needing_nothing n)

fits_anywhere : (f c g : ℕ) → f ≤ greatest_count → fits anywhere f c g ≡ true
fits_anywhere f c g e = grind (arith, nat_tests)

fit_anywhere : (n c g : ℕ) → n ≤ greatest_count → fit n c g (replicate n anywhere) [] ≡ true
fit_anywhere zero c g e = refl
fit_anywhere (suc n) c g e =
    let k = min c greatest_count in
    let j = min g greatest_count in
    let first : fits anywhere (length (replicate n anywhere)) k j ≡ true = fits_anywhere (length (replicate n anywhere)) k j (omega (arith, length-replicate n anywhere)) in
    rw first (fit_anywhere n k j (omega arith))

reverse_same : (n : ℕ) (r : Room) → reverse (replicate n r) ≡ replicate n r
reverse_same zero r = refl
reverse_same (suc n) r =
    let next : n + 1 ≡ suc n = omega arith in
    reverse-append (r ∷ []) (replicate n r) ∙ ap (λ t. t ++ r ∷ []) (reverse_same n r) ∙ replicate_more n r ∙ ap (λ k. replicate k r) next

-- they have an order
pub anywhere_has_order : (n : ℕ) → n ≤ greatest_count → has_order (replicate n anywhere) [] ≡ true
unfolding has_order
anywhere_has_order n e =
    let count : length (replicate n anywhere) + 0 ≡ n = omega (arith, length-replicate n anywhere) in
    rw (needing_nothing n, reverse_same n anywhere, count) (fit_anywhere n greatest_count greatest_count e)
