-- The steps of the loops that find levels.
use Rattle.std.proofs.Common.{◌≡◌, ◌≢◌, ⊎_elim, ℕ, zero, suc, ◌+◌, ◌<◌, ◌≤◌, max, Bool, true, false, ◌==◌, ◌&&◌, nat_lt, if◌then◌else◌, List, [], ◌∷◌, ◌++◌, length, map, take, Option, Some, None, option_map, slice_set, get_or, add-zero, Vec, Global, refl, ap, sym, ◌∙◌, arith}
use Rattle.std.proofs.lemmas.Bool.{cases_lt, cases_eq, lt-ltb, le-ltb}
use Rattle.std.proofs.lemmas.List.{take_more, map_push, get_or-set_same, get_or-set_other}
use Rattle.naga_oil_form.specs.Links.{Links, lists, linked, has}
use Rattle.naga_oil_form.proofs.LinkLemmas.{eq_eqb, or_left, or_right, slice_get-set_same, linked-some}
use Rattle.naga_oil_redirect.specs.Count.{bit, count, times}
use Rattle.naga_oil_redirect.specs.Level.{above, known}
use Rattle.naga_oil_redirect.proofs.CountLemmas.{differs, bit_self, bit_other, count-append, times-push}
use Rattle.naga_oil_redirect.proofs.LevelLemmas.{above-cons, above_missing, split}

-- ---- what stands above the first callees

has_at : (xs : List ℕ) (i : ℕ) → i < length xs → has xs (get_or xs i 0) ≡ true
has_at [] i h = absurd (omega arith)
has_at (x ∷ xs) zero h = or_left (x == x) (has xs x) (eq_eqb x x refl)
has_at (x ∷ xs) (suc i) h = or_right (x == get_or xs i 0) (has xs (get_or xs i 0)) (has_at xs i (omega (arith, h)))

pub above_stops : (ls : List (Option ℕ)) (cs : List ℕ) (i : ℕ) → i < length cs → known ls (get_or cs i 0) ≡ None → above (map (known ls) cs) ≡ None
above_stops ls cs i h e = above_missing (known ls) cs (get_or cs i 0) (has_at cs i h) e

above-push : (os : List (Option ℕ)) (l m : ℕ) → above os ≡ Some l → above (os ++ Some m ∷ []) ≡ Some (max (m + 1) l)
above-push [] l m h = ap (λ v. option_map (max (m + 1)) v) h
above-push (o ∷ os) l m h =
    let s = split o os l h in
    above-cons s.front (max (m + 1) s.rest) o (os ++ Some m ∷ []) s.front_is (above-push os s.rest m s.rest_is) ∙ ap Some (omega (arith, s.greater))

pub above_more : (ls : List (Option ℕ)) (cs : List ℕ) (i l m : ℕ) → i < length cs → above (map (known ls) (take i cs)) ≡ Some l → known ls (get_or cs i 0) ≡ Some m → above (map (known ls) (take (i + 1) cs)) ≡ Some (max (m + 1) l)
above_more ls cs i l m h a e =
    ap (λ xs. above (map (known ls) xs)) (take_more cs i 0 h) ∙ ap above (map_push (known ls) (take i cs) (get_or cs i 0)) ∙ ap (λ o. above (map (known ls) (take i cs) ++ o ∷ [])) e ∙ above-push (map (known ls) (take i cs)) l m a

-- ---- counting off

count-take : (p : ℕ → Bool) (n : ℕ) (xs : List ℕ) → count p (take n xs) ≤ count p xs
count-take p zero xs = omega arith
count-take p (suc n) [] = omega arith
count-take p (suc n) (x ∷ xs) = let r = count-take p n xs in omega (arith, r)

times-more : (k : ℕ) (xs : List ℕ) (i : ℕ) → i < length xs → times k (take (i + 1) xs) ≡ times k (take i xs) + bit (get_or xs i 0 == k)
times-more k xs i h = ap (times k) (take_more xs i 0 h) ∙ times-push k (take i xs) (get_or xs i 0)

-- the call that is counted off next is open
pub open_yet : (xs pending before : List ℕ) (i : ℕ) → i < length xs → ((k : ℕ) → times k xs ≤ get_or before k 0) → ((k : ℕ) → get_or pending k 0 + times k (take i xs) ≡ get_or before k 0) → 1 ≤ get_or pending (get_or xs i 0) 0
open_yet xs pending before i h most left =
    let k = get_or xs i 0 in
    let taken = count-take (λ y. y == k) (i + 1) xs in
    omega (arith, taken, times-more k xs i h, most k, left k, bit_self k k refl)

pub within_from : (xs : List ℕ) (k : ℕ) → 1 ≤ get_or xs k 0 → k < length xs
within_from [] k h = absurd (omega arith)
within_from (x ∷ xs) zero h = omega arith
within_from (x ∷ xs) (suc k) h = let r = within_from xs k h in omega (arith, r)

pub left_more : (xs pending before : List ℕ) (i v : ℕ) → i < length xs → get_or xs i 0 < length pending → v + 1 ≡ get_or pending (get_or xs i 0) 0 → ((k : ℕ) → get_or pending k 0 + times k (take i xs) ≡ get_or before k 0) → (k : ℕ) → get_or (slice_set pending (get_or xs i 0) v) k 0 + times k (take (i + 1) xs) ≡ get_or before k 0
left_more xs pending before i v h in_range e left k =
    let j = get_or xs i 0 in
    ⊎_elim (λ (s : k ≡ j). omega (arith, times-more k xs i h, left k, bit_self j k (sym s), ap (λ m. get_or (slice_set pending j v) m 0) s ∙ get_or-set_same pending j v 0 in_range, ap (λ m. get_or pending m 0) s ∙ sym e)) (λ (d : k ≢ j). omega (arith, times-more k xs i h, left k, bit_other j k (λ s. d (sym s)), get_or-set_other pending j k v 0 d)) (cases_eq k j)

-- a list of one, if a test passes
one_same : (k j : ℕ) (b : Bool) → k ≡ j → times k (if b then j ∷ [] else []) ≡ bit b
one_same k j true s = let b = bit_self j k (sym s) in omega (arith, b)
one_same k j false s = refl

one_other : (k j : ℕ) (b : Bool) → k ≢ j → times k (if b then j ∷ [] else []) ≡ 0
one_other k j true d = let b = bit_other j k (λ s. d (sym s)) in omega (arith, b)
one_other k j false d = refl

-- one that has no more is ready
pub ready_more : (pending ready next : List ℕ) (j v : ℕ) → j < length pending → 1 ≤ get_or pending j 0 → ((k : ℕ) → times k next ≡ times k ready + times k (if v == 0 then j ∷ [] else [])) → (k : ℕ) → times k next + bit (get_or pending k 0 == 0) ≡ times k ready + bit (get_or (slice_set pending j v) k 0 == 0)
ready_more pending ready next j v h one e k =
    ⊎_elim (λ (s : k ≡ j). omega (arith, e k, one_same k j (v == 0) s, ap (λ m. bit (get_or (slice_set pending j v) m 0 == 0)) s ∙ ap (λ n. bit (n == 0)) (get_or-set_same pending j v 0 h), bit_other (get_or pending k 0) 0 (λ z. omega (arith, z, one, ap (λ m. get_or pending m 0) s)))) (λ (d : k ≢ j). omega (arith, e k, one_other k j (v == 0) d, ap (λ n. bit (n == 0)) (get_or-set_other pending j k v 0 d))) (cases_eq k j)

-- ---- who calls a function

pub linked-set_same : (vs : List (Vec ℕ Global)) (j : ℕ) (v : Vec ℕ Global) → j < length vs → linked (lists (slice_set vs j v)) j ≡ v.items
linked-set_same vs j v h = linked-some (slice_set vs j v) j v (slice_get-set_same vs j v h)

pub linked-set_other : (vs : List (Vec ℕ Global)) (j c : ℕ) (v : Vec ℕ Global) → c ≢ j → linked (lists (slice_set vs j v)) c ≡ linked (lists vs) c
linked-set_other [] j c v d = refl
linked-set_other (w ∷ vs) zero zero v d = absurd (d refl)
linked-set_other (w ∷ vs) zero (suc c) v d = refl
linked-set_other (w ∷ vs) (suc j) zero v d = refl
linked-set_other (w ∷ vs) (suc j) (suc c) v d = linked-set_other vs j c v (λ e. d (ap suc e))

pushed : (vs : List (Vec ℕ Global)) (j f : ℕ) (v : Vec ℕ Global) → j < length vs → v.items ≡ linked (lists vs) j ++ f ∷ [] → (c k : ℕ) → times k (linked (lists (slice_set vs j v)) c) ≡ times k (linked (lists vs) c) + times c (if f == k then j ∷ [] else [])
pushed vs j f v h e c k =
    ⊎_elim (λ (s : c ≡ j). omega (arith, ap (λ d. times k (linked (lists (slice_set vs j v)) d)) s ∙ ap (times k) (linked-set_same vs j v h ∙ e) ∙ times-push k (linked (lists vs) j) f, one_same c j (f == k) s, ap (λ d. times k (linked (lists vs) d)) s)) (λ (d : c ≢ j). omega (arith, ap (times k) (linked-set_other vs j c v d), one_other c j (f == k) d)) (cases_eq c j)

taken : (c i : ℕ) (cs : List ℕ) (b : Bool) → i < length cs → times c (if b then take (i + 1) cs else []) ≡ times c (if b then take i cs else []) + times c (if b then get_or cs i 0 ∷ [] else [])
taken c i cs true h = let t = times-more c cs i h in omega (arith, t)
taken c i cs false h = refl

pub push_more : (first vs : List (Vec ℕ Global)) (cs : List ℕ) (i f : ℕ) (v : Vec ℕ Global) → i < length cs → get_or cs i 0 < length vs → v.items ≡ linked (lists vs) (get_or cs i 0) ++ f ∷ [] → ((c k : ℕ) → times k (linked (lists vs) c) ≡ times k (linked (lists first) c) + times c (if f == k then take i cs else [])) → (c k : ℕ) → times k (linked (lists (slice_set vs (get_or cs i 0) v)) c) ≡ times k (linked (lists first) c) + times c (if f == k then take (i + 1) cs else [])
push_more first vs cs i f v h j e so_far c k = omega (arith, pushed vs (get_or cs i 0) f v j e c k, so_far c k, taken c i cs (f == k) h)

turn_same : (calls : Links) (f k c : ℕ) → k ≡ f → times c (if f == k then linked calls f else []) ≡ times c (linked calls k)
turn_same calls f k c s = ap (λ b. times c (if b then linked calls f else [])) (eq_eqb f k (sym s)) ∙ ap (λ m. times c (linked calls m)) (sym s)

turn_other : (calls : Links) (f k c : ℕ) → k ≢ f → times c (if f == k then linked calls f else []) ≡ 0
turn_other calls f k c d = ap (λ b. times c (if b then linked calls f else [])) (differs f k (λ s. d (sym s)))

-- the functions before one are through
pub record IsTurned (calls callers : Links) (f : ℕ) : Type 0 where
  pub done : (c k : ℕ) → k < f → times k (linked callers c) ≡ times c (linked calls k)
  pub others : (c k : ℕ) → f ≤ k → times k (linked callers c) ≡ 0

pub turn_more : (calls callers next : Links) (f : ℕ) → IsTurned calls callers f → ((c k : ℕ) → times k (linked next c) ≡ times k (linked callers c) + times c (if f == k then linked calls f else [])) → IsTurned calls next (f + 1)
turn_more calls callers next f t e = record {
  done = λ c k h. ⊎_elim (λ (s : k ≡ f). omega (arith, e c k, t.others c k (omega (arith, s)), turn_same calls f k c s)) (λ (d : k ≢ f). omega (arith, e c k, t.done c k (omega (arith, h, d)), turn_other calls f k c d)) (cases_eq k f);
  others = λ c k h. omega (arith, e c k, t.others c k (omega (arith, h)), turn_other calls f k c (omega (arith, h)));
}

-- ---- functions without calls

pub zero_more : (e : ℕ → Bool) (ready next : List ℕ) (i : ℕ) → ((k : ℕ) → times k ready ≡ bit (nat_lt k i && e k)) → ((k : ℕ) → times k next ≡ times k ready + times k (if e i then i ∷ [] else [])) → (k : ℕ) → times k next ≡ bit (nat_lt k (i + 1) && e k)
zero_more e ready next i so_far step k =
    let all = λ (n : ℕ) (h : k < n). ap (λ b. bit (b && e k)) (lt-ltb k n h) in
    let none = λ (n : ℕ) (h : n ≤ k). ap (λ b. bit (b && e k)) (le-ltb k n h) in
    ⊎_elim (λ (s : k ≡ i). omega (arith, step k, so_far k, none i (omega (arith, s)), one_same k i (e i) s, all (i + 1) (omega (arith, s)), ap (λ m. bit (e m)) s)) (λ (d : k ≢ i). ⊎_elim (λ (h : k < i). omega (arith, step k, so_far k, all i h, one_other k i (e i) d, all (i + 1) (omega (arith, h)))) (λ (h : i ≤ k). omega (arith, step k, so_far k, none i h, one_other k i (e i) d, none (i + 1) (omega (arith, h, d)))) (cases_lt k i)) (cases_eq k i)

-- one more, or none, as a test says
pub one_then : (ready next : List ℕ) (j : ℕ) (b : Bool) → b ≡ true → next ≡ ready ++ j ∷ [] → (k : ℕ) → times k next ≡ times k ready + times k (if b then j ∷ [] else [])
one_then ready next j b t e k = ap (times k) e ∙ count-append (λ y. y == k) ready (j ∷ []) ∙ ap (λ v. times k ready + times k (if v then j ∷ [] else [])) (sym t)

pub one_else : (ready next : List ℕ) (j : ℕ) (b : Bool) → b ≡ false → next ≡ ready → (k : ℕ) → times k next ≡ times k ready + times k (if b then j ∷ [] else [])
one_else ready next j b f e k = ap (times k) e ∙ sym (add-zero (times k ready)) ∙ ap (λ v. times k ready + times k (if v then j ∷ [] else [])) (sym f)

pub counts_more : (vs : List (Vec ℕ Global)) (i : ℕ) (v : Vec ℕ Global) (counts : List ℕ) (n : ℕ) → i < length vs → v ≡ get_or vs i v → n ≡ length v.items → counts ≡ map length (lists (take i vs)) → counts ++ n ∷ [] ≡ map length (lists (take (i + 1) vs))
counts_more vs i v counts n h e long so_far =
    let front = ap (λ xs. xs ++ n ∷ []) so_far in
    let last = ap (λ m. map length (lists (take i vs)) ++ m ∷ []) (long ∙ ap (λ w. length w.items) e) in
    let joined = map_push (length {A = ℕ}) (lists (take i vs)) (get_or vs i v).items in
    let inner = ap (map (length {A = ℕ})) (sym (map_push (λ w. w.items) (take i vs) (get_or vs i v))) in
    let back = ap (λ ws. map (length {A = ℕ}) (lists ws)) (sym (take_more vs i v h)) in
    front ∙ last ∙ sym joined ∙ inner ∙ back
