use Rattle.std.proofs.Common.{◌≡◌, ◌≢◌, ⊎_elim, ℕ, zero, suc, ◌+◌, ◌<◌, ◌≤◌, max, Bool, true, false, ◌==◌, ◌&&◌, nat_lt, List, [], ◌∷◌, ◌++◌, length, map, replicate, IfSome, Option, Some, None, is_some, is_none, slice_get, slice_set, get_or, length-set, add-zero, zero-add, refl, ap, sym, ◌∙◌, arith}
use Rattle.std.specs.List.{range_with_len}
use Rattle.std.specs.Option.{option_flatten}
use Rattle.std.proofs.lemmas.Bool.{cases_lt, cases_eq, cases_Bool, lt-ltb, le-ltb, false≢true}
use Rattle.std.proofs.lemmas.List.{get_or_past, length-replicate, length-map}
use Rattle.std.proofs.lemmas.Option.{slice_get_past, slice_get_within}
use Rattle.naga_oil_form.specs.Links.{Links, linked, has}
use Rattle.naga_oil_form.proofs.LinkLemmas.{All-has, eqb_eq, eq_eqb, or_left, or_right}
use Rattle.naga_oil_redirect.specs.Count.{bit, count, times}
use Rattle.naga_oil_redirect.specs.Level.{StayWithin, above, level, levels, known}
use Rattle.naga_oil_redirect.proofs.CountLemmas.{bit_self, bit_true, bit_false, times-push, count_all, count_some, count_none, some-bit, count-set, known-set_same, known-set_other}
use Rattle.naga_oil_redirect.proofs.LevelLemmas.{above-cons, above_agree, level_is, level_lies_below, no_levels}

-- ---- numbers and tests

bit_le : (b : Bool) → bit b ≤ 1
bit_le true = omega arith
bit_le false = omega arith

none_if : (o : Option ℕ) → bit (is_some o) ≡ 0 → o ≡ None
none_if None h = refl
none_if (Some l) h = absurd (omega (arith, h))

bit_same : (a b : ℕ) → 0 < bit (a == b) → a ≡ b
bit_same a b h = ⊎_elim (λ e. eqb_eq a b e) (λ e. absurd (omega (arith, h, bit_false (a == b) e))) (cases_Bool (a == b))

some_of : (o : Option ℕ) → is_none o ≡ false → (l : ℕ) × (o ≡ Some l)
some_of None h = absurd (false≢true (sym h))
some_of (Some l) h = (l, refl)

none_of : (o : Option ℕ) → is_none o ≡ true → o ≡ None
none_of None h = refl
none_of (Some l) h = absurd (false≢true h)

-- ---- levels that are known

pub known_there : (ls : List (Option ℕ)) (k l : ℕ) → known ls k ≡ Some l → k < length ls
known_there [] k l h = cc
known_there (o ∷ ls) zero l h = omega arith
known_there (o ∷ ls) (suc k) l h = let r = known_there ls k l h in omega (arith, r)

pub unknown_past : (ls : List (Option ℕ)) (k : ℕ) → length ls ≤ k → known ls k ≡ None
unknown_past ls k h = ap option_flatten (slice_get_past ls k h)

all_known : (f : ℕ → Option ℕ) (cs : List ℕ) → ((c : ℕ) → has cs c ≡ true → is_none (f c) ≡ false) → (l : ℕ) × (above (map f cs) ≡ Some l)
all_known f [] h = (0, refl)
all_known f (c ∷ cs) h =
    let front = some_of (f c) (h c (or_left (c == c) (has cs c) (eq_eqb c c refl))) in
    let rest = all_known f cs (λ d e. h d (or_right (c == d) (has cs d) e)) in
    (max (front.0 + 1) rest.0, above-cons front.0 rest.0 (f c) (map f cs) front.1 rest.1)

-- how far the levels are known: those that are are right, the calls to others are counted, and without such a call a
-- function is ready or known
pub record IsGoing (calls : Links) (pending ready : List ℕ) (ls : List (Option ℕ)) : Type 0 where
  pub long : length ls ≡ length calls
  pub long_pending : length pending ≡ length calls
  pub sound : (k l : ℕ) → known ls k ≡ Some l → level calls k ≡ Some l
  pub left : (k : ℕ) → get_or pending k 0 ≡ count (λ c. is_none (known ls c)) (linked calls k)
  pub settled : (k : ℕ) → k < length calls → times k ready + bit (is_some (known ls k)) ≡ bit (get_or pending k 0 == 0)
  pub within : (k : ℕ) → length calls ≤ k → times k ready ≡ 0

short_at : (calls : Links) (ls : List (Option ℕ)) (k : ℕ) (o : Option ℕ) → length ls ≡ length calls → ((l : ℕ) → known ls k ≡ Some l → level calls k ≡ Some l) → known ls k ≡ o → IfSome o (λ l. l < length ls)
short_at calls ls k None long sound e = tt
short_at calls ls k (Some l) long sound e = let b = level_lies_below calls (length calls) k l (sound l e) in omega (arith, b, long)

-- each known level lies below the number of functions
pub short : (calls : Links) (pending ready : List ℕ) (ls : List (Option ℕ)) → IsGoing calls pending ready ls → (k : ℕ) → IfSome (known ls k) (λ l. l < length ls)
short calls pending ready ls g k = short_at calls ls k (known ls k) g.long (g.sound k) refl

-- a function that is ready: its level isn't known, and may be
pub record IsReady (calls : Links) (ls : List (Option ℕ)) (f l : ℕ) : Type 0 where
  pub within : f < length calls
  pub fresh : known ls f ≡ None
  pub found : above (map (known ls) (linked calls f)) ≡ Some l
  pub right : level calls f ≡ Some l

pub ready_is : (calls : Links) → StayWithin calls → (pending ready : List ℕ) (ls : List (Option ℕ)) (f : ℕ) → IsGoing calls pending ready ls → 0 < times f ready → (l : ℕ) × IsReady calls ls f l
ready_is calls w pending ready ls f g h =
    let within : f < length calls = ⊎_elim (λ (i : f < length calls). i) (λ (i : length calls ≤ f). absurd (omega (arith, h, g.within f i))) (cases_lt f (length calls)) in
    let settled = g.settled f within in
    let fresh = none_if (known ls f) (omega (arith, h, settled, bit_le (get_or pending f 0 == 0))) in
    let nothing = bit_same (get_or pending f 0) 0 (omega (arith, h, settled)) in
    let callees = all_known (known ls) (linked calls f) (count_none (λ c. is_none (known ls c)) (linked calls f) (sym (g.left f) ∙ nothing)) in
    let right = above_agree (known ls) (level calls) (linked calls f) callees.0 callees.1 (λ c m e i. g.sound c m e) in
    (callees.0, record { within = within; fresh = fresh; found = callees.1; right = level_is calls w f within ∙ right })

-- a weaker property holds of at least as many elements
count_more : (p q : ℕ → Bool) → ((x : ℕ) → p x ≡ true → q x ≡ true) → (xs : List ℕ) → count p xs ≤ count q xs
count_more p q h [] = omega arith
count_more p q h (x ∷ xs) = let r = count_more p q h xs in ⊎_elim (λ e. omega (arith, r, bit_true (p x) e, bit_true (q x) (h x e))) (λ e. omega (arith, r, bit_false (p x) e)) (cases_Bool (p x))

pub enough : (calls : Links) (pending ready : List ℕ) (ls : List (Option ℕ)) (f : ℕ) → IsGoing calls pending ready ls → known ls f ≡ None → (k : ℕ) → times f (linked calls k) ≤ get_or pending k 0
enough calls pending ready ls f g fresh k =
    let more = count_more (λ y. y == f) (λ c. is_none (known ls c)) (λ x e. ap (λ j. is_none (known ls j)) (eqb_eq x f e) ∙ ap is_none fresh) (linked calls k) in
    omega (arith, more, g.left k)

sound_on : (calls : Links) (ls : List (Option ℕ)) (f l : ℕ) → f < length ls → ((k m : ℕ) → known ls k ≡ Some m → level calls k ≡ Some m) → level calls f ≡ Some l → (k m : ℕ) → known (slice_set ls f (Some l)) k ≡ Some m → level calls k ≡ Some m
sound_on calls ls f l i sound right k m h =
    ⊎_elim (λ (e : k ≡ f). ap (level calls) e ∙ right ∙ sym (known-set_same ls f (Some l) i) ∙ ap (known (slice_set ls f (Some l))) (sym e) ∙ h) (λ (e : k ≢ f). sound k m (sym (known-set_other ls f k (Some l) e) ∙ h)) (cases_eq k f)

-- a step: the level of a function that was ready gets known, and its callers have a call less that is open
pub going_on : (calls : Links) (callers : List ℕ) (f l : ℕ) (pending pending' ready rest ready' : List ℕ) (ls : List (Option ℕ)) → IsGoing calls pending ready ls → ready ≡ rest ++ f ∷ [] → IsReady calls ls f l → ((k : ℕ) → times k callers ≡ times f (linked calls k)) → length pending' ≡ length pending → ((k : ℕ) → get_or pending' k 0 + times k callers ≡ get_or pending k 0) → ((k : ℕ) → times k ready' + bit (get_or pending k 0 == 0) ≡ times k rest + bit (get_or pending' k 0 == 0)) → IsGoing calls pending' ready' (slice_set ls f (Some l))
going_on calls callers f l pending pending' ready rest ready' ls g e r turned long left settled =
    let i : f < length ls = omega (arith, r.within, g.long) in
    let popped = λ (k : ℕ). ap (times k) e ∙ times-push k rest f in
    record {
      long = length-set ls f (Some l) ∙ g.long;
      long_pending = long ∙ g.long_pending;
      sound = sound_on calls ls f l i g.sound r.right;
      left = λ k. omega (arith, left k, turned k, g.left k, count-set ls f l i r.fresh (linked calls k));
      settled = λ k j. omega (arith, settled k, g.settled k j, popped k, some-bit ls f l k i r.fresh);
      within = λ k j. let past : get_or pending k 0 ≡ 0 = get_or_past pending k 0 (omega (arith, j, g.long_pending)) in let past' : get_or pending' k 0 ≡ 0 = get_or_past pending' k 0 (omega (arith, j, g.long_pending, long)) in omega (arith, settled k, popped k, g.within k j, ap (λ n. bit (n == 0)) past, ap (λ n. bit (n == 0)) past');
    }

-- ---- the start

length_linked : (calls : Links) (k : ℕ) → get_or (map length calls) k 0 ≡ length (linked calls k)
length_linked [] k = refl
length_linked (xs ∷ calls) zero = refl
length_linked (xs ∷ calls) (suc k) = length_linked calls k

unknown : (n k : ℕ) → known (replicate n None) k ≡ None
unknown zero k = refl
unknown (suc n) zero = refl
unknown (suc n) (suc k) = unknown n k

pub going_start : (calls : Links) (pending ready : List ℕ) → pending ≡ map length calls → ((k : ℕ) → times k ready ≡ bit (nat_lt k (length calls) && (length (linked calls k) == 0))) → IsGoing calls pending ready (replicate (length calls) None)
going_start calls pending ready e h =
    let n = length calls in
    let left = λ (k : ℕ). ap (λ v. get_or v k 0) e ∙ length_linked calls k in
    record {
      long = length-replicate n None;
      long_pending = ap length e ∙ length-map calls length;
      sound = λ k l f. cc (unknown n k);
      left = λ k. left k ∙ sym (count_all (λ c. is_none (known (replicate n None) c)) (λ c. ap is_none (unknown n c)) (linked calls k));
      settled = λ k i. omega (arith, h k, ap (λ o. bit (is_some o)) (unknown n k), ap (λ v. bit (v == 0)) (left k), ap (λ b. bit (b && (length (linked calls k) == 0))) (lt-ltb k n i));
      within = λ k i. h k ∙ ap (λ b. bit (b && (length (linked calls k) == 0))) (le-ltb k n i);
    }

-- ---- the end

-- a function whose level stays unknown calls another one
stays : (calls : Links) → StayWithin calls → (pending : List ℕ) (ls : List (Option ℕ)) → IsGoing calls pending [] ls → (k : ℕ) → (k < length calls) × (known ls k ≡ None) → (c : ℕ) × (has (linked calls k) c ≡ true) × ((c < length calls) × (known ls c ≡ None))
stays calls w pending ls g k p =
    let settled : 0 + bit (is_some (known ls k)) ≡ bit (get_or pending k 0 == 0) = g.settled k p.0 in
    let some : (get_or pending k 0 ≡ 0) → ⊥ = λ e. absurd (omega (arith, settled, ap (λ o. bit (is_some o)) p.1, ap (λ n. bit (n == 0)) e)) in
    let c = count_some (λ c. is_none (known ls c)) (linked calls k) (omega (arith, g.left k, some)) in
    (c.0, c.1, (All-has (λ c. c < length calls) (linked calls k) c.0 (w k) c.1, none_of (known ls c.0) c.2))

settled_as : (calls : Links) → StayWithin calls → (pending : List ℕ) (ls : List (Option ℕ)) → IsGoing calls pending [] ls → (k : ℕ) (o : Option ℕ) → known ls k ≡ o → k < length ls → o ≡ level calls k
settled_as calls w pending ls g k None e i = sym (no_levels calls (λ j. (j < length calls) × (known ls j ≡ None)) (stays calls w pending ls g) (length calls) k (omega (arith, i, g.long), e))
settled_as calls w pending ls g k (Some l) e i = sym (g.sound k l e)

-- a list whose elements are given by their places
pub by_places : {A : Type 0} (F : ℕ → A) (os : List A) (a : ℕ) → ((k : ℕ) (o : A) → slice_get os k ≡ Some o → o ≡ F (a + k)) → os ≡ map F (range_with_len a (length os))
by_places F [] a h = refl
by_places F (o ∷ os) a h = ap (λ x. x ∷ os) (h 0 o refl ∙ ap F (add-zero a)) ∙ ap (λ xs. F a ∷ xs) (by_places F os (a + 1) (λ k x e. h (suc k) x e ∙ ap F (omega arith)))

flat : (o : Option (Option ℕ)) (p : Option ℕ) → o ≡ Some p → option_flatten o ≡ p
flat o p e = ap option_flatten e

pub going_end : (calls : Links) → StayWithin calls → (pending : List ℕ) (ls : List (Option ℕ)) → IsGoing calls pending [] ls → ls ≡ levels calls
going_end calls w pending ls g =
    by_places (level calls) ls 0 (λ k o e. sym (flat (slice_get ls k) o e) ∙ settled_as calls w pending ls g k (known ls k) refl (slice_get_within ls k o e) ∙ ap (level calls) (sym (zero-add k))) ∙ ap (λ n. map (level calls) (range_with_len 0 n)) g.long

-- the last function that is ready
pub popped : (calls : Links) → StayWithin calls → (pending ready rest : List ℕ) (ls : List (Option ℕ)) (f : ℕ) → IsGoing calls pending ready ls → ready ≡ rest ++ f ∷ [] → (l : ℕ) × IsReady calls ls f l
popped calls w pending ready rest ls f g e = ready_is calls w pending ready ls f g (omega (arith, ap (times f) e, times-push f rest f, bit_self f f refl))
