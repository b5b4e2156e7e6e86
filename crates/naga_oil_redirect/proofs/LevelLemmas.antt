use Rattle.std.proofs.Common.{◌≡◌, ◌≢◌, ◌⊎◌, inl, inr, ⊎_elim, ℕ, zero, suc, ◌+◌, ◌<◌, ◌≤◌, max, Bool, true, false, ◌||◌, ◌==◌, List, [], ◌∷◌, length, map, Option, Some, None, option_map, refl, ap, sym, ◌∙◌, subst, arith}
use Rattle.std.specs.List.{list_any, IsDistinct, AllByRecursion}
use Rattle.std.proofs.Math.Dec.{eqb}
use Rattle.std.proofs.lemmas.Bool.{cases_Bool, cases_lt, or_cases, false≢true}
use Rattle.std.proofs.lemmas.Map.Steps.{length-le_from_distinct_below}
use Rattle.naga_oil_form.specs.Links.{Links, linked, has}
use Rattle.naga_oil_form.proofs.LinkLemmas.{eqb_eq, eq_eqb, or_left, or_right, All-has}
use Rattle.naga_oil_redirect.specs.Level.{StayWithin, above, level_below, level, Leads, Calls, Through, HasCycle}

-- ---- what stands above some levels

no_level : {X : Type 0} (l : ℕ) → None ≡ Some l → X
no_level l e = cc

pub above-cons : (m r : ℕ) (o : Option ℕ) (os : List (Option ℕ)) → o ≡ Some m → above os ≡ Some r → above (o ∷ os) ≡ Some (max (m + 1) r)
above-cons m r o os e f = rw (e, f) refl

-- the front has a level, so has the rest, and the greater one counts
pub record IsAbove (o : Option ℕ) (os : List (Option ℕ)) (l : ℕ) : Type 0 where
  pub front : ℕ
  pub rest : ℕ
  pub front_is : o ≡ Some front
  pub rest_is : above os ≡ Some rest
  pub greater : l ≡ max (front + 1) rest

split_rest : (m : ℕ) (os : List (Option ℕ)) (r : Option ℕ) (l : ℕ) → above os ≡ r → option_map (max (m + 1)) r ≡ Some l → IsAbove (Some m) os l
split_rest m os None l e h = no_level l h
split_rest m os (Some r) l e h = record { front = m; rest = r; front_is = refl; rest_is = e; greater = cc }

pub split : (o : Option ℕ) (os : List (Option ℕ)) (l : ℕ) → above (o ∷ os) ≡ Some l → IsAbove o os l
split None os l h = no_level l h
split (Some m) os l h = split_rest m os (above os) l refl h

-- what has the same levels below l has the same above
pub above_agree : (f g : ℕ → Option ℕ) (cs : List ℕ) (l : ℕ) → above (map f cs) ≡ Some l → ((c m : ℕ) → f c ≡ Some m → m < l → g c ≡ Some m) → above (map g cs) ≡ Some l
above_agree f g [] l h same = h
above_agree f g (c ∷ cs) l h same =
    let s = split (f c) (map f cs) l h in
    let front = same c s.front s.front_is (omega (arith, s.greater)) in
    let rest = above_agree f g cs s.rest s.rest_is (λ d m e i. same d m e (omega (arith, i, s.greater))) in
    above-cons s.front s.rest (g c) (map g cs) front rest ∙ ap Some (sym s.greater)

-- a level above 0 is 1 more than that of one below it
greater_of : (a b l : ℕ) → suc l ≡ max (a + 1) b → (a ≡ l) ⊎ (b ≡ suc l)
greater_of a b l h = ⊎_elim (λ (i : b < a + 1). inl (omega (arith, h, i))) (λ (i : a + 1 ≤ b). inr (omega (arith, h, i))) (cases_lt b (a + 1))

pub above_reached : (f : ℕ → Option ℕ) (cs : List ℕ) (l : ℕ) → above (map f cs) ≡ Some (suc l) → (c : ℕ) × (has cs c ≡ true) × (f c ≡ Some l)
above_reached f [] l h = let e : 0 ≡ suc l = cc in absurd (omega (arith, e))
above_reached f (c ∷ cs) l h =
    let s = split (f c) (map f cs) (suc l) h in
    ⊎_elim (λ i. (c, or_left (c == c) (has cs c) (eq_eqb c c refl), s.front_is ∙ ap Some i)) (λ i. let r = above_reached f cs l (s.rest_is ∙ ap Some i) in (r.0, or_right (c == r.0) (has cs r.0) r.1, r.2)) (greater_of s.front s.rest l s.greater)

-- where something is above, each has a level below that
pub above_each : (f : ℕ → Option ℕ) (cs : List ℕ) (l c : ℕ) → above (map f cs) ≡ Some l → has cs c ≡ true → (m : ℕ) × (f c ≡ Some m) × (m < l)
above_each f [] l c h i = absurd (false≢true i)
above_each f (d ∷ cs) l c h i =
    let s = split (f d) (map f cs) l h in
    ⊎_elim (λ j. (s.front, ap f (sym (eqb_eq d c j)) ∙ s.front_is, omega (arith, s.greater))) (λ j. let r = above_each f cs s.rest c s.rest_is j in (r.0, r.1, omega (arith, r.2, s.greater))) (or_cases (d == c) (has cs c) i)

-- ---- levels

-- a level found under one bound is found under each that it lies below
pub level_enough : (calls : Links) (n m k l : ℕ) → level_below n calls k ≡ Some l → l < m → level_below m calls k ≡ Some l
unfolding level_below
level_enough calls zero m k l h i = no_level l h
level_enough calls (suc n) zero k l h i = absurd (omega arith)
level_enough calls (suc n) (suc m) k l h i =
    above_agree (level_below n calls) (level_below m calls) (linked calls k) l h (λ c j e below. level_enough calls n m c j e (omega (arith, below, i)))

pub level_lies_below : (calls : Links) (n k l : ℕ) → level_below n calls k ≡ Some l → l < n
unfolding level_below
level_lies_below calls zero k l h = no_level l h
level_lies_below calls (suc n) k zero h = omega arith
level_lies_below calls (suc n) k (suc l) h =
    let r = above_reached (level_below n calls) (linked calls k) l h in
    let i = level_lies_below calls n r.0 l r.2 in
    omega (arith, i)

-- a callee on the level below
down : (calls : Links) (n k l : ℕ) → level_below n calls k ≡ Some (suc l) → (c : ℕ) × (has (linked calls k) c ≡ true) × (level_below n calls c ≡ Some l)
unfolding level_below
down calls zero k l h = no_level (suc l) h
down calls (suc n) k l h =
    let r = above_reached (level_below n calls) (linked calls k) l h in
    let i = level_lies_below calls n r.0 l r.2 in
    (r.0, r.1, level_enough calls n (suc n) r.0 l r.2 (omega (arith, i)))

-- ---- as many functions as levels

-- functions, one on each level up to l
record IsStair (calls : Links) (n l : ℕ) (ks : List ℕ) : Type 0 where
  long : length ks ≡ suc l
  distinct : IsDistinct eqb ks
  within : (j : ℕ) → list_any (eqb j) ks ≡ true → j < length calls
  upto : (j : ℕ) → list_any (eqb j) ks ≡ true → (m : ℕ) × (level_below n calls j ≡ Some m) × (m ≤ l)

or_front : (a b : Bool) → (a || b) ≡ false → a ≡ false
or_front true b h = h
or_front false b h = refl

or_rest : (a b : Bool) → (a || b) ≡ false → b ≡ false
or_rest true b h = absurd (false≢true (sym h))
or_rest false b h = h

same_level : {a b : ℕ} → Some a ≡ Some b → a ≡ b
same_level e = cc

only : (j k : ℕ) → list_any (eqb j) (k ∷ []) ≡ true → j ≡ k
only j k h = ⊎_elim (λ e. eqb_eq j k e) (λ e. absurd (false≢true e)) (or_cases (eqb j k) false h)

-- a place that is not in a list differs from each
apart : (k : ℕ) (ks : List ℕ) (b : Bool) → list_any (eqb k) ks ≡ b → b ≢ true → AllByRecursion (λ y. eqb k y ≡ false) ks
apart k [] b h out = tt
apart k (x ∷ ks) true h out = absurd (out refl)
apart k (x ∷ ks) false h out = (or_front (eqb k x) (list_any (eqb k) ks) h, apart k ks (list_any (eqb k) ks) refl (λ i. false≢true (sym (or_rest (eqb k x) (list_any (eqb k) ks) h) ∙ i)))

stair_of_one : (calls : Links) (n k : ℕ) → k < length calls → level_below n calls k ≡ Some 0 → IsStair calls n 0 (k ∷ [])
unfolding IsDistinct
stair_of_one calls n k i h = record {
  long = refl;
  distinct = (tt, tt);
  within = λ j e. let same = only j k e in omega (arith, i, same);
  upto = λ j e. (0, ap (level_below n calls) (only j k e) ∙ h, omega arith);
}

-- one more level
stair_more : (calls : Links) (n k l : ℕ) (ks : List ℕ) → k < length calls → level_below n calls k ≡ Some (suc l) → IsStair calls n l ks → IsStair calls n (suc l) (k ∷ ks)
unfolding IsDistinct
stair_more calls n k l ks i h s = record {
  long = ap suc s.long;
  distinct = (apart k ks (list_any (eqb k) ks) refl (λ e. let u = s.upto k e in let same : suc l ≡ u.0 = same_level (sym h ∙ u.1) in omega (arith, u.2, same)), s.distinct);
  within = λ j e. ⊎_elim (λ f. let same = eqb_eq j k f in omega (arith, i, same)) (λ f. s.within j f) (or_cases (eqb j k) (list_any (eqb j) ks) e);
  upto = λ j e. ⊎_elim (λ f. (suc l, ap (level_below n calls) (eqb_eq j k f) ∙ h, omega arith)) (λ f. let u = s.upto j f in (u.0, u.1, omega (arith, u.2))) (or_cases (eqb j k) (list_any (eqb j) ks) e);
}

stair : (calls : Links) → StayWithin calls → (n l k : ℕ) → k < length calls → level_below n calls k ≡ Some l → (ks : List ℕ) × IsStair calls n l ks
stair calls w n zero k i h = (k ∷ [], stair_of_one calls n k i h)
stair calls w n (suc l) k i h =
    let d = down calls n k l h in
    let s = stair calls w n l d.0 (All-has (λ c. c < length calls) (linked calls k) d.0 (w k) d.1) d.2 in
    (k ∷ s.0, stair_more calls n k l s.0 i h s.1)

-- a level lies below the number of functions, under whichever bound it was found
pub level_short : (calls : Links) → StayWithin calls → (n k l : ℕ) → k < length calls → level_below n calls k ≡ Some l → l < length calls
level_short calls w n k l i h =
    let s = stair calls w n l k i h in
    let e = length-le_from_distinct_below s.0 (length calls) s.1.distinct s.1.within in
    omega (arith, e, s.1.long)

-- ---- the level of a function

level_found : (calls : Links) → StayWithin calls → (n k l : ℕ) → k < length calls → level_below n calls k ≡ Some l → level calls k ≡ Some l
level_found calls w n k l i h = level_enough calls n (length calls) k l h (level_short calls w n k l i h)

one_more : (calls : Links) → StayWithin calls → (n k : ℕ) (o p : Option ℕ) → k < length calls → level_below n calls k ≡ o → level calls k ≡ p → n ≡ suc (length calls) → o ≡ p
one_more calls w n k None None i h g e = refl
one_more calls w n k None (Some l) i h g e = no_level l (sym h ∙ level_enough calls (length calls) n k l g (let b = level_lies_below calls (length calls) k l g in omega (arith, b, e)))
one_more calls w n k (Some l) None i h g e = no_level l (sym g ∙ level_found calls w n k l i h)
one_more calls w n k (Some l) (Some m) i h g e = sym (level_found calls w n k l i h) ∙ g

-- the level of a function stands above those of its callees
pub level_is : (calls : Links) → StayWithin calls → (k : ℕ) → k < length calls → level calls k ≡ above (map (level calls) (linked calls k))
unfolding level_below
level_is calls w k i = sym (one_more calls w (suc (length calls)) k _ _ i refl refl refl)

-- ---- what has no level

-- one of some levels is missing
missing_if : (f : ℕ → Option ℕ) (cs : List ℕ) (c : ℕ) (o : Option ℕ) → above (map f cs) ≡ o → has cs c ≡ true → f c ≡ None → o ≡ None
missing_if f cs c None a h e = refl
missing_if f cs c (Some l) a h e = let r = above_each f cs l c a h in no_level r.0 (sym e ∙ r.1)

pub above_missing : (f : ℕ → Option ℕ) (cs : List ℕ) (c : ℕ) → has cs c ≡ true → f c ≡ None → above (map f cs) ≡ None
above_missing f cs c h e = missing_if f cs c (above (map f cs)) refl h e

-- where each function without a known level calls another one, none of them has a level
pub no_levels : (calls : Links) (P : ℕ → Type 0) → ((k : ℕ) → P k → (c : ℕ) × (has (linked calls k) c ≡ true) × P c) → (n k : ℕ) → P k → level_below n calls k ≡ None
unfolding level_below
no_levels calls P goes zero k p = refl
no_levels calls P goes (suc n) k p =
    let g = goes k p in
    above_missing (level_below n calls) (linked calls k) g.0 g.1 (no_levels calls P goes n g.0 g.2)

-- where nothing is above, one is missing
missing_front : (f : ℕ → Option ℕ) (c : ℕ) (cs : List ℕ) (o r : Option ℕ) → f c ≡ o → above (map f cs) ≡ r → above (f c ∷ map f cs) ≡ None → (above (map f cs) ≡ None → (d : ℕ) × (has cs d ≡ true) × (f d ≡ None)) → (d : ℕ) × (has (c ∷ cs) d ≡ true) × (f d ≡ None)
missing_front f c cs None r e g h rest = (c, or_left (c == c) (has cs c) (eq_eqb c c refl), e)
missing_front f c cs (Some m) None e g h rest = let r = rest g in (r.0, or_right (c == r.0) (has cs r.0) r.1, r.2)
missing_front f c cs (Some m) (Some l) e g h rest = no_level (max (m + 1) l) (sym h ∙ above-cons m l (f c) (map f cs) e g)

pub missing_one : (f : ℕ → Option ℕ) (cs : List ℕ) → above (map f cs) ≡ None → (c : ℕ) × (has cs c ≡ true) × (f c ≡ None)
missing_one f [] h = no_level 0 (sym h)
missing_one f (c ∷ cs) h = missing_front f c cs (f c) (above (map f cs)) refl refl h (missing_one f cs)

-- ---- cycles

-- a function leads to functions on lower levels alone
pub lower : (calls : Links) → StayWithin calls → (k c l : ℕ) → k < length calls → level calls k ≡ Some l → has (linked calls k) c ≡ true → (m : ℕ) × (level calls c ≡ Some m) × (m < l)
lower calls w k c l i h e = above_each (level calls) (linked calls k) l c (sym (level_is calls w k i) ∙ h) e

leads_lower : (calls : Links) → StayWithin calls → (k c : ℕ) → Leads calls k c → (l : ℕ) → k < length calls → level calls k ≡ Some l → (m : ℕ) × (level calls c ≡ Some m) × (m < l)
leads_lower calls w k c (Calls e) l i h = lower calls w k c l i h e
leads_lower calls w k c (Through {b = b} e p) l i h =
    let d = lower calls w k b l i h e in
    let r = leads_lower calls w b c p d.0 (All-has (λ c. c < length calls) (linked calls k) b (w k) e) d.1 in
    (r.0, r.1, omega (arith, r.2, d.2))

-- no function on a cycle has a level
pub on_cycle : (calls : Links) → StayWithin calls → (k : ℕ) (o : Option ℕ) → k < length calls → Leads calls k k → level calls k ≡ o → o ≡ None
on_cycle calls w k None i p h = refl
on_cycle calls w k (Some l) i p h =
    let r = leads_lower calls w k k p l i h in
    let same : l ≡ r.0 = same_level (sym h ∙ r.1) in
    absurd (omega (arith, r.2, same))

leads_push : (calls : Links) (a b c : ℕ) → Leads calls a b → has (linked calls b) c ≡ true → Leads calls a c
leads_push calls a b c (Calls e) h = Through e (Calls h)
leads_push calls a b c (Through {b = d} e p) h = Through e (leads_push calls d b c p h)

-- a way through different functions, each of which leads to the last
record IsWay (calls : Links) (k : ℕ) (ps : List ℕ) : Type 0 where
  distinct : IsDistinct eqb ps
  within : (j : ℕ) → list_any (eqb j) ps ≡ true → j < length calls
  leads : (j : ℕ) → list_any (eqb j) ps ≡ true → (j ≡ k) ⊎ Leads calls j k

way_of_one : (calls : Links) (k : ℕ) → k < length calls → IsWay calls k (k ∷ [])
unfolding IsDistinct
way_of_one calls k i = record {
  distinct = (tt, tt);
  within = λ j e. let same = only j k e in omega (arith, i, same);
  leads = λ j e. inl (only j k e);
}

way_more : (calls : Links) (k c : ℕ) (ps : List ℕ) → c < length calls → has (linked calls k) c ≡ true → list_any (eqb c) ps ≡ false → IsWay calls k ps → IsWay calls c (c ∷ ps)
unfolding IsDistinct
way_more calls k c ps i e new s = record {
  distinct = (apart c ps (list_any (eqb c) ps) refl (λ h. false≢true (sym new ∙ h)), s.distinct);
  within = λ j h. ⊎_elim (λ f. let same = eqb_eq j c f in omega (arith, i, same)) (λ f. s.within j f) (or_cases (eqb j c) (list_any (eqb j) ps) h);
  leads = λ j h. ⊎_elim (λ f. inl (eqb_eq j c f)) (λ f. inr (⊎_elim (λ g. subst (λ a. Leads calls a c) (sym g) (Calls e)) (λ g. leads_push calls j k c g e) (s.leads j f))) (or_cases (eqb j c) (list_any (eqb j) ps) h);
}

-- a way whose last function calls one of the way has a cycle
closes : (calls : Links) (k c : ℕ) → has (linked calls k) c ≡ true → (c ≡ k) ⊎ Leads calls c k → HasCycle calls
closes calls k c e f =
    let P : ℕ → Type 0 = λ d. has (linked calls k) d ≡ true in
    (k, ⊎_elim (λ g. Calls (subst P g e)) (λ g. Through e g) f)

-- from a function without a level a way goes on until it closes
goes_on : (calls : Links) → StayWithin calls → (n k : ℕ) (ps : List ℕ) → length ps + n ≡ suc (length calls) → k < length calls → level calls k ≡ None → IsWay calls k ps → HasCycle calls
goes_on calls w zero k ps long i h s =
    let e = length-le_from_distinct_below ps (length calls) s.distinct s.within in
    absurd (omega (arith, e, long))
goes_on calls w (suc n) k ps long i h s =
    let c = missing_one (level calls) (linked calls k) (sym (level_is calls w k i) ∙ h) in
    let j : c.0 < length calls = All-has (λ c. c < length calls) (linked calls k) c.0 (w k) c.1 in
    ⊎_elim (λ on. closes calls k c.0 c.1 (s.leads c.0 on)) (λ new. goes_on calls w n c.0 (c.0 ∷ ps) (omega (arith, long)) j c.2 (way_more calls k c.0 ps j c.1 new s)) (cases_Bool (list_any (eqb c.0) ps))

pub cycle_from : (calls : Links) → StayWithin calls → (k : ℕ) → k < length calls → level calls k ≡ None → HasCycle calls
cycle_from calls w k i h = goes_on calls w (length calls) k (k ∷ []) (omega arith) i h (way_of_one calls k i)
