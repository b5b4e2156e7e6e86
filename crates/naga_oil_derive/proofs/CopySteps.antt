-- One more copy.
use Rattle.std.proofs.Common.{◌≡◌, ◌≢◌, ⊎_elim, ◌⊎◌, inl, inr, ℕ, zero, suc, ◌+◌, ◌<◌, ◌≤◌, Bool, true, false, cond, ◌||◌, ◌==◌, List, [], ◌∷◌, ◌++◌, length, map, take, slice_get, slice_set, option_map, option_to_list, unwrap_or, Option, Some, None, is_some, replicate, refl, ap, sym, ◌∙◌, subst, arith}
use Rattle.std.specs.List.{flat_map}
use Rattle.std.specs.Option.{option_flatten}
use Rattle.std.proofs.lemmas.Bool.{cases_eq, cases_lt, or_cases, or_left, or_right, or_parts, or_from, false≢true, false_from_ne_true, ne_eqb}
use Rattle.std.proofs.lemmas.List.{map-append, length_push}
use Rattle.std.proofs.lemmas.Option.{slice_get_within, none-some, same_Some}
use Rattle.naga_oil_ir.specs.Parts.{Parts}
use Rattle.naga_oil_form.specs.Links.{linked, has, added}
use Rattle.naga_oil_form.specs.BodyForm.{run}
use Rattle.naga_oil_ir.specs.declared.span.Span.{Span}
use Rattle.naga_oil_form.proofs.LinkLemmas.{has-append, has-added, itself, linked-map, slice_get-set_same, slice_get-set_other, slice_get-append_within, slice_get-append_at, eqb_eq, eq_eqb}
use Rattle.naga_oil_rename.specs.Renames.{Renames}
use Rattle.naga_oil_walk.specs.Walk.{Holds}
use Rattle.naga_oil_derive.specs.Copies.{Values, Table, place_under, copied, AreCopies, LacksBefore, IsPut, AreApart, value_links}
use Rattle.naga_oil_walk.proofs.WalkLemmas.{added-append, push_each, run-last, has_take, has_at}
use Rattle.naga_oil_walk.proofs.WalkForm.{has_last}

-- ---- renaming under tables that agree

operands-same : (t u : Table) (os : List (Option ℕ)) → ((x : ℕ) → has (flat_map option_to_list os) x ≡ true → place_under t x ≡ place_under u x) → map (option_map (place_under t)) os ≡ map (option_map (place_under u)) os
operands-same t u [] f = refl
operands-same t u (None ∷ os) f = ap (λ xs. None ∷ xs) (operands-same t u os f)
operands-same t u (Some h ∷ os) f =
    ap (λ x. Some x ∷ map (option_map (place_under t)) os) (f h (or_left (h == h) (has (flat_map option_to_list os) h) (eq_eqb h h refl))) ∙ ap (λ xs. Some (place_under u h) ∷ xs) (operands-same t u os (λ x i. f x (or_right (h == x) (has (flat_map option_to_list os) x) i)))

pub copied-same : (r : Renames) (t u : Table) (p : Parts) → ((x : ℕ) → has (flat_map option_to_list p.operands) x ≡ true → place_under t x ≡ place_under u x) → copied r t p ≡ copied r u p
copied-same r t u p f = ap (λ (os : List (Option ℕ)). record (copied r t p) { operands = os }) (operands-same t u p.operands f)

-- ---- one entry more

pub under_same : (t : Table) (k h : ℕ) → k < length t → place_under (slice_set t k (Some h)) k ≡ h
under_same t k h l = ap (λ o. unwrap_or (option_flatten o) k) (slice_get-set_same t k (Some h) l)

under_other : (t : Table) (k h j : ℕ) → j ≢ k → place_under (slice_set t k (Some h)) j ≡ place_under t j
under_other t k h j n = ap (λ o. unwrap_or (option_flatten o) j) (slice_get-set_other t k j (Some h) n)

ne_of : (o : List ℕ) (k j : ℕ) → has o k ≡ false → has o j ≡ true → j ≢ k
ne_of o k j f h e = false≢true (sym f ∙ subst (λ v. has o v ≡ true) e h)

pub map_other : (t : Table) (k h : ℕ) (xs : List ℕ) → has xs k ≡ false → map (place_under (slice_set t k (Some h))) xs ≡ map (place_under t) xs
map_other t k h [] f = refl
map_other t k h (x ∷ xs) f =
    let p = or_parts (x == k) (has xs k) f in
    ap (λ y. y ∷ map (place_under (slice_set t k (Some h))) xs) (under_other t k h x (λ e. false≢true (sym p.0 ∙ eq_eqb x k e))) ∙ ap (λ ys. place_under t x ∷ ys) (map_other t k h xs p.1)

-- ---- numbers from 0 on

has_run : (n a k : ℕ) → a ≤ k → k < a + n → has (run a n) k ≡ true
has_run zero a k h i = absurd (omega arith)
has_run (suc n) a k h i =
    ⊎_elim (λ e. or_left (a == k) (has (run (suc a) n) k) (eq_eqb a k e)) (λ e. or_right (a == k) (has (run (suc a) n) k) (has_run n (suc a) k (⊎_elim (λ l. l) (λ l. absurd (e (omega arith))) (cases_lt a k)) (omega arith))) (cases_eq a k)

not_run : (n a k : ℕ) → a + n ≤ k → has (run a n) k ≡ false
not_run zero a k h = refl
not_run (suc n) a k h = or_from (a == k) (has (run (suc a) n) k) (ne_eqb a k (λ e. absurd (omega arith))) (not_run n (suc a) k (omega arith))

run_known : (n h : ℕ) → h < n → added (run 0 n) (h ∷ []) ≡ run 0 n
run_known n h l = ap (λ b. cond b (run 0 n) (run 0 n ++ h ∷ [])) (has_run n 0 h (omega arith) (omega arith))

run_fresh : (n h : ℕ) → h ≡ n → added (run 0 n) (h ∷ []) ≡ run 0 (suc n)
run_fresh n h e = ap (λ b. cond b (run 0 n) (run 0 n ++ h ∷ [])) (not_run n 0 h (omega arith)) ∙ sym (run-last 0 n h (omega arith))

-- ---- where a copy was put

-- what putting a copy does to values
pub record Puts (v : Values) (c : Parts × Span) (h : ℕ) (w : Values) : Type 0 where
  pub keeps : (i : ℕ) (e : Parts × Span) → slice_get v i ≡ Some e → slice_get w i ≡ Some e
  pub here : (e : Parts × Span) × (slice_get w h ≡ Some e) × (e.0 ≡ c.0)
  pub grew : ((h < length v) × (w ≡ v)) ⊎ ((h ≡ length v) × (w ≡ v ++ c ∷ []))

last_value : (v w : Values) (c : Parts × Span) (h : ℕ) → h ≡ length v → w ≡ v ++ c ∷ [] → slice_get w h ≡ Some c
last_value v w c h e f = ap (λ x. slice_get x h) f ∙ ap (slice_get (v ++ c ∷ [])) e ∙ slice_get-append_at v c

pub puts : (unique : Bool) (v : Values) (c : Parts × Span) (h : ℕ) (w : Values) → IsPut unique v c h w → Puts v c h w
puts unique v c h w (inl (u, f, e)) = record {
  keeps = λ i x p. ap (λ y. slice_get y i) e ∙ p;
  here = (f.0, ap (λ y. slice_get y h) e ∙ f.1, f.2);
  grew = inl (slice_get_within v h f.0 f.1, e);
}
puts unique v c h w (inr (l, a, e)) = record {
  keeps = λ i x p. ap (λ y. slice_get y i) e ∙ slice_get-append_within v (c ∷ []) i (slice_get_within v i x p) ∙ p;
  here = (c, last_value v w c h a e, refl);
  grew = inr (a, e);
}

-- ---- the state that one copy more meets

-- of what was copied nothing is the place k, whose operands were copied
pub record Meets (r : Renames) (es : Values) (s o : List ℕ) (t : Table) (v : Values) (k : ℕ) (a : Parts × Span) : Type 0 where
  pub copies : AreCopies r es s o t v
  pub fresh : has o k ≡ false
  pub closed_links : (j : ℕ) → has o j ≡ true → Holds o (linked (value_links es) j)
  pub after_links : Holds o (linked (value_links es) k)
  pub room : k < length t
  pub at_place : slice_get es k ≡ Some a

operands_of : (es : Values) (j : ℕ) (a : Parts × Span) → slice_get es j ≡ Some a → linked (value_links es) j ≡ flat_map option_to_list a.0.operands
operands_of es j a e = linked-map (λ (x : Parts × Span). flat_map option_to_list x.0.operands) es j a e

-- what names only copied places reads the same under the longer table
reads-same : (r : Renames) (es : Values) (s o : List ℕ) (t : Table) (v : Values) (k : ℕ) (a : Parts × Span) (h : ℕ) → Meets r es s o t v k a → (j : ℕ) (b : Parts × Span) → slice_get es j ≡ Some b → Holds o (linked (value_links es) j) → copied r t b.0 ≡ copied r (slice_set t k (Some h)) b.0
reads-same r es s o t v k a h m j b e w =
    copied-same r t (slice_set t k (Some h)) b.0 (λ x i. sym (under_other t k h x (ne_of o k x m.fresh (w x (ap (λ xs. has xs x) (operands_of es j b e) ∙ i)))))

or_none : (b : Bool) → b ≡ (b || false)
or_none true = refl
or_none false = refl

went-more : (r : Renames) (es : Values) (s o : List ℕ) (t : Table) (v : Values) (k : ℕ) (a : Parts × Span) (h : ℕ) → Meets r es s o t v k a → (j : ℕ) → is_some (option_flatten (slice_get (slice_set t k (Some h)) j)) ≡ has (o ++ k ∷ []) j
went-more r es s o t v k a h m j =
    ⊎_elim (λ e. ap (λ i. is_some (option_flatten (slice_get (slice_set t k (Some h)) i))) e ∙ ap (λ x. is_some (option_flatten x)) (slice_get-set_same t k (Some h) m.room) ∙ sym (ap (has (o ++ k ∷ [])) e ∙ has-append o (k ∷ []) k ∙ or_right (has o k) (has (k ∷ []) k) (itself k))) (λ n. ap (λ x. is_some (option_flatten x)) (slice_get-set_other t k j (Some h) n) ∙ m.copies.went j ∙ sym (has-append o (k ∷ []) j ∙ ap (λ b. has o j || b) (or_from (k == j) false (ne_eqb k j (λ e. n (sym e))) refl) ∙ sym (or_none (has o j)))) (cases_eq j k)

reads-more : (r : Renames) (es : Values) (s o : List ℕ) (t : Table) (v : Values) (k : ℕ) (a : Parts × Span) (h : ℕ) (w : Values) → Meets r es s o t v k a → Puts v (copied r t a.0, r.span a.1) h w → (j : ℕ) (b : Parts × Span) → has (o ++ k ∷ []) j ≡ true → slice_get es j ≡ Some b → (e : Parts × Span) × (slice_get w (place_under (slice_set t k (Some h)) j) ≡ Some e) × (e.0 ≡ copied r (slice_set t k (Some h)) b.0)
reads-more r es s o t v k a h w m p j b i e =
    ⊎_elim (λ l. let x = m.copies.reads j b l e in (x.0, ap (slice_get w) (under_other t k h j (ne_of o k j m.fresh l)) ∙ p.keeps (place_under t j) x.0 x.1, x.2 ∙ reads-same r es s o t v k a h m j b e (m.closed_links j l))) (λ q. let same : a ≡ b = same_Some a b (sym m.at_place ∙ ap (slice_get es) q ∙ e) in let x = p.here in (x.0, ap (slice_get w) (ap (place_under (slice_set t k (Some h))) (sym q) ∙ under_same t k h m.room) ∙ x.1, x.2 ∙ ap (λ (y : Parts × Span). copied r t y.0) same ∙ reads-same r es s o t v k a h m j b e (subst (λ y. Holds o (linked (value_links es) y)) q m.after_links))) (has_last o k j i)

-- a handle that is there already copies something before
pub has_copy : (r : Renames) (es : Values) (s o : List ℕ) (t : Table) (v : Values) (h : ℕ) → AreCopies r es s o t v → h < length v → has (map (place_under t) o) h ≡ true
has_copy r es s o t v h c l = sym (has-added [] (map (place_under t) o) h) ∙ ap (λ xs. has xs h) c.order ∙ has_run (length v) 0 h (omega arith) (omega arith)

pub has_part : (i : ℕ) (o : List ℕ) (k : ℕ) → has o k ≡ false → has (take i o) k ≡ false
has_part i o k f = false_from_ne_true (has (take i o) k) (λ h. false≢true (sym f ∙ has_take i o k h))

-- a fact of each place that is there
push_each_in : (P : List ℕ → ℕ → Type 0) (o : List ℕ) (k : ℕ) → ((i j : ℕ) → slice_get o i ≡ Some j → has o j ≡ true → P (take i o) j) → P o k → (i j : ℕ) → slice_get (o ++ k ∷ []) i ≡ Some j → P (take i (o ++ k ∷ [])) j
push_each_in P o k f p = push_each P o k (λ i j e. f i j e (has_at o i j e)) p

spans-more : (r : Renames) (es : Values) (s o : List ℕ) (t : Table) (v : Values) (k : ℕ) (a : Parts × Span) (h : ℕ) (w : Values) → Meets r es s o t v k a → Puts v (copied r t a.0, r.span a.1) h w → (i j : ℕ) → slice_get (o ++ k ∷ []) i ≡ Some j → (b e : Parts × Span) → has (map (place_under (slice_set t k (Some h))) (take i (o ++ k ∷ []))) (place_under (slice_set t k (Some h)) j) ≡ false → slice_get es j ≡ Some b → slice_get w (place_under (slice_set t k (Some h)) j) ≡ Some e → e.1 ≡ r.span b.1
spans-more r es s o t v k a h w m p =
    let u = slice_set t k (Some h) in
    let P : List ℕ → ℕ → Type 0 = λ q j. (b e : Parts × Span) → has (map (place_under u) q) (place_under u j) ≡ false → slice_get es j ≡ Some b → slice_get w (place_under u j) ≡ Some e → e.1 ≡ r.span b.1 in
    push_each_in P o k (λ i j q l b e f eb ee. let n = ne_of o k j m.fresh l in let x = m.copies.reads j b l eb in let same : x.0 ≡ e = same_Some x.0 e (sym (p.keeps (place_under t j) x.0 x.1) ∙ ap (slice_get w) (sym (under_other t k h j n)) ∙ ee) in m.copies.spans i j b e q (ap (has (map (place_under t) (take i o))) (sym (under_other t k h j n)) ∙ ap (λ ys. has ys (place_under u j)) (sym (map_other t k h (take i o) (has_part i o k m.fresh))) ∙ f) eb (x.1 ∙ ap Some same)) (λ b e f eb ee. let at_h = under_same t k h m.room in ⊎_elim (λ g. absurd (false≢true (sym (ap (λ ys. has ys h) (sym (map_other t k h o m.fresh)) ∙ ap (has (map (place_under u) o)) (sym at_h) ∙ f) ∙ has_copy r es s o t v h m.copies g.0))) (λ g. let same : (copied r t a.0, r.span a.1) ≡ e = same_Some (copied r t a.0, r.span a.1) e (sym (last_value v w (copied r t a.0, r.span a.1) h g.0 g.1) ∙ ap (slice_get w) (sym at_h) ∙ ee) in sym (ap (λ (y : Parts × Span). y.1) same) ∙ ap (λ (y : Parts × Span). r.span y.1) (same_Some a b (sym m.at_place ∙ eb))) p.grew)

plus_one : (n : ℕ) → n + 1 ≡ suc n
plus_one n = omega arith

order-more : (r : Renames) (es : Values) (s o : List ℕ) (t : Table) (v : Values) (k : ℕ) (a : Parts × Span) (h : ℕ) (w : Values) → Meets r es s o t v k a → Puts v (copied r t a.0, r.span a.1) h w → added [] (map (place_under (slice_set t k (Some h))) (o ++ k ∷ [])) ≡ run 0 (length w)
order-more r es s o t v k a h w m p =
    let u = slice_set t k (Some h) in
    ap (added []) (map-append (place_under u) o (k ∷ []) ∙ ap (λ xs. xs ++ place_under u k ∷ []) (map_other t k h o m.fresh) ∙ ap (λ x. map (place_under t) o ++ x ∷ []) (under_same t k h m.room)) ∙ added-append [] (map (place_under t) o) (h ∷ []) ∙ ap (λ xs. added xs (h ∷ [])) m.copies.order ∙ ⊎_elim (λ g. run_known (length v) h g.0 ∙ ap (λ (x : Values). run 0 (length x)) (sym g.1)) (λ g. run_fresh (length v) h g.0 ∙ ap (run 0) (sym (ap length g.1 ∙ length_push v (copied r t a.0, r.span a.1) ∙ plus_one (length v)))) p.grew

-- ---- a copy that is put last

has_map : (f : ℕ → ℕ) (o : List ℕ) (j h : ℕ) → has o j ≡ true → f j ≡ h → has (map f o) h ≡ true
has_map f [] j h l e = absurd (false≢true l)
has_map f (x ∷ o) j h l e =
    ⊎_elim (λ i. or_left (f x == h) (has (map f o) h) (eq_eqb (f x) h (ap f (eqb_eq x j i) ∙ e))) (λ i. or_right (f x == h) (has (map f o) h) (has_map f o j h i e)) (or_cases (x == j) (has o j) l)

-- no copy before is the one that is put last
not_last : (r : Renames) (es : Values) (s o : List ℕ) (t : Table) (v : Values) (k : ℕ) (a : Parts × Span) (h : ℕ) (w : Values) → Meets r es s o t v k a → IsPut false v (copied r t a.0, r.span a.1) h w → (j : ℕ) → has o j ≡ true → place_under t j ≡ h → ⊥
not_last r es s o t v k a h w m (inl (u, f, e)) j l is = false≢true u
not_last r es s o t v k a h w m (inr (u, b, e)) j l is = let i : has (map (place_under t) o) (length v) ≡ true = has_map (place_under t) o j (length v) l (is ∙ b) in false≢true (sym (sym (has-added [] (map (place_under t) o) (length v)) ∙ ap (λ xs. has xs (length v)) m.copies.order ∙ not_run (length v) 0 (length v) (omega arith)) ∙ i)

pub append_one : (r : Renames) (es : Values) (s o : List ℕ) (t : Table) (v : Values) (k : ℕ) (a : Parts × Span) (h : ℕ) (w : Values) → Meets r es s o t v k a → Holds o s → IsPut false v (copied r t a.0, r.span a.1) h w → AreCopies r es s (o ++ k ∷ []) (slice_set t k (Some h)) w
append_one r es s o t v k a h w m f p =
    let q = puts false v (copied r t a.0, r.span a.1) h w p in
    let u = slice_set t k (Some h) in
    let old = λ (j : ℕ) (l : has o j ≡ true). under_other t k h j (ne_of o k j m.fresh l) in
    let below = λ (j : ℕ) (l : has o j ≡ true) (e : place_under u j ≡ h). not_last r es s o t v k a h w m p j l (sym (old j l) ∙ e) in
    let here = under_same t k h m.room in
    record {
      went = went-more r es s o t v k a h m;
      reads = reads-more r es s o t v k a h w m q;
      spans = λ i j b e x y. spans-more r es s o t v k a h w m q i j x b e y;
      order = order-more r es s o t v k a h w m q;
      shared = λ i j x y e. ⊎_elim (λ l. ⊎_elim (λ n. m.copies.shared i j l n (sym (old i l) ∙ e ∙ old j n)) (λ n. absurd (below i l (e ∙ ap (place_under u) (sym n) ∙ here))) (has_last o k j y)) (λ l. ⊎_elim (λ n. absurd (below j n (sym e ∙ ap (place_under u) (sym l) ∙ here))) (λ n. inl (sym l ∙ n)) (has_last o k j y)) (has_last o k i x);
      merged = λ i j b d x y eb ed e. let l = f i x in let n = f j y in old i l ∙ m.copies.merged i j b d x y eb ed (reads-same r es s o t v k a h m i b eb (m.closed_links i l) ∙ e ∙ sym (reads-same r es s o t v k a h m j d ed (m.closed_links j n))) ∙ sym (old j n);
    }

-- ---- a copy that an equal one may stand for

within_last : (v : Values) (c : Parts × Span) (i : ℕ) (f : Parts × Span) → slice_get (v ++ c ∷ []) i ≡ Some f → (i < length v) ⊎ (i ≡ length v)
within_last v c i f q = let l = slice_get_within (v ++ c ∷ []) i f q in let e = length_push v c in ⊎_elim (λ x. inl x) (λ x. inr (omega arith)) (cases_lt i (length v))

last_is : (v : Values) (c : Parts × Span) (i : ℕ) (f : Parts × Span) → i ≡ length v → slice_get (v ++ c ∷ []) i ≡ Some f → c ≡ f
last_is v c i f e q = same_Some c f (sym (slice_get-append_at v c) ∙ ap (slice_get (v ++ c ∷ [])) (sym e) ∙ q)

apart_push : (v : Values) (c : Parts × Span) → AreApart v → LacksBefore (length v) v c.0 → AreApart (v ++ c ∷ [])
apart_push v c a l h i e f p q is =
    ⊎_elim (λ x. ⊎_elim (λ y. a h i e f (sym (slice_get-append_within v (c ∷ []) h x) ∙ p) (sym (slice_get-append_within v (c ∷ []) i y) ∙ q) is) (λ y. absurd (l h e x (sym (slice_get-append_within v (c ∷ []) h x) ∙ p) (is ∙ sym (ap (λ (z : Parts × Span). z.0) (last_is v c i f y q))))) (within_last v c i f q)) (λ x. ⊎_elim (λ y. absurd (l i f y (sym (slice_get-append_within v (c ∷ []) i y) ∙ q) (sym is ∙ sym (ap (λ (z : Parts × Span). z.0) (last_is v c h e x p))))) (λ y. omega arith) (within_last v c i f q)) (within_last v c h e p)

-- the copies stay apart
pub apart_one : (v : Values) (c : Parts × Span) (h : ℕ) (w : Values) → AreApart v → IsPut true v c h w → AreApart w
apart_one v c h w a (inl (u, f, e)) = subst AreApart (sym e) a
apart_one v c h w a (inr (l, b, e)) = subst AreApart (sym e) (apart_push v c a (l refl))

pub merge_one : (r : Renames) (es : Values) (o : List ℕ) (t : Table) (v : Values) (k : ℕ) (a : Parts × Span) (h : ℕ) (w : Values) → Meets r es o o t v k a → AreApart v → IsPut true v (copied r t a.0, r.span a.1) h w → AreCopies r es (o ++ k ∷ []) (o ++ k ∷ []) (slice_set t k (Some h)) w
merge_one r es o t v k a h w m f p =
    let q = puts true v (copied r t a.0, r.span a.1) h w p in
    let u = slice_set t k (Some h) in
    let apart = apart_one v (copied r t a.0, r.span a.1) h w f p in
    record {
      went = went-more r es o o t v k a h m;
      reads = reads-more r es o o t v k a h w m q;
      spans = λ i j b e x y. spans-more r es o o t v k a h w m q i j x b e y;
      order = order-more r es o o t v k a h w m q;
      shared = λ i j x y e. inr (x, y);
      merged = λ i j b d x y eb ed e. let l = reads-more r es o o t v k a h w m q i b x eb in let n = reads-more r es o o t v k a h w m q j d y ed in apart (place_under u i) (place_under u j) l.0 n.0 l.1 n.1 (l.2 ∙ e ∙ sym n.2);
    }

-- ---- no copies yet

abbrev no_table : ℕ → Table
no_table n = replicate n None

none_went : (n k : ℕ) → is_some (option_flatten (slice_get (no_table n) k)) ≡ false
none_went zero k = refl
none_went (suc n) zero = refl
none_went (suc n) (suc k) = none_went n k

pub no_copies : (r : Renames) (es : Values) (n : ℕ) (t : Table) → t ≡ replicate n None → AreCopies r es [] [] t []
no_copies r es n t e = record {
  went = λ k. ap (λ (u : Table). is_some (option_flatten (slice_get u k))) e ∙ none_went n k;
  reads = λ k a h. absurd (false≢true h);
  spans = λ i k a e h. absurd (none-some k h);
  order = refl;
  shared = λ j k h. absurd (false≢true h);
  merged = λ j k a b h. absurd (false≢true h);
}

pub none_apart : AreApart []
none_apart h i e f p = absurd (none-some e p)
