-- What a copy reaches, and what its source reaches.
use Rattle.std.proofs.Common.{◌≡◌, ⊎_elim, ◌⊎◌, ℕ, zero, suc, ◌==◌, Bool, true, false, not, List, [], ◌∷◌, ◌++◌, map, Option, Some, None, option_map, option_to_list, unwrap_or, slice_get, inl, inr, refl, ap, sym, ◌∙◌, subst}
use Rattle.std.specs.List.{flat_map, filter}
use Rattle.std.proofs.lemmas.Bool.{cases_Bool, false≢true, or_cases, or_left, or_right}
use Rattle.std.proofs.lemmas.List.{map-append}
use Rattle.std.proofs.lemmas.Option.{none-some, same_Some, slice_get-map}
use Rattle.naga_oil_ir.specs.Body.{Tokens}
use Rattle.naga_oil_form.specs.BodyForm.{places}
use Rattle.naga_oil_form.specs.Links.{Links, linked, AreEarlier, reach, trail, has}
use Rattle.naga_oil_ir.specs.ModuleValue.{FunctionValue, LocalValue}
use Rattle.naga_oil_ir.specs.Parts.{Parts}
use Rattle.naga_oil_ir.specs.declared.span.Span.{Span}
use Rattle.naga_oil_ir.specs.declared.tokens.Token.{Token}
use Rattle.naga_oil_ir.specs.declared.tokens.Token.TheVariants.{Use, Give, GiveCall, Emitted}
use Rattle.naga_oil_form.proofs.LinkLemmas.{eqb_eq, eq_eqb, has-append, has-started, in_all, in_one, itself, only, started-closed, trail-step}
use Rattle.naga_oil_derive.specs.Copies.{value_links}
use Rattle.naga_oil_derive.specs.CopiedFunctionLaw.{spoken, EmitsAt}
use Rattle.naga_oil_derive.specs.DerivedFunctions.{initialisers_in}
use Rattle.naga_oil_derive.specs.Functions.{begun, local_under}
use Rattle.naga_oil_rename.specs.Renames.{Renames, rename_token, rename_tokens}
use Rattle.naga_oil_walk.specs.Walk.{others}
use Rattle.naga_oil_walk.proofs.WalkLemmas.{ends_trail}
use Rattle.naga_oil_copy_laws.specs.ByTree.{IsReached, IsBegun, HasCopy}

-- ---- lists of places

pub has-map : (h : ℕ → ℕ) (xs : List ℕ) (x : ℕ) → has xs x ≡ true → has (map h xs) (h x) ≡ true
has-map h [] x i = absurd (false≢true i)
has-map h (y ∷ xs) x i =
    ⊎_elim (λ j. or_left (h y == h x) (has (map h xs) (h x)) (eq_eqb (h y) (h x) (ap h (eqb_eq y x j)))) (λ j. or_right (h y == h x) (has (map h xs) (h x)) (has-map h xs x j)) (or_cases (y == x) (has xs x) i)

pub mapped : (h : ℕ → ℕ) (xs : List ℕ) (y : ℕ) → has (map h xs) y ≡ true → (k : ℕ) × (has xs k ≡ true) × (h k ≡ y)
mapped h [] y i = absurd (false≢true i)
mapped h (x ∷ xs) y i =
    ⊎_elim (λ j. (x, or_left (x == x) (has xs x) (eq_eqb x x refl), eqb_eq (h x) y j)) (λ j. let z = mapped h xs y j in (z.0, or_right (x == z.0) (has xs z.0) z.1, z.2)) (or_cases (h x == y) (has (map h xs) y) i)

pub has-filter : (p : ℕ → Bool) (xs : List ℕ) (x : ℕ) → has xs x ≡ true → p x ≡ true → has (filter p xs) x ≡ true
has-filter p [] x i q = absurd (false≢true i)
has-filter p (y ∷ xs) x i q =
    ⊎_elim (λ j. let e : p y ≡ true = ap p (eqb_eq y x j) ∙ q in rw e (or_left (y == x) (has (filter p xs) x) j)) (λ j. ⊎_elim (λ e. rw e (or_right (y == x) (has (filter p xs) x) (has-filter p xs x j q))) (λ e. rw e (has-filter p xs x j q)) (cases_Bool (p y))) (or_cases (y == x) (has xs x) i)

pub filter-has : (p : ℕ → Bool) (xs : List ℕ) (x : ℕ) → has (filter p xs) x ≡ true → (has xs x ≡ true) × (p x ≡ true)
filter-has p [] x i = absurd (false≢true i)
filter-has p (y ∷ xs) x i =
    ⊎_elim (λ e. let j : has (y ∷ filter p xs) x ≡ true = rw e at i in ⊎_elim (λ q. (or_left (y == x) (has xs x) q, ap p (sym (eqb_eq y x q)) ∙ e)) (λ q. let r = filter-has p xs x q in (or_right (y == x) (has xs x) r.0, r.1)) (or_cases (y == x) (has (filter p xs) x) j)) (λ e. let j : has (filter p xs) x ≡ true = rw e at i in let r = filter-has p xs x j in (or_right (y == x) (has xs x) r.0, r.1)) (cases_Bool (p y))

-- a part of a body that speaks of a place
pub speaks : (ts : Tokens) (x : ℕ) → has (flat_map spoken ts) x ≡ true → (i : ℕ) × (t : Token) × (slice_get ts i ≡ Some t) × (has (spoken t) x ≡ true)
speaks [] x i = absurd (false≢true i)
speaks (t ∷ ts) x i =
    ⊎_elim (λ j. (zero, t, refl, j)) (λ j. let r = speaks ts x j in (suc r.0, r.1, r.2, r.3)) (or_cases (has (spoken t) x) (has (flat_map spoken ts) x) (sym (has-append (spoken t) (flat_map spoken ts) x) ∙ i))

pub is_spoken : (ts : Tokens) (x i : ℕ) (t : Token) → slice_get ts i ≡ Some t → has (spoken t) x ≡ true → has (flat_map spoken ts) x ≡ true
is_spoken [] x i t e h = absurd (none-some t e)
is_spoken (y ∷ ts) x zero t e h = has-append (spoken y) (flat_map spoken ts) x ∙ or_left (has (spoken y) x) (has (flat_map spoken ts) x) (ap (λ z. has (spoken z) x) (same_Some y t e) ∙ h)
is_spoken (y ∷ ts) x (suc i) t e h = has-append (spoken y) (flat_map spoken ts) x ∙ or_right (has (spoken y) x) (has (flat_map spoken ts) x) (is_spoken ts x i t e h)

-- ---- reaching

abbrev pub links_of : FunctionValue → Links
links_of f = value_links f.expressions

abbrev pub roots_of : FunctionValue → List ℕ
roots_of f = initialisers_in f ++ flat_map spoken f.body

stays : (ls : Links) (o : List ℕ) → ((k x : ℕ) → has o k ≡ true → has (linked ls k) x ≡ true → has o x ≡ true) → (n r k : ℕ) → has o r ≡ true → has (reach n ls r) k ≡ true → has o k ≡ true
stays ls o c zero r k h i = absurd (false≢true i)
stays ls o c (suc n) r k h i =
    ⊎_elim (λ e. let y = in_one (reach n ls) (linked ls r) k e in stays ls o c n y.0 k (c r y.0 h y.1) y.2) (λ e. subst (λ v. has o v ≡ true) (only r k e) h) (or_cases (has (flat_map (reach n ls) (linked ls r)) k) (has (r ∷ []) k) (sym (has-append (flat_map (reach n ls) (linked ls r)) (r ∷ []) k) ∙ i))

-- what a root reaches, in a list that the roots began
roots_closed : (ls : Links) → AreEarlier ls → (rs : List ℕ) (p x : ℕ) → has (flat_map (trail ls) rs) p ≡ true → has (linked ls p) x ≡ true → has (flat_map (trail ls) rs) x ≡ true
roots_closed ls a rs p x h i = sym (has-started ls rs x) ∙ started-closed ls a rs p x (has-started ls rs p ∙ h) i

trail_stays : (ls : Links) → AreEarlier ls → (rs : List ℕ) (p x : ℕ) → has (flat_map (trail ls) rs) p ≡ true → has (trail ls p) x ≡ true → has (flat_map (trail ls) rs) x ≡ true
unfolding trail
trail_stays ls a rs p x h i = stays ls (flat_map (trail ls) rs) (roots_closed ls a rs) (suc p) p x h i

root_there : (ls : Links) → AreEarlier ls → (rs : List ℕ) (x : ℕ) → has rs x ≡ true → has (flat_map (trail ls) rs) x ≡ true
root_there ls a rs x h = in_all (trail ls) rs x x h (ends_trail ls a x)

-- more roots reach more
roots_more : (ls : Links) (xs ys : List ℕ) → ((x : ℕ) → has xs x ≡ true → has ys x ≡ true) → (k : ℕ) → has (flat_map (trail ls) xs) k ≡ true → has (flat_map (trail ls) ys) k ≡ true
roots_more ls xs ys w k h = let y = in_one (trail ls) xs k h in in_all (trail ls) ys y.0 k (w y.0 y.1) y.2

pub reached_closed : (f : FunctionValue) → AreEarlier (links_of f) → (p x : ℕ) → IsReached f p → has (linked (links_of f) p) x ≡ true → IsReached f x
reached_closed f a p x h i = roots_closed (links_of f) a (roots_of f) p x h i

pub reached_trail : (f : FunctionValue) → AreEarlier (links_of f) → (p x : ℕ) → IsReached f p → has (trail (links_of f) p) x ≡ true → IsReached f x
reached_trail f a p x h i = trail_stays (links_of f) a (roots_of f) p x h i

pub root_reached : (f : FunctionValue) → AreEarlier (links_of f) → (x : ℕ) → has (roots_of f) x ≡ true → IsReached f x
root_reached f a x h = root_there (links_of f) a (roots_of f) x h

initialiser_root : (f : FunctionValue) (x : ℕ) → has (initialisers_in f) x ≡ true → has (roots_of f) x ≡ true
initialiser_root f x h = has-append (initialisers_in f) (flat_map spoken f.body) x ∙ or_left (has (initialisers_in f) x) (has (flat_map spoken f.body) x) h

pub spoken_root : (f : FunctionValue) (x : ℕ) → has (flat_map spoken f.body) x ≡ true → has (roots_of f) x ≡ true
spoken_root f x h = has-append (initialisers_in f) (flat_map spoken f.body) x ∙ or_right (has (initialisers_in f) x) (has (flat_map spoken f.body) x) h

pub begun_reached : (f : FunctionValue) (k : ℕ) → IsBegun f k → IsReached f k
begun_reached f k h = roots_more (links_of f) (initialisers_in f) (roots_of f) (initialiser_root f) k (sym (has-started (links_of f) (initialisers_in f) k) ∙ h)

-- ---- images

-- g speaks of what f does, by h
pub record IsImage (r : Renames) (f g : FunctionValue) : Type 0 where
  pub locals : g.local_variables ≡ map (local_under r) f.local_variables
  pub body : g.body ≡ rename_tokens r f.body
  pub copies : (k : ℕ) → IsReached f k → HasCopy r f g k
  pub emits : (i : ℕ) (p : ℕ × ℕ) → EmitsAt f i p → places (r.range p) ≡ map r.expression (others (begun f) (places p))

pub operands_image : (h : ℕ → ℕ) (os : List (Option ℕ)) → flat_map option_to_list (map (option_map h) os) ≡ map h (flat_map option_to_list os)
operands_image h [] = refl
operands_image h (None ∷ os) = operands_image h os
operands_image h (Some x ∷ os) = ap (λ xs. h x ∷ xs) (operands_image h os)

abbrev pub operands_of : Parts × Span → List ℕ
operands_of e = flat_map option_to_list e.0.operands

pub linked_at : (f : FunctionValue) (k : ℕ) (e : Parts × Span) → slice_get f.expressions k ≡ Some e → linked (links_of f) k ≡ operands_of e
linked_at f k e at = ap (λ o. unwrap_or o []) (slice_get-map operands_of f.expressions k ∙ ap (option_map operands_of) at)

links_image : (r : Renames) (f g : FunctionValue) (k : ℕ) → HasCopy r f g k → linked (links_of g) (r.expression k) ≡ map r.expression (linked (links_of f) k)
links_image r f g k c =
    linked_at g (r.expression k) c.copy c.at_copy ∙ ap (λ (p : Parts). flat_map option_to_list p.operands) c.reads ∙ operands_image r.expression c.source.0.operands ∙ ap (map r.expression) (sym (linked_at f k c.source c.at_source))

abbrev inits_of : List (LocalValue × Span) → List ℕ
inits_of ls = flat_map (λ l. option_to_list l.0.init) ls

init_image : (h : ℕ → ℕ) (o : Option ℕ) → option_to_list (option_map h o) ≡ map h (option_to_list o)
init_image h None = refl
init_image h (Some x) = refl

inits_image : (r : Renames) (ls : List (LocalValue × Span)) → inits_of (map (local_under r) ls) ≡ map r.expression (inits_of ls)
inits_image r [] = refl
inits_image r (l ∷ ls) =
    ap (λ xs. xs ++ inits_of (map (local_under r) ls)) (init_image r.expression l.0.init) ∙ ap (λ xs. map r.expression (option_to_list l.0.init) ++ xs) (inits_image r ls) ∙ sym (map-append r.expression (option_to_list l.0.init) (inits_of ls))

pub initialisers_image : (r : Renames) (f g : FunctionValue) → IsImage r f g → initialisers_in g ≡ map r.expression (initialisers_in f)
initialisers_image r f g m = ap inits_of m.locals ∙ inits_image r f.local_variables

-- ---- from the copy back

reach_back : (r : Renames) (f g : FunctionValue) → AreEarlier (links_of f) → IsImage r f g → (n i x : ℕ) → IsReached f i → has (reach n (links_of g) (r.expression i)) x ≡ true → (j : ℕ) × (has (trail (links_of f) i) j ≡ true) × (r.expression j ≡ x)
reach_back r f g a m zero i x w h = absurd (false≢true h)
reach_back r f g a m (suc n) i x w h =
    let lf = links_of f in
    let lg = links_of g in
    let go = λ (e : has (flat_map (reach n lg) (linked lg (r.expression i))) x ≡ true). (
    let y = in_one (reach n lg) (linked lg (r.expression i)) x e in
    let z = mapped r.expression (linked lf i) y.0 (ap (λ xs. has xs y.0) (sym (links_image r f g i (m.copies i w))) ∙ y.1) in
    let k = reach_back r f g a m n z.0 x (reached_closed f a i z.0 w z.1) (ap (λ v. has (reach n lg v) x) z.2 ∙ y.2) in
    let there : has (trail lf i) k.0 ≡ true = ap (λ xs. has xs k.0) (trail-step lf a i) ∙ has-append (flat_map (trail lf) (linked lf i)) (i ∷ []) k.0 ∙ or_left (has (flat_map (trail lf) (linked lf i)) k.0) (has (i ∷ []) k.0) (in_all (trail lf) (linked lf i) z.0 k.0 z.1 k.1) in
    let all : (j : ℕ) × (has (trail lf i) j ≡ true) × (r.expression j ≡ x) = (k.0, there, k.2) in
    all) in
    ⊎_elim go (λ e. (i, ends_trail lf a i, only (r.expression i) x e)) (or_cases (has (flat_map (reach n lg) (linked lg (r.expression i))) x) (has (r.expression i ∷ []) x) (sym (has-append (flat_map (reach n lg) (linked lg (r.expression i))) (r.expression i ∷ []) x) ∙ h))

trail_back : (r : Renames) (f g : FunctionValue) → AreEarlier (links_of f) → IsImage r f g → (i x : ℕ) → IsReached f i → has (trail (links_of g) (r.expression i)) x ≡ true → (j : ℕ) × (has (trail (links_of f) i) j ≡ true) × (r.expression j ≡ x)
unfolding trail
trail_back r f g a m i x w h = reach_back r f g a m (suc (r.expression i)) i x w h

-- what the initialisers of a copy reach copies what those of its source reach
pub begun_back : (r : Renames) (f g : FunctionValue) → AreEarlier (links_of f) → IsImage r f g → (x : ℕ) → IsBegun g x → (k : ℕ) × IsBegun f k × (r.expression k ≡ x)
begun_back r f g a m x h =
    let lf = links_of f in
    let y = in_one (trail (links_of g)) (initialisers_in g) x (sym (has-started (links_of g) (initialisers_in g) x) ∙ h) in
    let z = mapped r.expression (initialisers_in f) y.0 (ap (λ xs. has xs y.0) (sym (initialisers_image r f g m)) ∙ y.1) in
    let k = trail_back r f g a m z.0 x (root_reached f a z.0 (initialiser_root f z.0 z.1)) (ap (λ v. has (trail (links_of g) v) x) z.2 ∙ y.2) in
    (k.0, has-started lf (initialisers_in f) k.0 ∙ in_all (trail lf) (initialisers_in f) z.0 k.0 z.1 k.1, k.2)

abbrev SpokenBack : Renames → Token → ℕ → Type 0
SpokenBack r t x = (z : ℕ) × (has (spoken t) z ≡ true) × (r.expression z ≡ x)

spoken_back : (r : Renames) (f : FunctionValue) → ((i : ℕ) (p : ℕ × ℕ) → EmitsAt f i p → places (r.range p) ≡ map r.expression (others (begun f) (places p))) → (i : ℕ) (t : Token) (x : ℕ) → slice_get f.body i ≡ Some t → has (spoken (rename_token r t)) x ≡ true → SpokenBack r t x
spoken_back r f m i (Use h) x e w = (h, itself h, only (r.expression h) x w)
spoken_back r f m i (Give h) x e w = (h, itself h, only (r.expression h) x w)
spoken_back r f m i (GiveCall c h) x e w = (h, itself h, only (r.expression h) x w)
spoken_back r f m i (Emitted p) x e w =
    let z = mapped r.expression (others (begun f) (places p)) x (ap (λ xs. has xs x) (sym (m i p e)) ∙ w) in
    (z.0, (filter-has (λ y. not (has (begun f) y)) (places p) z.0 z.1).0, z.2)
spoken_back r f m i _ x e w = absurd (false≢true w)

pub token_back : (r : Renames) (f g : FunctionValue) → IsImage r f g → (i : ℕ) (u : Token) → slice_get g.body i ≡ Some u → (t : Token) × (slice_get f.body i ≡ Some t) × (u ≡ rename_token r t)
token_back r f g m i u e = token_from r (slice_get f.body i) u (sym (slice_get-map (rename_token r) f.body i) ∙ ap (λ ts. slice_get ts i) (sym m.body) ∙ e)
  where
    token_from : (r : Renames) (o : Option Token) (u : Token) → option_map (rename_token r) o ≡ Some u → (t : Token) × (o ≡ Some t) × (u ≡ rename_token r t)
    token_from r None u e = absurd (none-some u e)
    token_from r (Some t) u e = (t, refl, sym (same_Some (rename_token r t) u e))

-- what a copy reaches copies what its source reaches
pub reached_back : (r : Renames) (f g : FunctionValue) → AreEarlier (links_of f) → IsImage r f g → (x : ℕ) → IsReached g x → (k : ℕ) × IsReached f k × (r.expression k ≡ x)
reached_back r f g a m x h =
    let y = in_one (trail (links_of g)) (roots_of g) x h in
    let root : (z : ℕ) × (has (roots_of f) z ≡ true) × (r.expression z ≡ y.0) =
    ⊎_elim
    (λ (e : has (initialisers_in g) y.0 ≡ true). let z = mapped r.expression (initialisers_in f) y.0 (ap (λ xs. has xs y.0) (sym (initialisers_image r f g m)) ∙ e) in let all : (z : ℕ) × (has (roots_of f) z ≡ true) × (r.expression z ≡ y.0) = (z.0, initialiser_root f z.0 z.1, z.2) in all)
    (λ (e : has (flat_map spoken g.body) y.0 ≡ true).
    let s = speaks g.body y.0 e in
    let t = token_back r f g m s.0 s.1 s.2 in
    let z = spoken_back r f m.emits s.0 t.0 y.0 t.1 (ap (λ u. has (spoken u) y.0) (sym t.2) ∙ s.3) in
    let all : (z : ℕ) × (has (roots_of f) z ≡ true) × (r.expression z ≡ y.0) = (z.0, spoken_root f z.0 (is_spoken f.body z.0 s.0 t.0 t.1 z.1), z.2) in
    all)
    (or_cases (has (initialisers_in g) y.0) (has (flat_map spoken g.body) y.0) (sym (has-append (initialisers_in g) (flat_map spoken g.body) y.0) ∙ y.1)) in
    let w = root_reached f a root.0 root.1 in
    let k = trail_back r f g a m root.0 x w (ap (λ v. has (trail (links_of g) v) x) root.2 ∙ y.2) in
    (k.0, reached_trail f a root.0 k.0 w k.1, k.2)

-- ---- from the source on

reach_on : (r : Renames) (f g : FunctionValue) → AreEarlier (links_of f) → AreEarlier (links_of g) → IsImage r f g → (n i k : ℕ) → IsReached f i → has (reach n (links_of f) i) k ≡ true → has (trail (links_of g) (r.expression i)) (r.expression k) ≡ true
reach_on r f g a b m zero i k w h = absurd (false≢true h)
reach_on r f g a b m (suc n) i k w h =
    let lf = links_of f in
    let lg = links_of g in
    let x = r.expression i in
    let go = λ (e : has (flat_map (reach n lf) (linked lf i)) k ≡ true). (
    let y = in_one (reach n lf) (linked lf i) k e in
    let there = reach_on r f g a b m n y.0 k (reached_closed f a i y.0 w y.1) y.2 in
    let named : has (linked lg x) (r.expression y.0) ≡ true = ap (λ xs. has xs (r.expression y.0)) (links_image r f g i (m.copies i w)) ∙ has-map r.expression (linked lf i) y.0 y.1 in
    ap (λ xs. has xs (r.expression k)) (trail-step lg b x) ∙ has-append (flat_map (trail lg) (linked lg x)) (x ∷ []) (r.expression k) ∙ or_left (has (flat_map (trail lg) (linked lg x)) (r.expression k)) (has (x ∷ []) (r.expression k)) (in_all (trail lg) (linked lg x) (r.expression y.0) (r.expression k) named there)) in
    ⊎_elim go (λ e. ap (λ v. has (trail lg x) (r.expression v)) (sym (only i k e)) ∙ ends_trail lg b x) (or_cases (has (flat_map (reach n lf) (linked lf i)) k) (has (i ∷ []) k) (sym (has-append (flat_map (reach n lf) (linked lf i)) (i ∷ []) k) ∙ h))

trail_on : (r : Renames) (f g : FunctionValue) → AreEarlier (links_of f) → AreEarlier (links_of g) → IsImage r f g → (i k : ℕ) → IsReached f i → has (trail (links_of f) i) k ≡ true → has (trail (links_of g) (r.expression i)) (r.expression k) ≡ true
unfolding trail
trail_on r f g a b m i k w h = reach_on r f g a b m (suc i) i k w h

-- what the initialisers of a source reach, those of its copy do
pub begun_on : (r : Renames) (f g : FunctionValue) → AreEarlier (links_of f) → AreEarlier (links_of g) → IsImage r f g → (k : ℕ) → IsBegun f k → IsBegun g (r.expression k)
begun_on r f g a b m k h =
    let lf = links_of f in
    let lg = links_of g in
    let x = r.expression k in
    let y = in_one (trail lf) (initialisers_in f) k (sym (has-started lf (initialisers_in f) k) ∙ h) in
    let root : has (initialisers_in g) (r.expression y.0) ≡ true = ap (λ xs. has xs (r.expression y.0)) (initialisers_image r f g m) ∙ has-map r.expression (initialisers_in f) y.0 y.1 in
    has-started lg (initialisers_in g) x ∙ in_all (trail lg) (initialisers_in g) (r.expression y.0) x root (trail_on r f g a b m y.0 k (root_reached f a y.0 (initialiser_root f y.0 y.1)) y.2)

spoken_on : (r : Renames) (f : FunctionValue) → ((i : ℕ) (p : ℕ × ℕ) → EmitsAt f i p → places (r.range p) ≡ map r.expression (others (begun f) (places p))) → (i : ℕ) (t : Token) (x : ℕ) → slice_get f.body i ≡ Some t → has (spoken t) x ≡ true → IsBegun f x ⊎ (has (spoken (rename_token r t)) (r.expression x) ≡ true)
spoken_on r f m i (Use h) x e w = inr (ap (λ v. has (r.expression h ∷ []) (r.expression v)) (sym (only h x w)) ∙ itself (r.expression h))
spoken_on r f m i (Give h) x e w = inr (ap (λ v. has (r.expression h ∷ []) (r.expression v)) (sym (only h x w)) ∙ itself (r.expression h))
spoken_on r f m i (GiveCall c h) x e w = inr (ap (λ v. has (r.expression h ∷ []) (r.expression v)) (sym (only h x w)) ∙ itself (r.expression h))
spoken_on r f m i (Emitted p) x e w =
    ⊎_elim (λ (q : IsBegun f x). inl q) (λ (q : has (begun f) x ≡ false). inr (ap (λ xs. has xs (r.expression x)) (m i p e) ∙ has-map r.expression (others (begun f) (places p)) x (has-filter (λ y. not (has (begun f) y)) (places p) x w (ap not q)))) (cases_Bool (has (begun f) x))
spoken_on r f m i _ x e w = absurd (false≢true w)

root_on : (r : Renames) (f g : FunctionValue) → AreEarlier (links_of f) → AreEarlier (links_of g) → IsImage r f g → (x : ℕ) → has (roots_of f) x ≡ true → IsReached g (r.expression x)
root_on r f g a b m x h =
    let begun_one = λ (q : IsBegun f x). begun_reached g (r.expression x) (begun_on r f g a b m x q) in
    ⊎_elim
    (λ (e : has (initialisers_in f) x ≡ true). begun_one (has-started (links_of f) (initialisers_in f) x ∙ root_there (links_of f) a (initialisers_in f) x e))
    (λ (e : has (flat_map spoken f.body) x ≡ true).
    let s = speaks f.body x e in
    let at : slice_get g.body s.0 ≡ Some (rename_token r s.1) = ap (λ ts. slice_get ts s.0) m.body ∙ slice_get-map (rename_token r) f.body s.0 ∙ ap (option_map (rename_token r)) s.2 in
    ⊎_elim begun_one (λ q. root_reached g b (r.expression x) (spoken_root g (r.expression x) (is_spoken g.body (r.expression x) s.0 (rename_token r s.1) at q))) (spoken_on r f m.emits s.0 s.1 x s.2 s.3))
    (or_cases (has (initialisers_in f) x) (has (flat_map spoken f.body) x) (sym (has-append (initialisers_in f) (flat_map spoken f.body) x) ∙ h))

-- what a source reaches, its copy does
pub reached_on : (r : Renames) (f g : FunctionValue) → AreEarlier (links_of f) → AreEarlier (links_of g) → IsImage r f g → (k : ℕ) → IsReached f k → IsReached g (r.expression k)
reached_on r f g a b m k h =
    let y = in_one (trail (links_of f)) (roots_of f) k h in
    reached_trail g b (r.expression y.0) (r.expression k) (root_on r f g a b m y.0 y.1) (trail_on r f g a b m y.0 k (root_reached f a y.0 y.1) y.2)
