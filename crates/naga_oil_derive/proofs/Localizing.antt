-- The copy of a function.
use Rattle.std.proofs.Common.{◌≡◌, ⊎_elim, ℕ, zero, suc, ◌+◌, ◌-◌, ◌<◌, ◌≤◌, if◌then◌else◌, List, [], ◌∷◌, ◌++◌, length, map, take, drop, slice_get, option_to_list, Option, Some, None, refl, ap, sym, ◌∙◌, arith}
use Rattle.std.specs.List.{flat_map}
use Rattle.std.specs.Option.{option_flatten}
use Rattle.std.proofs.lemmas.Bool.{cases_lt, lt-ltb, le-ltb}
use Rattle.std.proofs.lemmas.List.{append_assoc, map-append, length-append, length-map, take_at, drop_at}
use Rattle.std.proofs.lemmas.Option.{none-some, same_Some}
use Rattle.naga_oil_ir.specs.Parts.{parts}
use Rattle.naga_oil_ir.specs.Body.{Tokens}
use Rattle.naga_oil_form.specs.BodyForm.{run, places, kinds}
use Rattle.naga_oil_form.specs.Links.{Links, started}
use Rattle.naga_oil_ir.specs.ModuleValue.{expression_values, local_values}
use Rattle.naga_oil_form.specs.WellFormed.{initialisers_of}
use Rattle.naga_oil_ir.specs.declared.expression.Expression.{Expression}
use Rattle.naga_oil_ir.specs.declared.span.Span.{Span}
use Rattle.naga_oil_ir.specs.declared.tokens.Token.{Token}
use Rattle.naga_oil_ir.specs.declared.tokens.Token.TheVariants.{Emitted}
use Rattle.naga_oil_ir.specs.declared.types.LocalVariable.{LocalVariable}
use Rattle.naga_oil_walk.specs.Walk.{Notes, StandsFrom, IsNoted, AreNoted, AreWithin, others, listed, walked}
use Rattle.naga_oil_derive.specs.Copies.{Table, place_under, brought, brought_range, range_under, FitIn}
use Rattle.naga_oil_derive.specs.Functions.{IsCovered, AreCovered, names_under, name_put}
use Rattle.naga_oil_walk.proofs.WalkNotes.{added-grows}

-- ---- the values of a function

pub kinds_of_values : (es : List (Expression × Span)) → map (λ e. e.0.kind) (expression_values es) ≡ kinds es
kinds_of_values [] = refl
kinds_of_values (e ∷ es) = ap (λ (ks : List ℕ). (parts e.0).kind ∷ ks) (kinds_of_values es)

pub inits_of_values : (ls : List (LocalVariable × Span)) → flat_map (λ l. option_to_list l.0.init) (local_values ls) ≡ initialisers_of ls
inits_of_values [] = refl
inits_of_values (l ∷ ls) = ap (λ (xs : List ℕ). option_to_list l.0.init ++ xs) (inits_of_values ls)

-- what initialisers reach is the beginning of the order
pub first_places : (ks : List ℕ) (ls : Links) (is : List ℕ) (ts : Tokens) (o : List ℕ) (n : ℕ) → o ≡ walked ks ls is ts → n ≡ length (started ls is) → take n o ≡ started ls is
first_places ks ls is ts o n e l = let g = added-grows (flat_map (listed ks ls) ts) (started ls is) in ap (take n) (e ∙ g.1) ∙ take_at (started ls is) g.0 n (sym l)

-- ---- runs of numbers

pub run_length : (n a : ℕ) → length (run a n) ≡ n
run_length zero a = refl
run_length (suc n) a = ap suc (run_length n (suc a))

zero_add : (n : ℕ) → 0 + n ≡ n
zero_add n = omega arith

suc_add : (n m : ℕ) → suc n + m ≡ suc (n + m)
suc_add n m = omega arith

sum_same : (a b c d : ℕ) → a ≡ b → c ≡ d → a + c ≡ b + d
sum_same a b c d e f = omega arith

run_append : (n m a b : ℕ) → b ≡ a + n → run a (n + m) ≡ run a n ++ run b m
run_append zero m a b e = let f : a ≡ b = omega arith in ap (run a) (zero_add m) ∙ ap (λ x. run x m) f
run_append (suc n) m a b e = ap (run a) (suc_add n m) ∙ ap (λ xs. a ∷ xs) (run_append n m (suc a) b (omega arith))

-- a part of a list that is the part of another at the same place
same_part : (a x b c y d : List ℕ) → length a ≡ length c → length x ≡ length y → (a ++ x) ++ b ≡ (c ++ y) ++ d → x ≡ y
same_part a x b c y d h i e =
    let f : x ++ b ≡ y ++ d = sym (drop_at a (x ++ b) (length a) refl) ∙ ap (drop (length a)) (sym (append_assoc a x b) ∙ e ∙ append_assoc c y d) ∙ drop_at c (y ++ d) (length a) (sym h) in
    sym (take_at x b (length x) refl) ∙ ap (take (length x)) f ∙ take_at y d (length x) (sym i)

-- a list after the first n of an order maps to consecutive numbers
went_on : (f : ℕ → ℕ) (o x xs : List ℕ) (n m b e : ℕ) → length x ≡ n → map f o ≡ x ++ run m (length o - n) → n ≤ b → StandsFrom o b e xs → map f xs ≡ run (m + (b - n)) (length xs)
went_on f o x xs n m b e lx w le s =
    let lo : length o ≡ (b + length xs) + length s.following = ap length s.is ∙ length-append (s.before ++ xs) s.following ∙ ap (λ k. k + length s.following) (length-append s.before xs ∙ ap (λ k. k + length xs) s.begins) in
    let split : length o - n ≡ (b - n) + (length xs + length s.following) = omega arith in
    let r : run m (length o - n) ≡ run m (b - n) ++ (run (m + (b - n)) (length xs) ++ run (m + (b - n) + length xs) (length s.following)) = ap (run m) split ∙ run_append (b - n) (length xs + length s.following) m (m + (b - n)) refl ∙ ap (λ ys. run m (b - n) ++ ys) (run_append (length xs) (length s.following) (m + (b - n)) (m + (b - n) + length xs) refl) in
    let left : map f o ≡ (map f s.before ++ map f xs) ++ map f s.following = ap (map f) s.is ∙ map-append f (s.before ++ xs) s.following ∙ ap (λ ys. ys ++ map f s.following) (map-append f s.before xs) in
    let right : map f o ≡ ((x ++ run m (b - n)) ++ run (m + (b - n)) (length xs)) ++ run (m + (b - n) + length xs) (length s.following) = w ∙ ap (λ ys. x ++ ys) r ∙ sym (append_assoc x (run m (b - n)) (run (m + (b - n)) (length xs) ++ run (m + (b - n) + length xs) (length s.following))) ∙ sym (append_assoc (x ++ run m (b - n)) (run (m + (b - n)) (length xs)) (run (m + (b - n) + length xs) (length s.following))) in
    let la : length (map f s.before) ≡ b = length-map s.before f ∙ s.begins in
    let lc : length (x ++ run m (b - n)) ≡ n + (b - n) = length-append x (run m (b - n)) ∙ sum_same (length x) n (length (run m (b - n))) (b - n) lx (run_length (b - n) m) in
    same_part (map f s.before) (map f xs) (map f s.following) (x ++ run m (b - n)) (run (m + (b - n)) (length xs)) (run (m + (b - n) + length xs) (length s.following)) (omega arith) (length-map xs f ∙ sym (run_length (length xs) (m + (b - n)))) (sym left ∙ right)

-- ---- emitted ranges

pub places_empty : (r : ℕ × ℕ) → r.1 ≤ r.0 → places r ≡ []
places_empty r h = let e : r.1 - r.0 ≡ 0 = omega arith in ap (run r.0) e

one_place : (n m c : ℕ) (r : ℕ × ℕ) (o : Option (ℕ × ℕ)) → r.1 ≤ r.0 → places (brought_range n m c r o) ≡ []
one_place n m c r None h = places_empty (c, c) (omega arith)
one_place n m c r (Some p) h = ap (λ v. places (brought n m p.0, if v then brought n m p.1 else brought n m p.0)) (le-ltb r.0 r.1 h) ∙ places_empty (brought n m p.0, brought n m p.0) (omega arith)

wide : (es : Notes) (n m c : ℕ) (r : ℕ × ℕ) (b e : ℕ) → r.0 < r.1 → slice_get es r.0 ≡ Some (Some (b, e)) → range_under es n m c r ≡ (brought n m b, brought n m e)
wide es n m c r b e h at = ap (λ q. brought_range n m c r (option_flatten q)) at ∙ ap (λ v. let p : ℕ × ℕ = (brought n m b, if v then brought n m e else brought n m b) in p) (lt-ltb r.0 r.1 h)

covered_token : (t : Table) (es : Notes) (s o x : List ℕ) (n m c : ℕ) (k : Token) → length x ≡ n → map (place_under t) o ≡ x ++ run m (length o - n) → AreWithin n o es → IsNoted s o es k → IsCovered t (range_under es n m c) s k
covered_token t es s o x n m c (Emitted r) lx w within noted =
    ⊎_elim (λ h. let v = noted h in let b = v.0 in let e = v.1 in let st = v.3 in let le = (within r.0 b e v.2).0 in let xs = others s (places r) in let ends = st.ends in let size : brought n m e - brought n m b ≡ length xs = omega arith in ap places (wide es n m c r b e h v.2) ∙ ap (run (brought n m b)) size ∙ sym (went_on (place_under t) o x xs n m b e lx w le st)) (λ h. one_place n m c r (option_flatten (slice_get es r.0)) h ∙ sym (ap (λ ps. map (place_under t) (others s ps)) (places_empty r h))) (cases_lt r.0 r.1)
covered_token t es s o x n m c _ lx w within noted = tt

pub covered : (t : Table) (es : Notes) (s o x : List ℕ) (n m c : ℕ) (ts : Tokens) → length x ≡ n → map (place_under t) o ≡ x ++ run m (length o - n) → AreWithin n o es → AreNoted s o es ts → AreCovered t (range_under es n m c) s ts
covered t es s o x n m c [] lx w within noted = tt
covered t es s o x n m c (k ∷ ts) lx w within noted = (covered_token t es s o x n m c k lx w within noted.0, covered t es s o x n m c ts lx w within noted.1)

flat_some : (o : Option (Option (ℕ × ℕ))) (x : ℕ × ℕ) → option_flatten o ≡ Some x → o ≡ Some (Some x)
flat_some None x e = absurd (none-some x e)
flat_some (Some None) x e = absurd (none-some x e)
flat_some (Some (Some y)) x e = ap (λ z. Some (Some z)) (same_Some y x e)

-- what was noted stands among the copies
pub notes_fit : (es : Notes) (o : List ℕ) (n m c : ℕ) → AreWithin n o es → n ≤ length o → c ≡ m + (length o - n) → FitIn n m c es
notes_fit es o n m c w l e = λ k b f h. let v = w k b f (flat_some (slice_get es k) (b, f) h) in let v2 = v.2 in let v1 = v.1 in let v0 = v.0 in (v0, v1, omega arith)

-- ---- names

pub names-push : (t : Table) (es : List (ℕ × List ℕ)) (e : ℕ × List ℕ) (done : List (ℕ × List ℕ)) → names_under t done (es ++ e ∷ []) ≡ name_put (option_flatten (slice_get t e.0)) e.1 (names_under t done es)
names-push t [] e done = refl
names-push t (x ∷ es) e done = names-push t es e (name_put (option_flatten (slice_get t x.0)) x.1 done)
