-- Tests that decide what is said of each element of a list, of what may be absent, and of places.
use Rattle.std.proofs.Common.{◌≡◌, ℕ, zero, suc, ◌+◌, ◌<◌, ◌≤◌, Bool, true, false, not, ◌&&◌, List, [], ◌∷◌, map, slice_get, unwrap_or, Option, Some, None, IfSome, All, Decides, nat_eq, nat_lt, nat_le, refl, ap, sym, ◌∙◌, subst, arith, rules, tests}
use Rattle.std.specs.List.{list_all, enumerate_from, AllByRecursion, IsDistinct}
use Rattle.std.specs.Option.{option_eq}
use Rattle.std.proofs.lemmas.Bool.{false≢true}
use Rattle.std.proofs.lemmas.Bool.Decides.{Decides-and, Decides-like, Decides-ltb, nat_tests}
use Rattle.std.proofs.lemmas.List.Elements.{All-nil, All-cons, All-head, All-tail}
use Rattle.std.proofs.lemmas.List.{map-id}
use Rattle.std.proofs.lemmas.Option.{same_Some}
use Rattle.naga_oil_form.specs.Links.{Links, linked, AreEarlier, AtEach}
use Rattle.naga_oil_form.specs.FormItems.{are_distinct}
use Rattle.naga_oil_form.specs.FormParts.{passes_if_there, are_earlier}

-- both of two tests
pub both : {P Q : Type 0} (x y : Bool) → Decides x P → Decides y Q → Decides (x && y) (P × Q)
both x y d e = Decides-and x y d e

-- a test of the same
pub like : {P Q : Type 0} (x : Bool) → (P → Q) → (Q → P) → Decides x P → Decides x Q
like x f g d = Decides-like x f g d

pub always : Decides true (Unit {0})
always = (λ _. tt, λ _. refl)

pub itself : (b : Bool) → Decides b (b ≡ true)
itself b = (λ h. h, λ h. h)

pub fails : (b : Bool) → Decides (not b) (b ≡ false)
fails true = (λ h. absurd (false≢true h), λ h. absurd (false≢true (sym h)))
fails false = (λ _. refl, λ _. refl)

pub at_most : (a b : ℕ) → Decides (nat_le a b) (a ≤ b)
at_most a b = grind (arith, nat_tests)

pub less : (a b : ℕ) → Decides (nat_lt a b) (a < b)
less a b = Decides-ltb a b

-- ---- lists

pub each : {A B C : Type 0} (f : A → B) (g : A → C) (p : B → Bool) (P : C → Type 0) → ((x : A) → Decides (p (f x)) (P (g x))) → (xs : List A) → Decides (list_all p (map f xs)) (All P (map g xs))
each f g p P d [] = (λ _. All-nil P, λ _. refl)
each f g p P d (x ∷ xs) =
    like _ (λ h. All-cons P (g x) (map g xs) h.0 h.1) (λ a. (All-head P (g x) (map g xs) a, All-tail P (g x) (map g xs) a)) (both (p (f x)) (list_all p (map f xs)) (d x) (each f g p P d xs))

pub each_from : {A B : Type 0} (f : A → B) (p : B → Bool) (P : A → Type 0) → ((x : A) → Decides (p (f x)) (P x)) → (xs : List A) → Decides (list_all p (map f xs)) (All P xs)
each_from f p P d [] = (λ _. All-nil P, λ _. refl)
each_from f p P d (x ∷ xs) =
    like _ (λ h. All-cons P x xs h.0 h.1) (λ a. (All-head P x xs a, All-tail P x xs a)) (both (p (f x)) (list_all p (map f xs)) (d x) (each_from f p P d xs))

pub each_itself : {A : Type 0} (p : A → Bool) (P : A → Type 0) → ((x : A) → Decides (p x) (P x)) → (xs : List A) → Decides (list_all p xs) (All P xs)
each_itself p P d [] = (λ _. All-nil P, λ _. refl)
each_itself p P d (x ∷ xs) =
    like _ (λ h. All-cons P x xs h.0 h.1) (λ a. (All-head P x xs a, All-tail P x xs a)) (both (p x) (list_all p xs) (d x) (each_itself p P d xs))

-- ---- elements by their places

abbrev pub ByPlace : {A : Type 0} → (ℕ → A → Type 0) → ℕ → List A → Type 0
ByPlace {A} P n xs = (k : ℕ) (x : A) → slice_get xs k ≡ Some x → P (n + k) x

at_first : {A : Type 0} (P : ℕ → A → Type 0) (n : ℕ) (x : A) → P n x → P (n + 0) x
at_first P n x p = let e : n ≡ n + 0 = omega arith in subst (λ (k : ℕ). P k x) e p

from_first : {A : Type 0} (P : ℕ → A → Type 0) (n : ℕ) (x : A) → P (n + 0) x → P n x
from_first P n x p = let e : n + 0 ≡ n = omega arith in subst (λ (k : ℕ). P k x) e p

at_further : {A : Type 0} (P : ℕ → A → Type 0) (n k : ℕ) (x : A) → P (n + 1 + k) x → P (n + suc k) x
at_further P n k x p = let e : n + 1 + k ≡ n + suc k = omega arith in subst (λ (k : ℕ). P k x) e p

from_further : {A : Type 0} (P : ℕ → A → Type 0) (n k : ℕ) (x : A) → P (n + suc k) x → P (n + 1 + k) x
from_further P n k x p = let e : n + suc k ≡ n + 1 + k = omega arith in subst (λ (k : ℕ). P k x) e p

place_first : {A : Type 0} (P : ℕ → A → Type 0) (n : ℕ) (x : A) (xs : List A) → P n x → ByPlace P (n + 1) xs → ByPlace P n (x ∷ xs)
place_first P n x xs p h zero y at = let e : x ≡ y = same_Some x y at in at_first P n y (subst (P n) e p)
place_first P n x xs p h (suc k) y at = at_further P n k y (h k y at)

pub by_place : {A B : Type 0} (f : A → B) (p : ℕ × B → Bool) (P : ℕ → A → Type 0) → ((k : ℕ) (x : A) → Decides (p (k, f x)) (P k x)) → (n : ℕ) (xs : List A) → Decides (list_all p (enumerate_from n (map f xs))) (ByPlace P n xs)
by_place f p P d n [] = (λ _ k x at. absurd cc, λ _. refl)
by_place f p P d n (x ∷ xs) =
    like _ (λ h. place_first P n x xs h.0 h.1) (λ h. (from_first P n x (h 0 x refl), λ k y at. from_further P n k y (h (suc k) y at))) (both (p (n, f x)) (list_all p (enumerate_from (n + 1) (map f xs))) (d n x) (by_place f p P d (n + 1) xs))

-- from the place 0 on
pub in_order : {A B : Type 0} (f : A → B) (p : ℕ × B → Bool) (P : ℕ → A → Type 0) → ((k : ℕ) (x : A) → Decides (p (k, f x)) (P k x)) → (xs : List A) → Decides (list_all p (enumerate_from 0 (map f xs))) ((k : ℕ) (x : A) → slice_get xs k ≡ Some x → P k x)
in_order {A} {B} f p P d xs =
    let to : (k : ℕ) (x : A) → P (0 + k) x → P k x = λ k x h. let e : 0 + k ≡ k = omega arith in subst (λ (j : ℕ). P j x) e h in
    let from : (k : ℕ) (x : A) → P k x → P (0 + k) x = λ k x h. let e : k ≡ 0 + k = omega arith in subst (λ (j : ℕ). P j x) e h in
    like _ (λ h k x at. to k x (h k x at)) (λ h k x at. from k x (h k x at)) (by_place f p P d 0 xs)

-- each element of a list, by its place
pub at_each : {A B C : Type 0} (f : A → B) (g : A → C) (p : B → Bool) (P : C → Type 0) → ((x : A) → Decides (p (f x)) (P (g x))) → (xs : List A) → Decides (list_all p (map f xs)) (AtEach P (map g xs))
at_each f g p P d [] = (λ _ k x at. absurd cc, λ _. refl)
at_each {A} {B} {C} f g p P d (x ∷ xs) =
    like _ (λ h. first h.0 h.1) (λ h. (h 0 (g x) refl, λ k y at. h (suc k) y at)) (both (p (f x)) (list_all p (map f xs)) (d x) (at_each f g p P d xs))
  where
    first : P (g x) → AtEach P (map g xs) → AtEach P (g x ∷ map g xs)
    first q h zero y at = let e : g x ≡ y = same_Some (g x) y at in subst P e q
    first q h (suc k) y at = h k y at

pub at_each_from : {A B : Type 0} (f : A → B) (p : B → Bool) (P : A → Type 0) → ((x : A) → Decides (p (f x)) (P x)) → (xs : List A) → Decides (list_all p (map f xs)) (AtEach P xs)
at_each_from f p P d [] = (λ _ k x at. absurd cc, λ _. refl)
at_each_from {A} {B} f p P d (x ∷ xs) =
    like _ (λ h. first h.0 h.1) (λ h. (h 0 x refl, λ k y at. h (suc k) y at)) (both (p (f x)) (list_all p (map f xs)) (d x) (at_each_from f p P d xs))
  where
    first : P x → AtEach P xs → AtEach P (x ∷ xs)
    first q h zero y at = let e : x ≡ y = same_Some x y at in subst P e q
    first q h (suc k) y at = h k y at

-- ---- places that name earlier places

links_named : (ls : Links) (k : ℕ) → ((xs : List ℕ) → slice_get ls k ≡ Some xs → All (λ x. x < k) xs) → All (λ x. x < k) (linked ls k)
links_named ls k h = go (slice_get ls k) h
  where
    go : (o : Option (List ℕ)) → ((xs : List ℕ) → o ≡ Some xs → All (λ x. x < k) xs) → All (λ x. x < k) (unwrap_or o [])
    go None g = All-nil (λ x. x < k)
    go (Some xs) g = g xs refl

named_links : (ls : Links) (k : ℕ) (xs : List ℕ) → slice_get ls k ≡ Some xs → All (λ x. x < k) (linked ls k) → All (λ x. x < k) xs
named_links ls k xs at h = let e : linked ls k ≡ xs = ap (λ (o : Option (List ℕ)). unwrap_or o []) at in subst (λ (ys : List ℕ). All (λ x. x < k) ys) e h

pub earlier : (ls : Links) → Decides (are_earlier ls) (AreEarlier ls)
earlier ls =
    let all = in_order (λ (xs : List ℕ). xs) (λ (e : ℕ × List ℕ). list_all (λ x. nat_lt x e.0) e.1) (λ (k : ℕ) (xs : List ℕ). All (λ x. x < k) xs) (λ (k : ℕ) (xs : List ℕ). each_itself (λ x. nat_lt x k) (λ x. x < k) (λ x. less x k) xs) ls in
    let same : list_all (λ (e : ℕ × List ℕ). list_all (λ x. nat_lt x e.0) e.1) (enumerate_from 0 (map (λ (xs : List ℕ). xs) ls)) ≡ are_earlier ls = ap are_earlier (map-id ls) in
    (λ h k. links_named ls k (all.0 (same ∙ h) k), λ h. sym same ∙ all.1 (λ k xs at. named_links ls k xs at (h k)))

-- ---- what may be absent

pub if_there : {A : Type 0} (p : A → Bool) (P : A → Type 0) → ((x : A) → Decides (p x) (P x)) → (o : Option A) → Decides (passes_if_there p o) (IfSome o P)
if_there p P d None = (λ _. tt, λ _. refl)
if_there p P d (Some x) = d x

-- ---- equality, and lists without two equal elements

pub number : (a b : ℕ) → Decides (nat_eq a b) (a ≡ b)
number a b = search (rules, tests)

pub option : {A : Type 0} (E : A → A → Bool) → ((a b : A) → Decides (E a b) (a ≡ b)) → (a b : Option A) → Decides (option_eq E a b) (a ≡ b)
option E d None None = (λ h. refl, λ h. refl)
option E d None (Some y) = (λ h. absurd (false≢true h), λ h. cc)
option E d (Some x) None = (λ h. absurd (false≢true h), λ h. cc)
option E d (Some x) (Some y) = (λ h. ap Some ((d x y).0 h), λ h. (d x y).1 (let e : x ≡ y = cc in e))

none_equal : {A : Type 0} (e : A → A → Bool) (x : A) (xs : List A) → Decides (list_all (λ y. not (e x y)) xs) (AllByRecursion (λ y. e x y ≡ false) xs)
none_equal e x [] = always
none_equal e x (y ∷ ys) = both (not (e x y)) (list_all (λ y. not (e x y)) ys) (fails (e x y)) (none_equal e x ys)

pub distinct : {A : Type 0} (e : A → A → Bool) (xs : List A) → Decides (are_distinct e xs) (IsDistinct e xs)
unfolding IsDistinct
distinct e [] = always
distinct e (x ∷ xs) = both (list_all (λ y. not (e x y)) xs) (are_distinct e xs) (none_equal e x xs) (distinct e xs)
