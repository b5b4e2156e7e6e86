-- Names that are added without repeats.
use Rattle.std.proofs.Common.{◌≡◌, ⊎_elim, ℕ, zero, suc, ◌+◌, ◌<◌, true, ◌==◌, List, [], ◌∷◌, ◌++◌, length, take, get_or, slice_get, Option, Some, None, refl, ap, sym, ◌∙◌, subst, arith, All}
use Rattle.std.specs.List.{flat_map}
use Rattle.std.proofs.lemmas.List.{append-nil, append_assoc, take_more}
use Rattle.std.proofs.lemmas.List.Concat.{flat_map-append}
use Rattle.std.proofs.lemmas.List.Elements.{All-weaker, All-head, All-tail}
use Rattle.std.proofs.lemmas.Bool.{or_cases, or_left, or_right}
use Rattle.std.proofs.lemmas.Option.{slice_get_within}
use Rattle.naga_oil_form.specs.Links.{Links, linked, AreEarlier, has, added}
use Rattle.naga_oil_ir.specs.declared.parts.Named.{Named}
use Rattle.naga_oil_form.proofs.LinkLemmas.{slice_get-append_within, slice_get-append_at, has-added, only, eq_eqb}
use Rattle.naga_oil_walk.specs.Walk.{IsReachOrder}
use Rattle.naga_oil_walk.proofs.WalkLemmas.{closed}
use Rattle.naga_oil_ir.specs.declared.names.ItemPlace.{ItemPlace}
use Rattle.naga_oil_walk.specs.declared.walk.Request.{Request}
use Rattle.naga_oil_walk.specs.declared.walk.Request.TheVariants.{Item}
use Rattle.naga_oil_walk.specs.Naming.{requested, item_of, requests_at, naming, names_from, IsAmong, Thins, Ends, Keeps, Drops, Adds}

-- ---- among

pub among_left : (xs ys : List Request) (x : Request) → IsAmong xs x → IsAmong (xs ++ ys) x
among_left xs ys x a = (a.0, slice_get-append_within xs ys a.0 (slice_get_within xs a.0 x a.1) ∙ a.1)

pub among_last : (xs : List Request) (x : Request) → IsAmong (xs ++ x ∷ []) x
among_last xs x = (length xs, slice_get-append_at xs x)

-- all of a list are among another
abbrev pub AllAmong : List Request → List Request → Type 0
AllAmong s [] = Unit {0}
AllAmong s (x ∷ xs) = IsAmong s x × AllAmong s xs

AllAmong-append : (s xs ys : List Request) → AllAmong s xs → AllAmong s ys → AllAmong s (xs ++ ys)
AllAmong-append s [] ys a b = b
AllAmong-append s (x ∷ xs) ys a b = (a.0, AllAmong-append s xs ys a.1 b)

-- ---- adding

pub Adds-none : (s : List Request) → Adds s [] s
Adds-none s = ([], sym (append-nil s), Ends)

thins_known : (s xs : List Request) → AllAmong s xs → Thins s xs []
thins_known s [] a = Ends
thins_known s (x ∷ xs) a = Drops a.0 (thins_known s xs a.1)

pub Adds-known : (s xs : List Request) → AllAmong s xs → Adds s xs s
Adds-known s xs a = ([], sym (append-nil s), thins_known s xs a)

Thins-append : {s xs zs : List Request} (ys ws : List Request) → Thins s xs zs → Thins (s ++ zs) ys ws → Thins s (xs ++ ys) (zs ++ ws)
Thins-append {s} ys ws Ends b = subst (λ t. Thins t ys ws) (append-nil s) b
Thins-append {s} ys ws (Keeps {xs = xs} {ys = zs} {x = x} a) b = Keeps (Thins-append ys ws a (subst (λ t. Thins t ys ws) (sym (append_assoc s (x ∷ []) zs)) b))
Thins-append ys ws (Drops i a) b = Drops i (Thins-append ys ws a b)

pub Adds-append : (s t u xs ys : List Request) → Adds s xs t → Adds t ys u → Adds s (xs ++ ys) u
Adds-append s t u xs ys a b =
    (a.0 ++ b.0, b.1 ∙ ap (λ q. q ++ b.0) a.1 ∙ append_assoc s a.0 b.0, Thins-append ys b.0 a.2 (subst (λ q. Thins q ys b.0) a.1 b.2))

-- ---- what places name

-- the items that the places of an order name are among requests
abbrev pub Covers : List Named → List ℕ → List Request → Type 0
Covers ns o s = (k : ℕ) (p : ItemPlace) → has o k ≡ true → item_of (slice_get ns k) ≡ Some p → IsAmong s (Item p)

one_among : (s : List Request) (o : Option ItemPlace) → ((p : ItemPlace) → o ≡ Some p → IsAmong s (Item p)) → AllAmong s (requested o)
one_among s None f = tt
one_among s (Some p) f = (f p refl, tt)

each_among : (s : List Request) (f : ℕ → List Request) (xs : List ℕ) → ((y : ℕ) → has xs y ≡ true → AllAmong s (f y)) → AllAmong s (flat_map f xs)
each_among s f [] g = tt
each_among s f (x ∷ xs) g = AllAmong-append s (f x) (flat_map f xs) (g x (or_left (x == x) (has xs x) (eq_eqb x x refl))) (each_among s f xs (λ y h. g y (or_right (x == y) (has xs y) h)))

naming_among : (ns : List Named) (ls : Links) (o : List ℕ) (s : List Request) → ((k x : ℕ) → has o k ≡ true → has (linked ls k) x ≡ true → has o x ≡ true) → Covers ns o s → (n k : ℕ) → has o k ≡ true → AllAmong s (naming n ns ls k)
naming_among ns ls o s closed covers zero k h = tt
naming_among ns ls o s closed covers (suc n) k h =
    AllAmong-append s (requests_at ns k) (flat_map (naming n ns ls) (linked ls k)) (one_among s (item_of (slice_get ns k)) (λ p e. covers k p h e)) (each_among s (naming n ns ls) (linked ls k) (λ y i. naming_among ns ls o s closed covers n y (closed k y h i)))

-- the items that a listed place and the places that it reaches name were requested
pub known_names : (ns : List Named) (ls : Links) (o : List ℕ) (s : List Request) → IsReachOrder ls o → Covers ns o s → (k : ℕ) → has o k ≡ true → Adds s (names_from ns ls k) s
unfolding names_from
known_names ns ls o s r covers k h = Adds-known s (naming (suc k) ns ls k) (naming_among ns ls o s (λ j x i. closed ls o r j i x) covers (suc k) k h)

naming-same : (f g : ℕ → List Request) (xs : List ℕ) → All (λ x. f x ≡ g x) xs → flat_map f xs ≡ flat_map g xs
naming-same f g [] a = refl
naming-same f g (x ∷ xs) a = let h : f x ≡ g x = All-head (λ y. f y ≡ g y) x xs a in let t = naming-same f g xs (All-tail (λ y. f y ≡ g y) x xs a) in cc

naming-enough : (ns : List Named) (ls : Links) → AreEarlier ls → (n m k : ℕ) → k < n → k < m → naming n ns ls k ≡ naming m ns ls k
naming-enough ns ls a zero m k h i = absurd (omega arith)
naming-enough ns ls a (suc n) zero k h i = absurd (omega arith)
naming-enough ns ls a (suc n) (suc m) k h i =
    ap (λ xs. requests_at ns k ++ xs) (naming-same (naming n ns ls) (naming m ns ls) (linked ls k) (All-weaker (λ x. x < k) (λ x. naming n ns ls x ≡ naming m ns ls x) (λ x l. naming-enough ns ls a n m x (omega arith) (omega arith)) (linked ls k) (a k)))

-- what a place names, and then what its links do
pub names-step : (ns : List Named) (ls : Links) → AreEarlier ls → (k : ℕ) → names_from ns ls k ≡ requests_at ns k ++ flat_map (names_from ns ls) (linked ls k)
unfolding names_from
names-step ns ls a k =
    ap (λ xs. requests_at ns k ++ xs) (naming-same (naming k ns ls) (names_from ns ls) (linked ls k) (All-weaker (λ x. x < k) (λ x. naming k ns ls x ≡ names_from ns ls x) (λ x l. naming-enough ns ls a k (suc x) x l (omega arith)) (linked ls k) (a k)))

-- ---- one more place

pub covers_add : (ns : List Named) (o : List ℕ) (s t : List Request) (k : ℕ) → Covers ns o s → ((y : Request) → IsAmong s y → IsAmong t y) → ((p : ItemPlace) → item_of (slice_get ns k) ≡ Some p → IsAmong t (Item p)) → Covers ns (added o (k ∷ [])) t
covers_add ns o s t k c f g j p h e =
    ⊎_elim (λ l. f (Item p) (c j p l e)) (λ r. g p (ap (λ i. item_of (slice_get ns i)) (only k j r) ∙ e)) (or_cases (has o j) (has (k ∷ []) j) (sym (has-added o (k ∷ []) j) ∙ h))

pub name_known : (ns : List Named) (o : List ℕ) (s : List Request) (k : ℕ) → Covers ns o s → has o k ≡ true → Adds s (requests_at ns k) s
name_known ns o s k c h = Adds-known s (requests_at ns k) (one_among s (item_of (slice_get ns k)) (λ p e. c k p h e))

-- an added request is among the requests
pub request_among : (s t : List Request) (o : Option ItemPlace) (p : ItemPlace) → t ≡ s ++ requested o → o ≡ Some p → IsAmong t (Item p)
request_among s t o p e f = subst (λ q. IsAmong q (Item p)) (sym (e ∙ ap (λ x. s ++ requested x) f)) (among_last s (Item p))

pub Adds-more : {X : Type 0} (f : X → List Request) (s t u : List Request) (xs : List X) (i : ℕ) (x : X) → i < length xs → x ≡ get_or xs i x → Adds s (flat_map f (take i xs)) t → Adds t (f x) u → Adds s (flat_map f (take (i + 1) xs)) u
Adds-more f s t u xs i x h is a b =
    subst (λ ys. Adds s ys u) (sym (ap (flat_map f) (take_more xs i x h ∙ ap (λ y. take i xs ++ y ∷ []) (sym is)) ∙ flat_map-append f (take i xs) (x ∷ []) ∙ ap (λ ys. flat_map f (take i xs) ++ ys) (append-nil (f x)))) (Adds-append s t u (flat_map f (take i xs)) (f x) a b)

-- names of joined places
pub Adds-places : (f : ℕ → List Request) (s t u : List Request) (xs ys zs : List ℕ) → zs ≡ xs ++ ys → Adds s (flat_map f xs) t → Adds t (flat_map f ys) u → Adds s (flat_map f zs) u
Adds-places f s t u xs ys zs e a b =
    subst (λ ns. Adds s ns u) (sym (ap (flat_map f) e ∙ flat_map-append f xs ys)) (Adds-append s t u (flat_map f xs) (flat_map f ys) a b)

thins_all : (s xs : List Request) → Thins s xs xs
thins_all s [] = Ends
thins_all s (x ∷ xs) = Keeps (thins_all (s ++ x ∷ []) xs)

pub Adds-all : (s xs : List Request) → Adds s xs (s ++ xs)
Adds-all s xs = (xs, refl, thins_all s xs)
