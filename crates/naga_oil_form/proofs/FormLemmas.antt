use Rattle.std.proofs.Common.{◌≡◌, Bool, true, false, not, ◌&&◌, ◌||◌, All, Vec, Global, Decides, ⊎_elim, ℕ, ◌+◌, ◌<◌, ◌≤◌, List, [], ◌∷◌, ◌++◌, length, take, get_or, slice_get, Some, refl, ap, sym, ◌∙◌, subst, arith, append-nil}
use Rattle.std.specs.List.{flat_map, list_any}
use Rattle.std.proofs.lemmas.Bool.{cases_order, false≢true}
use Rattle.std.proofs.lemmas.List.{take_more, length-map}
use Rattle.std.proofs.lemmas.List.Elements.{All-nil, All-cons, All-weaker}
use Rattle.std.proofs.lemmas.List.Folds.{list_any_none}
use Rattle.std.proofs.lemmas.List.Concat.{flat_map-append}
use Rattle.std.proofs.lemmas.Option.{slice_get_within, slice_get_read, same_Some}
use Rattle.naga_oil_form.specs.Links.{AtEach, lists, is_marked}
use Rattle.naga_oil_form.proofs.LinkLemmas.{marked_past}
use Rattle.naga_oil_ir.specs.Rows.{Row}
use Rattle.naga_oil_form.specs.ItemForm.{NamesThere, NamesWell, types_named, types_of, type_links}
use Rattle.naga_oil_ir.specs.declared.module.Module.{Module}

-- the element at a place
pub at_place : {A : Type 0} (xs : List A) (i : ℕ) (x : A) → i < length xs → x ≡ get_or xs i x → slice_get xs i ≡ Some x
at_place xs i x h is = slice_get_read xs (length xs) i x refl h is

-- a fact of each element, one element further
pub at_more : {A : Type 0} (P : A → Type 0) (xs : List A) (i : ℕ) (x : A) → i < length xs → x ≡ get_or xs i x → P x → ((k : ℕ) (e : A) → k < i → slice_get xs k ≡ Some e → P e) → (k : ℕ) (e : A) → k < i + 1 → slice_get xs k ≡ Some e → P e
at_more P xs i x h is p f k e l at =
    ⊎_elim (λ q. let same : Some x ≡ Some e = sym (at_place xs i x h is) ∙ ap (slice_get xs) (sym q) ∙ at in subst P (same_Some x e same) p) (⊎_elim (λ q. f k e q at) (λ q. absurd (omega arith))) (cases_order k i)

-- a fact of each element and its place, one element further
pub at_more_place : {A : Type 0} (P : ℕ → A → Type 0) (xs : List A) (i : ℕ) (x : A) → i < length xs → x ≡ get_or xs i x → P i x → ((k : ℕ) (e : A) → k < i → slice_get xs k ≡ Some e → P k e) → (k : ℕ) (e : A) → k < i + 1 → slice_get xs k ≡ Some e → P k e
at_more_place {A} P xs i x h is p f k e l at =
    let here : k ≡ i → P k e = λ q. let same : Some x ≡ Some e = sym (at_place xs i x h is) ∙ ap (slice_get xs) (sym q) ∙ at in let Q : ℕ → Type 0 = λ j. P j e in subst Q (sym q) (subst (P i) (same_Some x e same) p) in
    ⊎_elim here (⊎_elim (λ q. f k e q at) (λ q. absurd (omega arith))) (cases_order k i)

-- and at the end
pub at_all : {A : Type 0} (P : A → Type 0) (xs : List A) (i : ℕ) → ((k : ℕ) (e : A) → k < i → slice_get xs k ≡ Some e → P e) → length xs ≤ i → AtEach P xs
at_all P xs i f h = λ k e at. let within = slice_get_within xs k e at in f k e (omega arith) at

-- a walk over elements that stops at one without the fact, and one that doesn't stop
pub at_fails : {A : Type 0} (P : A → Type 0) (xs : List A) (i : ℕ) (x : A) → i < length xs → x ≡ get_or xs i x → (P x → ⊥) → (false ≡ true → AtEach P xs) × (AtEach P xs → false ≡ true)
at_fails P xs i x h is n = (λ f. absurd (false≢true f), λ a. absurd (n (a i x (at_place xs i x h is))))

pub at_ends : {A : Type 0} (P : A → Type 0) (xs : List A) (i : ℕ) → ((k : ℕ) (e : A) → k < i → slice_get xs k ≡ Some e → P e) → length xs ≤ i → (true ≡ true → AtEach P xs) × (AtEach P xs → true ≡ true)
at_ends P xs i f h = (λ _. at_all P xs i f h, λ _. refl)

-- joined lists, one element further
pub joined_more : {A B : Type 0} (f : A → List B) (xs : List A) (i : ℕ) (x : A) → i < length xs → x ≡ get_or xs i x → flat_map f (take (i + 1) xs) ≡ flat_map f (take i xs) ++ f x
joined_more f xs i x h is =
    ap (flat_map f) (take_more xs i x h) ∙ flat_map-append f (take i xs) (get_or xs i x ∷ []) ∙ ap (λ v. flat_map f (take i xs) ++ (f v ++ [])) (sym is) ∙ ap (λ ys. flat_map f (take i xs) ++ ys) (append-nil (f x))

-- ---- tests of several facts

pub and_decides : {P Q : Type 0} (s t : Bool) → Decides s P → Decides t Q → Decides (s && t) (P × Q)
and_decides true t d e = (λ h. (d.0 refl, e.0 h), λ h. e.1 h.1)
and_decides false t d e = (λ h. absurd (false≢true h), λ h. d.1 h.0)

pub decides_same : {P Q : Type 0} (b : Bool) → (P → Q) → (Q → P) → Decides b P → Decides b Q
decides_same b f g d = (λ h. f (d.0 h), λ h. d.1 (g h))

-- a test of a value that is equal to another
pub decides_by : {A : Type 0} (P : A → Type 0) (x y : A) (b : Bool) → x ≡ y → Decides b (P x) → Decides b (P y)
decides_by {A} P x y b e d = let Q : A → Type 0 = λ z. Decides b (P z) in subst Q e d

pub decides_at : {A : Type 0} (P : A → Type 0) (xs ys : List A) (b : Bool) → xs ≡ ys → Decides b (AtEach P xs) → Decides b (AtEach P ys)
decides_at P xs ys b e d = decides_by (AtEach P) xs ys b e d

pub not_decides : {P : Type 0} (b : Bool) → (b ≡ false → P) → (P → b ≡ false) → Decides (not b) P
not_decides true f g = (λ h. absurd (false≢true h), λ p. sym (g p))
not_decides false f g = (λ h. f refl, λ p. refl)

or_none : (a b : Bool) → (a || b) ≡ false → (a ≡ false) × (b ≡ false)
or_none true b h = absurd (false≢true (sym h))
or_none false b h = (refl, h)

none_pass : (p q : ℕ → Bool) → ((k : ℕ) → p k ≡ q k) → (xs : List ℕ) → list_any p xs ≡ false → All (λ k. q k ≡ false) xs
none_pass p q e [] h = All-nil (λ k. q k ≡ false)
none_pass p q e (x ∷ xs) h =
    let n = or_none (p x) (list_any p xs) h in
    All-cons (λ k. q k ≡ false) x xs (sym (e x) ∙ n.0) (none_pass p q e xs n.1)

-- a test whether some pass decides that none does
pub none_decides : (p q : ℕ → Bool) → ((k : ℕ) → p k ≡ q k) → (xs : List ℕ) (b : Bool) → b ≡ list_any p xs → Decides (not b) (All (λ k. q k ≡ false) xs)
none_decides p q e xs b is =
    not_decides b (λ h. none_pass p q e xs (sym is ∙ h)) (λ a. is ∙ list_any_none p xs (All-weaker (λ k. q k ≡ false) (λ k. p k ≡ false) (λ k h. e k ∙ h) xs a))

pub types_long : (vs : List (Vec ℕ Global)) (m : Module) → lists vs ≡ type_links (types_of m) → length vs ≡ length m.types
types_long vs m e =
    sym (length-map vs (λ (v : Vec ℕ Global). v.items)) ∙ ap length e ∙ length-map (types_of m) _ ∙ length-map m.types _

-- ---- names

any_same : (p q : ℕ → Bool) → ((k : ℕ) → p k ≡ q k) → (xs : List ℕ) → list_any p xs ≡ list_any q xs
any_same p q e [] = refl
any_same p q e (x ∷ xs) = let h = e x in let t = any_same p q e xs in cc

-- the same items name well by two tests that agree
pub well_same : {A : Type 0} (m : Module) (row : A → Row) (p q : ℕ → Bool) → ((k : ℕ) → p k ≡ q k) → (xs : List A) (b : Bool) → Decides b (AtEach (λ x. NamesWell m p (row x)) xs) → Decides b (AtEach (λ x. NamesWell m q (row x)) xs)
well_same m row p q e xs b d =
    decides_same b (λ a k x at. ((a k x at).0, sym (any_same p q e (types_named (row x))) ∙ (a k x at).1)) (λ a k x at. ((a k x at).0, any_same p q e (types_named (row x)) ∙ (a k x at).1)) d

none_marked : (fs : List Bool) → fs ≡ [] → (xs : List ℕ) → list_any (is_marked fs) xs ≡ false
none_marked fs e [] = refl
none_marked fs e (x ∷ xs) = let h = marked_past [] x (omega arith) in let t = none_marked fs e xs in let f = ap (λ gs. is_marked gs x) e in cc

-- where nothing is marked, what is named need only be there
pub well_there : {A : Type 0} (m : Module) (row : A → Row) (fs : List Bool) → fs ≡ [] → (xs : List A) (b : Bool) → Decides b (AtEach (λ x. NamesWell m (is_marked fs) (row x)) xs) → Decides b (AtEach (λ x. NamesThere m (row x)) xs)
well_there m row fs e xs b d =
    decides_same b (λ a k x at. (a k x at).0) (λ a k x at. (a k x at, none_marked fs e (types_named (row x)))) d
