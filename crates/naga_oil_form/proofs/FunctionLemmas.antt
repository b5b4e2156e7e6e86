use Rattle.std.proofs.Common.{◌≡◌, Decides, ⊎_elim, ℕ, zero, suc, ◌+◌, ◌<◌, ◌≤◌, Bool, true, false, nat_eq, List, [], ◌∷◌, map, length, get_or, slice_get, Some, All, IsSome, refl, ap, sym, ◌∙◌, subst, arith}
use Rattle.std.specs.List.{IsDistinct}
use Rattle.std.specs.Cmp.Lexicographic.{pointwise}
use Rattle.std.proofs.lemmas.List.Elements.{All-nil, All-cons, All-head, All-tail, All-map, All-get_or}
use Rattle.std.proofs.lemmas.Bool.{cases_order}
use Rattle.std.proofs.lemmas.Option.{slice_get_within, same_Some, get_or_from_slice_get}
use Rattle.naga_oil_ir.specs.declared.module.Function.{Function}
use Rattle.naga_oil_ir.specs.declared.module.Module.{Module}
use Rattle.naga_oil_ir.specs.declared.span.Span.{Span}
use Rattle.naga_oil_words.specs.Marks.{with_decoration}
use Rattle.naga_oil_form.specs.NameForm.{Name, function_name}
use Rattle.naga_oil_form.specs.WellFormed.{NamedForm, FunctionsForm, FunctionListForm}
use Rattle.naga_oil_form.specs.Links.{is_marked, AreMarks}
use Rattle.naga_oil_form.proofs.FormLemmas.{at_place, decides_same}
use Rattle.naga_oil_form.proofs.LinkLemmas.{All-has, All-from_has}

-- ---- marks and the places that they stand for

-- a test of each marked place tests the places of the list
pub unmarked_decides : (fs : List Bool) (r : ℕ → Bool) (o : List ℕ) (b : Bool) → AreMarks fs o → Decides b ((k : ℕ) → is_marked fs k ≡ true → r k ≡ false) → Decides b (All (λ h. r h ≡ false) o)
unmarked_decides fs r o b m d =
    decides_same b (λ f. All-from_has (λ k. r k ≡ false) o (λ k t. f k (m k ∙ t))) (λ a k t. All-has (λ h. r h ≡ false) o k a (sym (m k) ∙ t)) d

-- ---- the keys of a map

unmapped : {X Y : Type 0} (P : Y → Type 0) (f : X → Y) (xs : List X) → All P (map f xs) → All (λ x. P (f x)) xs
unmapped P f [] a = All-nil (λ x. P (f x))
unmapped P f (x ∷ xs) a = All-cons (λ y. P (f y)) x xs (All-head P (f x) (map f xs) a) (unmapped P f xs (All-tail P (f x) (map f xs) a))

-- a test of the keys tests the entries
pub keys_tested : {X : Type 0} (P : ℕ → Type 0) (es : List (ℕ × X)) (ks : List ℕ) (b : Bool) → ks ≡ map (λ e. e.0) es → (b ≡ true → All P ks) × (All P ks → b ≡ true) → (b ≡ true → All (λ e. P e.0) es) × (All (λ e. P e.0) es → b ≡ true)
keys_tested P es ks b e d =
    (λ h. unmapped P (λ x. x.0) es (subst (All P) e (d.0 h)), λ a. d.1 (subst (All P) (sym e) (All-map P (λ x. x.0) es a)))

-- ---- elements one after the other

-- a fact of each element and its place, one element further
pub each_more : {A : Type 0} (P : ℕ → A → Type 0) (xs : List A) (i : ℕ) (x : A) → i < length xs → x ≡ get_or xs i x → P i x → ((k : ℕ) (e : A) → k < i → slice_get xs k ≡ Some e → P k e) → (k : ℕ) (e : A) → k < i + 1 → slice_get xs k ≡ Some e → P k e
each_more {A} P xs i x h is p f k e l at =
    let here : k ≡ i → P k e = λ q. let same : Some x ≡ Some e = sym (at_place xs i x h is) ∙ ap (slice_get xs) (sym q) ∙ at in let Q : ℕ → Type 0 = λ j. P j e in subst Q (sym q) (subst (P i) (same_Some x e same) p) in
    ⊎_elim here (⊎_elim (λ q. f k e q at) (λ q. absurd (omega arith))) (cases_order k i)

-- and at the end
pub each_all : {A : Type 0} (P : ℕ → A → Type 0) (xs : List A) (i : ℕ) → ((k : ℕ) (e : A) → k < i → slice_get xs k ≡ Some e → P k e) → length xs ≤ i → (k : ℕ) (e : A) → slice_get xs k ≡ Some e → P k e
each_all P xs i f h = λ k e at. let within = slice_get_within xs k e at in f k e (omega arith) at

-- a fact of each element, whatever its place
pub all_each : {A : Type 0} (P : A → Type 0) (xs : List A) → ((k : ℕ) (e : A) → slice_get xs k ≡ Some e → P e) → All P xs
all_each P [] f = All-nil P
all_each P (x ∷ xs) f = All-cons P x xs (f zero x refl) (all_each P xs (λ k e at. f (suc k) e at))

each_all_of : {A : Type 0} (P : A → Type 0) (xs : List A) (k : ℕ) (e : A) → All P xs → slice_get xs k ≡ Some e → P e
each_all_of P xs k e a at = subst P (get_or_from_slice_get xs k e e at) (All-get_or P xs k e (slice_get_within xs k e at) a)

-- functions that are fine one by one, and whose names are distinct
module _ (m : Module) (d : Name) (n : ℕ) where
  pub list_form : ((k : ℕ) (e : Function × Span) → slice_get m.functions k ≡ Some e → NamedForm m k n e) → IsDistinct (pointwise nat_eq) (map (λ e. with_decoration d (function_name e.0)) m.functions) → FunctionListForm m d n
  unfolding FunctionsForm
  list_form f distinct = record {
    named = all_each (λ e. IsSome e.0.name) m.functions (λ k e at. (f k e at).0);
    functions = λ k e at. (f k e at).1;
    distinct = distinct;
  }

  pub list_each : FunctionListForm m d n → (k : ℕ) (e : Function × Span) → slice_get m.functions k ≡ Some e → NamedForm m k n e
  unfolding FunctionsForm
  list_each r k e at = (each_all_of (λ e. IsSome e.0.name) m.functions k e r.named at, r.functions k e at)
