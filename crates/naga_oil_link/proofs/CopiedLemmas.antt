-- How the items of a parsed module are copied.
use Rattle.std.proofs.Common.{◌≡◌, ◌↔◌, ℕ, zero, suc, ◌+◌, ◌<◌, nat_lt, Bool, true, false, IsTrue, List, [], ◌∷◌, ◌++◌, append-nil, cond, filter, length, map, fold, take, get_or, refl, sym, ap, ◌∙◌, arith}
use Rattle.std.specs.Prelude.{if◌then◌else◌}
use Rattle.std.proofs.lemmas.Bool.{lt-ltb}
use Rattle.std.proofs.lemmas.List.{take_more, map-append}
use Rattle.std.proofs.lemmas.List.Elements.{filter-append}
use Rattle.std.proofs.lemmas.List.Sums.{fold-append}
use Rattle.naga_oil_ir.specs.ModuleValue.{FunctionValue, ModuleValue}
use Rattle.naga_oil_ir.specs.declared.span.Span.{Span}
use Rattle.naga_oil_derive.specs.Derived.{Derived}
use Rattle.naga_oil_link.specs.BuiltModule.{BuiltModule}
use Rattle.naga_oil_link.specs.CopiedBuild.{OwnCopies, copies_of, copy_places, functions_among, has_name_among, with_function, with_stub, with_functions, with_stubs, copy_header, copy_whole, put_header, put_whole, have_special, copy_build, copies_special}
use Rattle.naga_oil_link.specs.OwnPlaces.{OwnPlaces, own_of}
use Rattle.naga_oil_link.specs.declared.copied.OwnCopies.{OwnCopies as CodeCopies}

-- ---- one after another

module _ {X V D : Type 0} (v : X → V) (f : D → V → D) (a : D) (xs : List X) (i : ℕ) (x : X) (l : i < length xs) (is : x ≡ get_or xs i x) where
  one_value : map v (take (i + 1) xs) ≡ map v (take i xs) ++ v x ∷ []
  one_value = ap (map v) (take_more xs i x l ∙ ap (λ y. take i xs ++ y ∷ []) (sym is)) ∙ map-append v (take i xs) (x ∷ [])

  -- one more value
  pub value_more : (d e : D) → d ≡ fold f a (map v (take i xs)) → e ≡ f d (v x) → e ≡ fold f a (map v (take (i + 1) xs))
  value_more d e before now = now ∙ ap (λ y. f y (v x)) before ∙ sym (ap (fold f a) one_value ∙ fold-append f a (map v (take i xs)) (v x ∷ []))

module _ {X D : Type 0} (f : D → X → D) (a : D) (xs : List X) (i : ℕ) (x : X) (l : i < length xs) (is : x ≡ get_or xs i x) where
  -- one more item
  pub one_more : (d e : D) → d ≡ fold f a (take i xs) → e ≡ f d x → e ≡ fold f a (take (i + 1) xs)
  one_more d e before now = now ∙ ap (λ y. f y x) before ∙ sym (ap (fold f a) (take_more xs i x l ∙ ap (λ y. take i xs ++ y ∷ []) (sym is)) ∙ fold-append f a (take i xs) (x ∷ []))

-- ---- items that pass a test

module _ {X V : Type 0} (v : X → V) (p : V → Bool) (xs : List X) (i : ℕ) (x : X) (l : i < length xs) (is : x ≡ get_or xs i x) where
  abbrev passing : ℕ → List V
  passing n = filter p (map v (take n xs))

  passing_last : (b : Bool) → p (v x) ≡ b → passing (i + 1) ≡ passing i ++ cond b (v x ∷ []) []
  passing_last b e = ap (filter p) (one_value v (λ (d : V) (y : V). d) (v x) xs i x l is) ∙ filter-append p (map v (take i xs)) (v x ∷ []) ∙ ap (λ c. passing i ++ cond c (v x ∷ []) []) e

  -- an item that passes comes last
  pub passing_more : (before after : List V) → p (v x) ≡ true → before ≡ passing i → after ≡ before ++ v x ∷ [] → after ≡ passing (i + 1)
  passing_more before after e h pushed = pushed ∙ ap (λ vs. vs ++ v x ∷ []) h ∙ sym (passing_last true e)

  -- an item that doesn't pass is left out
  pub passing_left : (before : List V) → p (v x) ≡ false → before ≡ passing i → before ≡ passing (i + 1)
  passing_left before e h = h ∙ sym (append-nil (passing i)) ∙ sym (passing_last false e)

module _ {X D : Type 0} (p : X → Bool) (f : D → X → D) where
  -- a walk over the items that pass, and one over all items that skips the others
  fold_passing : (xs : List X) (d : D) → fold f d (filter p xs) ≡ fold (λ e x. if p x then f e x else e) d xs
  fold_passing [] d = refl
  fold_passing (x ∷ xs) d = by (p x) (λ e. fold_passing xs e)
    where
      by : (b : Bool) → ((e : D) → fold f e (filter p xs) ≡ fold (λ e y. if p y then f e y else e) e xs) → fold f d (if b then x ∷ filter p xs else filter p xs) ≡ fold (λ e y. if p y then f e y else e) (if b then f d x else d) xs
      by true h = h (f d x)
      by false h = h d

-- ---- copies after others

pub copies_then : (c e : CodeCopies) (p : OwnCopies) (f : Derived → Derived) → copies_of c ≡ p → e.derived ≡ f c.derived → e.own ≡ c.own → copies_of e ≡ record p { derived = f p.derived }
copies_then c e p f is derived own = (λ i. record { derived = derived i; own = own_of (own i) }) ∙ ap (λ (q : OwnCopies). record q { derived = f q.derived }) is

-- ---- a build's header and module

module _ (m : ModuleValue) (own : OwnPlaces) (d e : List ℕ) (names : List (List ℕ)) (fs : List (FunctionValue × Span)) (c : OwnCopies) (same : d ≡ e) (among : fs ≡ functions_among names m.functions) where
  abbrev named : FunctionValue × Span → Bool
  named f = has_name_among names f.0.name

  -- copies with the stubs of the functions with some names are the header
  pub header_is : c ≡ with_stubs fs (copy_places false m own d) → c ≡ copy_header m own e names
  header_is h =
      h ∙ (λ i. with_stubs (among i) (copy_places false m own (same i)))
      ∙ ap (λ x. record (copy_places false m own e) { derived = x }) (fold_passing named with_stub m.functions (copy_places false m own e).derived)

  -- copies with these functions are the module
  pub whole_is : c ≡ with_functions fs (copy_places true m own d) → c ≡ copy_whole m own e names
  whole_is h =
      h ∙ (λ i. with_functions (among i) (copy_places true m own (same i)))
      ∙ ap (λ x. record (copy_places true m own e) { derived = x }) (fold_passing named with_function m.functions (copy_places true m own e).derived)

pub special_is : (b : Bool) (n : ℕ) → IsTrue b ↔ (0 < n) → b ≡ nat_lt 0 n
special_is true n h = sym (lt-ltb 0 n (h.0 refl))
special_is false zero h = refl
special_is false (suc k) h = let e : false ≡ true = h.1 (omega arith) in absurd cc

module _ (m : ModuleValue) (own : OwnPlaces) (b : BuiltModule) where
  pub copied : (header whole : OwnCopies) → header ≡ copy_header m own b.decoration b.functions → whole ≡ copy_whole m own b.decoration b.functions → (between : BuiltModule) → between ≡ put_header header b → put_whole whole between ≡ copy_build m own b
  unfolding copy_build
  copied header whole first second between h = ap (λ c. put_whole c between) second ∙ ap (put_whole (copy_whole m own b.decoration b.functions)) (h ∙ ap (λ c. put_header c b) first)

  pub copied_special : (whole : OwnCopies) → whole ≡ copy_whole m own b.decoration b.functions → have_special whole ≡ copies_special m own b.decoration b.functions
  unfolding copies_special
  copied_special whole second = ap have_special second
