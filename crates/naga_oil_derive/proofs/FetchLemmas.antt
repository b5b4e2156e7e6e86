use Rattle.std.proofs.Common.{◌≡◌, ◌⊎◌, inl, inr, ⊎_elim, ℕ, zero, suc, ◌<◌, ◌≤◌, Bool, true, false, cond, List, [], ◌∷◌, ◌++◌, length, Option, Some, None, option_map, slice_get, get_or, refl, ap, sym, ◌∙◌, subst, rules, arith, tests, Decides, nat_lt, unwrap_or, is_some}
use Rattle.std.specs.List.{position, position_or_len}
use Rattle.std.proofs.lemmas.Bool.{false≢true}
use Rattle.std.proofs.lemmas.Option.{get_or_from_slice_get, slice_get_within}
use Rattle.std.proofs.lemmas.List.Quantifiers.{position-Some}
use Rattle.std.proofs.lemmas.List.Sums.{fails_before_first}
use Rattle.naga_oil_ir.specs.Places.{place_of, with_element}
use Rattle.naga_oil_ir.specs.Rows.{Row}
use Rattle.naga_oil_ir.specs.declared.span.Span.{Span}
use Rattle.naga_oil_form.proofs.LinkLemmas.{slice_get-append_at}
use Rattle.naga_oil_derive.proofs.WorldLemmas.{rows}

-- ---- one list

pub record FetchesList {X : Type 0} (f : X → Row) (xs ys : List (X × Span)) (s : Row) (h : ℕ) : Type 0 where
  pub at : rows f ys h ≡ Some s
  pub stays : (k : ℕ) (r : Row) → rows f xs k ≡ Some r → rows f ys k ≡ Some r
  pub only : (k : ℕ) (r : Row) → rows f ys k ≡ Some r → (rows f xs k ≡ Some r) ⊎ ((k ≡ h) × ((j : ℕ) → rows f xs j ≡ Some s → ⊥))

not_before : (b : Bool) (i : ℕ) → cond b (Some i) None ≡ None → b ≡ false
not_before true i h = cc
not_before false i h = refl

no_less : (a b : ℕ) → nat_lt a b ≡ false → b ≤ a
no_less a b h = search (rules, tests)

-- where no element passes, each fails
pub fails : {X : Type 0} (p : X → Bool) (xs : List X) → position p xs ≡ None → (j : ℕ) (e : X) → slice_get xs j ≡ Some e → p e ≡ false
fails p xs h j e g =
    let l : nat_lt (position_or_len p xs) (length xs) ≡ false = not_before _ _ h in
    let m = no_less _ _ l in
    let w = slice_get_within xs j e g in
    subst (λ v. p v ≡ false) (get_or_from_slice_get xs j e e g) (fails_before_first p xs j e (omega arith))

row_of : {X : Type 0} (f : X → Row) (xs : List (X × Span)) (k : ℕ) (s : Row) (o : Option (X × Span)) → slice_get xs k ≡ o → option_map (λ e. f e.0) o ≡ Some s → (e : X × Span) × (slice_get xs k ≡ Some e) × (f e.0 ≡ s)
row_of f xs k s None e h = cc
row_of f xs k s (Some x) e h = (x, e, (let q : f x.0 ≡ s = cc in q))

absent : {X : Type 0} (E : X → X → Bool) (f : X → Row) → ((a b : X) → Decides (E a b) (f a ≡ f b)) → (xs : List (X × Span)) (x : X) → position (λ e. E x e.0) xs ≡ None → (j : ℕ) → rows f xs j ≡ Some (f x) → ⊥
absent E f d xs x h j g =
    let e = row_of f xs j (f x) (slice_get xs j) refl g in
    false≢true (sym (fails (λ e. E x e.0) xs h j e.0 e.1) ∙ (d x e.0.0).1 (sym e.2))

at_end : {X : Type 0} (xs : List X) (e : X) (k : ℕ) → (slice_get (xs ++ e ∷ []) k ≡ slice_get xs k) ⊎ (k ≡ length xs)
at_end [] e zero = inr refl
at_end [] e (suc k) = inl refl
at_end (x ∷ xs) e zero = inl refl
at_end (x ∷ xs) e (suc k) = ⊎_elim (λ q. inl q) (λ q. inr (ap suc q)) (at_end xs e k)

within_get : {X : Type 0} (xs : List X) (k : ℕ) (d : X) → k < length xs → slice_get xs k ≡ Some (get_or xs k d)
within_get [] k d h = absurd (omega arith)
within_get (x ∷ xs) zero d h = refl
within_get (x ∷ xs) (suc k) d h = within_get xs k d (omega arith)

kept_append : {X : Type 0} (f : X → Row) (xs : List (X × Span)) (e : X × Span) (k : ℕ) (r : Row) → rows f xs k ≡ Some r → rows f (xs ++ e ∷ []) k ≡ Some r
kept_append f [] e k r h = cc
kept_append f (x ∷ xs) e zero r h = h
kept_append f (x ∷ xs) e (suc k) r h = kept_append f xs e k r h

-- an equal element was there, or the element is the last
abbrev pub IsNew : {X : Type 0} → List (X × Span) → List (X × Span) → X × Span → ℕ → Type 0
IsNew xs ys e h = (ys ≡ xs) ⊎ ((h ≡ length xs) × (ys ≡ xs ++ e ∷ []))

from_position : {X : Type 0} (E : X → X → Bool) (f : X → Row) → ((a b : X) → Decides (E a b) (f a ≡ f b)) → (xs ys : List (X × Span)) (x : X) (sp : Span) (h : ℕ) (o : Option ℕ) → position (λ e. E x e.0) xs ≡ o → h ≡ unwrap_or o (length xs) → ys ≡ cond (is_some o) xs (xs ++ (x, sp) ∷ []) → FetchesList f xs ys (f x) h × IsNew xs ys (x, sp) h
from_position E f d xs ys x sp h (Some i) at p q =
    let w = position-Some (λ e. E x e.0) xs i (x, sp) at in
    let g : slice_get xs i ≡ Some (get_or xs i (x, sp)) = within_get xs i (x, sp) w.0 in (
      record {
        at = ap (λ zs. rows f zs h) q ∙ ap (rows f xs) p ∙ ap (option_map (λ e. f e.0)) g ∙ ap Some (sym ((d x (get_or xs i (x, sp)).0).0 w.1));
        stays = λ k r e. ap (λ zs. rows f zs k) q ∙ e;
        only = λ k r e. inl (sym (ap (λ zs. rows f zs k) q) ∙ e);
      },
      inl q,
    )
from_position E f d xs ys x sp h None at p q = (
  record {
    at = ap (λ zs. rows f zs h) q ∙ ap (rows f (xs ++ (x, sp) ∷ [])) p ∙ ap (option_map (λ e. f e.0)) (slice_get-append_at xs (x, sp));
    stays = λ k r e. ap (λ zs. rows f zs k) q ∙ kept_append f xs (x, sp) k r e;
    only = λ k r e. ⊎_elim (λ same. inl (sym (ap (option_map (λ e. f e.0)) same) ∙ sym (ap (λ zs. rows f zs k) q) ∙ e)) (λ last. inr (last ∙ sym p, absent E f d xs x at)) (at_end xs (x, sp) k);
  },
  inr (p, q),
)

pub fetches_list : {X : Type 0} (E : X → X → Bool) (f : X → Row) → ((a b : X) → Decides (E a b) (f a ≡ f b)) → (xs ys : List (X × Span)) (x : X) (sp : Span) (h : ℕ) → h ≡ place_of (λ e. E x e.0) xs → ys ≡ with_element (λ e. E x e.0) xs (x, sp) → FetchesList f xs ys (f x) h × IsNew xs ys (x, sp) h
fetches_list E f d xs ys x sp h p q = from_position E f d xs ys x sp h (position (λ e. E x e.0) xs) refl p q
