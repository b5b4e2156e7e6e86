use Rattle.std.proofs.Common.{◌≡◌, ℕ, suc, ◌+◌, Bool, not, cond, List, [], ◌∷◌, ◌++◌, length, position, nat_lt, unwrap_or, Option, Some, None, refl, ap, sym, ◌∙◌, is_some, true≢false, if◌then◌else◌}
use Rattle.std.specs.Map.{keys_of}
use Rattle.std.specs.List.{position_or_len}
use Rattle.naga_oil_ir.specs.Places.{place_of, with_element}

-- the place of a key among the entries is its place among the keys
first-keys : {K X : Type 0} (p : K → Bool) (es : List (K × X)) → position_or_len (λ e. p e.0) es ≡ position_or_len p (keys_of es)
first-keys p [] = refl
first-keys p (e ∷ es) = ap (λ n. cond (not (p e.0)) (1 + n) 0) (first-keys p es)

length-keys : {K X : Type 0} (es : List (K × X)) → length es ≡ length (keys_of es)
length-keys [] = refl
length-keys (e ∷ es) = ap (λ n. suc n) (length-keys es)

pub position-keys : {K X : Type 0} (p : K → Bool) (es : List (K × X)) → position (λ e. p e.0) es ≡ position p (keys_of es)
position-keys p es =
    ap (λ n. cond (nat_lt n (length es)) (Some n) None) (first-keys p es) ∙ ap (λ n. cond (nat_lt (position_or_len p (keys_of es)) n) (Some (position_or_len p (keys_of es))) None) (length-keys es)

pub place_of-found : {A : Type 0} (p : A → Bool) (xs : List A) (i : ℕ) → position p xs ≡ Some i → place_of p xs ≡ i
place_of-found p xs i h = ap (λ o. unwrap_or o (length xs)) h

pub place_of-absent : {A : Type 0} (p : A → Bool) (xs : List A) → position p xs ≡ None → place_of p xs ≡ length xs
place_of-absent p xs h = ap (λ o. unwrap_or o (length xs)) h

pub with_element-found : {A : Type 0} (p : A → Bool) (xs : List A) (x : A) (i : ℕ) → position p xs ≡ Some i → with_element p xs x ≡ xs
with_element-found p xs x i h = ap (λ o. if is_some o then xs else xs ++ x ∷ []) h

pub with_element-absent : {A : Type 0} (p : A → Bool) (xs : List A) (x : A) → position p xs ≡ None → with_element p xs x ≡ xs ++ x ∷ []
with_element-absent p xs x h = ap (λ o. if is_some o then xs else xs ++ x ∷ []) h

-- two options that are present together: if one is absent, so is the other
pub none_both : {A B : Type 0} (r : Option A) (s : Option B) → is_some r ≡ is_some s → r ≡ None → s ≡ None
none_both r None h n = refl
none_both r (Some x) h n = absurd (true≢false (sym h ∙ ap is_some n))
