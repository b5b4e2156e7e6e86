-- What computes of each row of a table holds of each key that has a value in it.
use Rattle.std.proofs.Common.{◌≡◌, ℕ, Bool, true, false, cond, List, [], ◌∷◌, map, Option, Some, None, refl, sym, ◌∙◌, ap, nat_eq}
use Rattle.std.proofs.lemmas.Option.{none-some, same_Some}
use Rattle.std.proofs.lemmas.Bool.{eqb-true}
use Rattle.std.specs.Option.{option_map}
use Rattle.std.specs.Cmp.Lexicographic.{pointwise, bytes_decides}
use Rattle.std.specs.Map.{lookup}
use Rattle.yettuvam_wgsl_names.specs.Table.{Name, meaning}
use Rattle.yettuvam_wgsl_names.specs.Functions.{Signature, signature_with}

abbrev head_or : {A : Type 0} → A → List A → A
head_or d [] = d
head_or d (z ∷ zs) = z

abbrev tail : {A : Type 0} → List A → List A
tail [] = []
tail (z ∷ zs) = zs

first : {A : Type 0} (x y : A) (xs ys : List A) → x ∷ xs ≡ y ∷ ys → x ≡ y
first x y xs ys h = ap (head_or x) h

others : {A : Type 0} (x y : A) (xs ys : List A) → x ∷ xs ≡ y ∷ ys → xs ≡ ys
others x y xs ys h = ap tail h

module _ {K V X : Type 0} (eq : K → K → Bool) (sound : (a b : K) → eq a b ≡ true → a ≡ b) (f h : K → V → X) where
  row_fact : (es : List (K × V)) (q : K) (v : V) → map (λ e. f e.0 e.1) es ≡ map (λ e. h e.0 e.1) es → lookup (eq q) es ≡ Some v → f q v ≡ h q v
  row_fact [] q v s g = absurd (none-some v g)
  row_fact (e ∷ es) q v s g = by (eq q e.0) refl (row_fact es q v (others (f e.0 e.1) (h e.0 e.1) (map (λ e. f e.0 e.1) es) (map (λ e. h e.0 e.1) es) s)) g
    where
      by : (b : Bool) → eq q e.0 ≡ b → (lookup (eq q) es ≡ Some v → f q v ≡ h q v) → cond b (Some e.1) (lookup (eq q) es) ≡ Some v → f q v ≡ h q v
      by true t later g' =
          let key : q ≡ e.0 = sound q e.0 t in
          let value : e.1 ≡ v = same_Some e.1 v g' in
          (λ i. f (key i) (sym value i)) ∙ first (f e.0 e.1) (h e.0 e.1) (map (λ e. f e.0 e.1) es) (map (λ e. h e.0 e.1) es) s ∙ (λ i. h (sym key i) (value i))
      by false t later g' = later g'

-- a fact of each row of a table of names, and of a table of codes
pub name_fact : {V X : Type 0} (f h : Name → V → X) (es : List (Name × V)) (n : Name) (v : V) → map (λ e. f e.0 e.1) es ≡ map (λ e. h e.0 e.1) es → meaning es n ≡ Some v → f n v ≡ h n v
name_fact f h es n v s g = row_fact (pointwise nat_eq) (λ a b. (bytes_decides a b).0) f h es n v s g

pub code_fact : {V X : Type 0} (f h : ℕ → V → X) (es : List (ℕ × V)) (c : ℕ) (v : V) → map (λ e. f e.0 e.1) es ≡ map (λ e. h e.0 e.1) es → lookup (nat_eq c) es ≡ Some v → f c v ≡ h c v
code_fact f h es c v s g = row_fact nat_eq eqb-true f h es c v s g

-- where each function is read as it stands, its name means its code
pub function_back : {V : Type 0} (read : Name → Option V) (k : ℕ → V) (es : List (ℕ × Signature)) (c : ℕ) (n : Name) → map (λ e. read e.1.0) es ≡ map (λ e. Some (k e.0)) es → option_map (λ (s : Signature). s.0) (signature_with es c) ≡ Some n → read n ≡ Some (k c)
function_back {V} read k es c n all h = by (signature_with es c) refl h
  where
    by : (o : Option Signature) → signature_with es c ≡ o → option_map (λ (s : Signature). s.0) o ≡ Some n → read n ≡ Some (k c)
    by None is g = absurd (none-some n g)
    by (Some s) is g = ap read (sym (same_Some s.0 n g)) ∙ code_fact (λ c s. read s.0) (λ c s. Some (k c)) es c s all is
