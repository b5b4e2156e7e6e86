-- Names and what they mean.
use Rattle.std.proofs.Common.{◌≡◌, ⊎_elim, ℕ, Bool, true, false, cond, List, [], ◌∷◌, Option, Some, None, IsSome, is_some, refl, ap, sym, ◌∙◌, bytes_eq, Global}
use Rattle.std.specs.Cow.{cow_str_bytes}
use Rattle.std.specs.declared.borrow.CowStr.{CowStr}
use Rattle.std.specs.Map.{lookup}
use Rattle.std.proofs.lemmas.Bool.{cases_Bool, cond-true, cond-false, false≢true}
use Rattle.std.proofs.lemmas.Option.{none-some}
use Rattle.std.proofs.lemmas.Slice.Eq.{bytes_eq-Decides}
use Rattle.indexmap.specs.IndexMap.{insert_entry}
use Rattle.naga_oil_ir.specs.Rows.{Text}
use Rattle.naga_oil_derive.specs.Imported.{meanings}
use Rattle.naga_oil_derive.specs.DerivedFunctions.{Meanings, meant, meaning}

-- ---- one name more

first_gone : (b : Bool) (x : ℕ) (o : Option ℕ) → b ≡ false → cond b (Some x) o ≡ o
first_gone b x o e = cond-false b (Some x) o e

-- another name is looked up as before
pub lookup_other : (ms : Meanings) (bs cs : List ℕ) (h : ℕ) → bytes_eq cs bs ≡ false → lookup (bytes_eq cs) (insert_entry bytes_eq ms bs h) ≡ lookup (bytes_eq cs) ms
lookup_other [] bs cs h n = cond-false (bytes_eq cs bs) (Some h) None n
lookup_other (e ∷ es) bs cs h n =
    ⊎_elim (λ y. let same : bs ≡ e.0 = (bytes_eq-Decides bs e.0).0 y in let other : bytes_eq cs e.0 ≡ false = ap (bytes_eq cs) (sym same) ∙ n in ap (λ b. lookup (bytes_eq cs) (cond b ((e.0, h) ∷ es) (e ∷ insert_entry bytes_eq es bs h))) y ∙ first_gone (bytes_eq cs e.0) h (lookup (bytes_eq cs) es) other ∙ sym (first_gone (bytes_eq cs e.0) e.1 (lookup (bytes_eq cs) es) other)) (λ y. ap (λ b. lookup (bytes_eq cs) (cond b ((e.0, h) ∷ es) (e ∷ insert_entry bytes_eq es bs h))) y ∙ ap (cond (bytes_eq cs e.0) (Some e.1)) (lookup_other es bs cs h n)) (cases_Bool (bytes_eq bs e.0))

-- a name that was known isn't one that was not
other_name : (ms : Meanings) (bs cs : List ℕ) (k : ℕ) → lookup (bytes_eq bs) ms ≡ None → lookup (bytes_eq cs) ms ≡ Some k → bytes_eq cs bs ≡ false
other_name ms bs cs k n e = ⊎_elim (λ y. let same : cs ≡ bs = (bytes_eq-Decides cs bs).0 y in absurd (none-some k (sym n ∙ ap (λ xs. lookup (bytes_eq xs) ms) (sym same) ∙ e))) (λ y. y) (cases_Bool (bytes_eq cs bs))

-- names of s that are known keep what they mean though t gives a meaning to a name that s doesn't know
pub meaning_other : (s t : Meanings) (o n : Text) (h k : ℕ) → meant s o ≡ None → meant s n ≡ Some k → meant t n ≡ Some k → meant (meaning t o h) n ≡ Some k
meaning_other s t None n h k u e f = f
meaning_other s t (Some bs) None h k u e f = f
meaning_other s t (Some bs) (Some cs) h k u e f = lookup_other t bs cs h (other_name s bs cs k u e) ∙ f

lookup_same : (ms : Meanings) (bs : List ℕ) (h : ℕ) → lookup (bytes_eq bs) (insert_entry bytes_eq ms bs h) ≡ Some h
lookup_same [] bs h = cond-true (bytes_eq bs bs) (Some h) None ((bytes_eq-Decides bs bs).1 refl)
lookup_same (e ∷ es) bs h =
    ⊎_elim (λ y. ap (λ b. lookup (bytes_eq bs) (cond b ((e.0, h) ∷ es) (e ∷ insert_entry bytes_eq es bs h))) y ∙ cond-true (bytes_eq bs e.0) (Some h) (lookup (bytes_eq bs) es) y) (λ y. ap (λ b. lookup (bytes_eq bs) (cond b ((e.0, h) ∷ es) (e ∷ insert_entry bytes_eq es bs h))) y ∙ cond-false (bytes_eq bs e.0) (Some e.1) (lookup (bytes_eq bs) (insert_entry bytes_eq es bs h)) y ∙ lookup_same es bs h) (cases_Bool (bytes_eq bs e.0))

pub meaning_same : (ns : Meanings) (n : Text) (h : ℕ) → IsSome n → meant (meaning ns n h) n ≡ Some h
meaning_same ns None h s = absurd (false≢true s)
meaning_same ns (Some bs) h s = lookup_same ns bs h

-- each known name is known
pub meaning_more : (ns : Meanings) (o : Text) (h : ℕ) (n : Text) → IsSome (meant ns n) → IsSome (meant (meaning ns o h) n)
meaning_more ns None h n k = k
meaning_more ns (Some bs) h None k = k
meaning_more ns (Some bs) h (Some cs) k =
    ⊎_elim (λ y. (let same : cs ≡ bs = (bytes_eq-Decides cs bs).0 y in ap (λ x. is_some (lookup (bytes_eq x) (insert_entry bytes_eq ns bs h))) same ∙ ap is_some (lookup_same ns bs h))) (λ y. ap is_some (lookup_other ns bs cs h y) ∙ k) (cases_Bool (bytes_eq cs bs))

-- ---- names as they are held

meaning_cond : (b : Bool) (e : CowStr Global × ℕ) (v : ℕ) (es rest : List (CowStr Global × ℕ)) → meanings (cond b ((e.0, v) ∷ es) (e ∷ rest)) ≡ cond b ((cow_str_bytes e.0, v) ∷ meanings es) ((cow_str_bytes e.0, e.1) ∷ meanings rest)
meaning_cond true e v es rest = refl
meaning_cond false e v es rest = refl

-- to insert a name is to insert its bytes
pub meaning_put : (E : CowStr Global → CowStr Global → Bool) → ((a b : CowStr Global) → E a b ≡ bytes_eq (cow_str_bytes a) (cow_str_bytes b)) → (es : List (CowStr Global × ℕ)) (k : CowStr Global) (v : ℕ) → meanings (insert_entry E es k v) ≡ insert_entry bytes_eq (meanings es) (cow_str_bytes k) v
meaning_put E f [] k v = refl
meaning_put E f (e ∷ es) k v =
    meaning_cond (E k e.0) e v es (insert_entry E es k v) ∙ ap (λ (xs : List (List ℕ × ℕ)). cond (E k e.0) ((cow_str_bytes e.0, v) ∷ meanings es) ((cow_str_bytes e.0, e.1) ∷ xs)) (meaning_put E f es k v) ∙ ap (λ b. cond b ((cow_str_bytes e.0, v) ∷ meanings es) ((cow_str_bytes e.0, e.1) ∷ insert_entry bytes_eq (meanings es) (cow_str_bytes k) v)) (f k e.0)
