-- The names of copies.
use Rattle.std.proofs.Common.{◌≡◌, ℕ, Bool, true, false, cond, ◌||◌, nat_eq, List, [], ◌∷◌, ◌++◌, reverse, slice_get, option_to_list, Option, Some, None, refl, ap, sym, ◌∙◌}
use Rattle.std.specs.Map.{lookup, keys_of}
use Rattle.std.specs.Option.{option_eq, option_flatten}
use Rattle.std.proofs.lemmas.Bool.{false≢true, ne_eqb}
use Rattle.std.proofs.lemmas.List.{reverse-append}
use Rattle.indexmap.specs.IndexMap.{insert_entry}
use Rattle.naga_oil_form.specs.Links.{has, added}
use Rattle.naga_oil_form.proofs.LinkLemmas.{eqb_eq, eq_eqb}
use Rattle.naga_oil_derive.specs.Copies.{Table}
use Rattle.naga_oil_derive.specs.CopiedFunction.{copy_function}
use Rattle.naga_oil_derive.specs.CopiedFunctionLaw.{table_of, is_copied_to, named_copies, NameLaw}
use Rattle.naga_oil_derive.specs.Functions.{name_put, names_under}
use Rattle.naga_oil_walk.proofs.WalkLemmas.{added-append}

abbrev NamesLaw : Type 0
NamesLaw = List (ℕ × List ℕ)

-- ---- tests

-- the first of two, if it is there
abbrev first_of : Option (List ℕ) → Option (List ℕ) → Option (List ℕ)
first_of None b = b
first_of (Some x) b = Some x

first_chosen : (a : Option (List ℕ)) (b : Bool) (n : List ℕ) (d : Option (List ℕ)) → first_of a (cond b (Some n) d) ≡ first_of (first_of a (cond b (Some n) None)) d
first_chosen (Some x) b n d = refl
first_chosen None true n d = refl
first_chosen None false n d = refl

first_more : (t : Bool) (n : List ℕ) (x y z : Option (List ℕ)) → x ≡ first_of y z → cond t (Some n) x ≡ first_of (cond t (Some n) y) z
first_more true n x y z e = refl
first_more false n x y z e = e

tested_twice : (b : Bool) (x y z : Option (List ℕ)) → cond b x z ≡ cond b x (cond b y z)
tested_twice true x y z = refl
tested_twice false x y z = refl

tested_apart : (a b : Bool) (x y z : Option (List ℕ)) → (a ≡ true → b ≡ true → ⊥) → cond a x (cond b y z) ≡ cond b y (cond a x z)
tested_apart true true x y z f = absurd (f refl refl)
tested_apart true false x y z f = refl
tested_apart false true x y z f = refl
tested_apart false false x y z f = refl

cons_chosen : (b : Bool) (k : ℕ) (x y : List ℕ) → k ∷ cond b x y ≡ cond b (k ∷ x) (k ∷ y)
cons_chosen true k x y = refl
cons_chosen false k x y = refl

-- ---- the last name

lookup-append : (p : ℕ → Bool) (a b : NamesLaw) → lookup p (a ++ b) ≡ first_of (lookup p a) (lookup p b)
lookup-append p [] b = refl
lookup-append p (e ∷ a) b = first_more (p e.0) e.1 (lookup p (a ++ b)) (lookup p a) (lookup p b) (lookup-append p a b)

put_more : (h k : ℕ) (n : List ℕ) (e : ℕ × List ℕ) (done : NamesLaw) (b : Bool) → nat_eq k e.0 ≡ b → lookup (nat_eq h) (insert_entry nat_eq done k n) ≡ cond (nat_eq h k) (Some n) (lookup (nat_eq h) done) → lookup (nat_eq h) (cond b ((e.0, n) ∷ done) (e ∷ insert_entry nat_eq done k n)) ≡ cond (nat_eq h k) (Some n) (lookup (nat_eq h) (e ∷ done))
put_more h k n e done true t i = tested_twice (nat_eq h e.0) (Some n) (Some e.1) (lookup (nat_eq h) done) ∙ ap (λ x. cond (nat_eq h x) (Some n) (lookup (nat_eq h) (e ∷ done))) (sym (eqb_eq k e.0 t))
put_more h k n e done false t i =
    ap (λ o. cond (nat_eq h e.0) (Some e.1) o) i ∙ tested_apart (nat_eq h e.0) (nat_eq h k) (Some e.1) (Some n) (lookup (nat_eq h) done) (λ a b. false≢true (sym t ∙ eq_eqb k e.0 (sym (eqb_eq h k b) ∙ eqb_eq h e.0 a)))

lookup_put : (h k : ℕ) (n : List ℕ) (done : NamesLaw) → lookup (nat_eq h) (insert_entry nat_eq done k n) ≡ cond (nat_eq h k) (Some n) (lookup (nat_eq h) done)
lookup_put h k n [] = refl
lookup_put h k n (e ∷ done) = put_more h k n e done (nat_eq k e.0) refl (lookup_put h k n done)

lookup_name : (h : ℕ) (o : Option ℕ) (n : List ℕ) (done : NamesLaw) → lookup (nat_eq h) (name_put o n done) ≡ cond (option_eq nat_eq (Some h) o) (Some n) (lookup (nat_eq h) done)
lookup_name h None n done = refl
lookup_name h (Some k) n done = lookup_put h k n done

last_name : (t : Table) (h : ℕ) (ns done : NamesLaw) → lookup (nat_eq h) (names_under t done ns) ≡ first_of (lookup (is_copied_to t h) (reverse ns)) (lookup (nat_eq h) done)
last_name t h [] done = refl
last_name t h (e ∷ ns) done =
    let p = is_copied_to t h in
    let o = option_flatten (slice_get t e.0) in
    last_name t h ns (name_put o e.1 done) ∙ ap (first_of (lookup p (reverse ns))) (lookup_name h o e.1 done) ∙ first_chosen (lookup p (reverse ns)) (p e.0) e.1 (lookup (nat_eq h) done) ∙ ap (λ x. first_of x (lookup (nat_eq h) done)) (sym (ap (lookup p) (reverse-append (e ∷ []) ns) ∙ lookup-append p (reverse ns) (e ∷ [])))

first_none : (a : Option (List ℕ)) → first_of a None ≡ a
first_none None = refl
first_none (Some x) = refl

-- ---- the first place

keys_more : (k : ℕ) (n : List ℕ) (e : ℕ × List ℕ) (done : NamesLaw) (b : Bool) → nat_eq k e.0 ≡ b → keys_of (insert_entry nat_eq done k n) ≡ added (keys_of done) (k ∷ []) → keys_of (cond b ((e.0, n) ∷ done) (e ∷ insert_entry nat_eq done k n)) ≡ added (keys_of (e ∷ done)) (k ∷ [])
keys_more k n e done true t i = sym (ap (λ b. cond (b || has (keys_of done) k) (keys_of (e ∷ done)) (keys_of (e ∷ done) ++ k ∷ [])) (eq_eqb e.0 k (sym (eqb_eq k e.0 t))))
keys_more k n e done false t i =
    let ks = keys_of done in
    ap (λ xs. e.0 ∷ xs) i ∙ cons_chosen (has ks k) e.0 ks (ks ++ k ∷ []) ∙ sym (ap (λ b. cond (b || has ks k) (e.0 ∷ ks) (e.0 ∷ (ks ++ k ∷ []))) (ne_eqb e.0 k (λ q. false≢true (sym t ∙ eq_eqb k e.0 (sym q)))))

keys_put : (k : ℕ) (n : List ℕ) (done : NamesLaw) → keys_of (insert_entry nat_eq done k n) ≡ added (keys_of done) (k ∷ [])
keys_put k n [] = refl
keys_put k n (e ∷ done) = keys_more k n e done (nat_eq k e.0) refl (keys_put k n done)

keys_name : (o : Option ℕ) (n : List ℕ) (done : NamesLaw) → keys_of (name_put o n done) ≡ added (keys_of done) (option_to_list o)
keys_name None n done = refl
keys_name (Some k) n done = keys_put k n done

first_place : (t : Table) (ns done : NamesLaw) → keys_of (names_under t done ns) ≡ added (keys_of done) (named_copies t ns)
first_place t [] done = refl
first_place t (e ∷ ns) done =
    let o = option_flatten (slice_get t e.0) in
    first_place t ns (name_put o e.1 done) ∙ ap (λ xs. added xs (named_copies t ns)) (keys_name o e.1 done) ∙ sym (added-append (keys_of done) (option_to_list o) (named_copies t ns))

pub names : NameLaw
unfolding copy_function
names r v =
    let t = table_of r v in
    record {
      last = λ h. last_name t h v.named_expressions [] ∙ first_none (lookup (is_copied_to t h) (reverse v.named_expressions));
      first = first_place t v.named_expressions [];
    }
