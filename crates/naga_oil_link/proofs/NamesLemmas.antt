-- Names in byte order: which names are among them.
use Rattle.std.proofs.Common.{◌≡◌, ℕ, nat_eq, List, [], ◌∷◌, Bool, true, false, ◌||◌, All, Option, Some, None, Bor, subst, refl, sym, ap, ◌∙◌, String, Global, string_bytes, Ordering, Less, Equal, Greater}
use Rattle.std.proofs.lemmas.Map.Lookups.{exact_bytes}
use Rattle.std.proofs.lemmas.Map.Text.{is_eq-slice_cmp}
use Rattle.std.specs.BTreeMap.{is_at}
use Rattle.std.specs.BTreeSet.{insert_key}
use Rattle.std.specs.Cmp.Lexicographic.{slice_cmp}
use Rattle.std.proofs.lemmas.Bool.{false≢true}
use Rattle.std.proofs.lemmas.List.Elements.{All-head, All-tail, All-nil, All-cons}
use Rattle.std.proofs.lemmas.Slice.Eq.{bytes_eq-Decides}
use Rattle.std.specs.List.{list_any, fold, ends_with}
use Rattle.std.specs.Ordering.{nat_cmp, match_ordering}
use Rattle.std.specs.Str.{bytes_eq}
use Rattle.std.specs.String.{string_cmp}
use Rattle.naga_oil_words.specs.Texts.{with_name, in_order, is_among, texts}
use Rattle.naga_oil_link.specs.CopiedBuild.{AreAmong, EndWith}
use Rattle.std.specs.Map.Iter.{TakesFirst}

pub or_last : (a b : Bool) → (a || b) ≡ (b || a)
or_last true true = refl
or_last true false = refl
or_last false true = refl
or_last false false = refl

pub or_twice : (a b : Bool) → (a || b) ≡ ((a || b) || a)
or_twice true b = refl
or_twice false true = refl
or_twice false false = refl

pub or_between : (a b c : Bool) → (a || (b || c)) ≡ ((a || b) || c)
or_between true b c = refl
or_between false b c = refl

-- a name that is inserted is among them
among-with_name : (ks : List (List ℕ)) (k n : List ℕ) → is_among (with_name ks k) n ≡ (is_among ks n || bytes_eq n k)
among-with_name [] k n = or_last (bytes_eq n k) false
among-with_name (x ∷ xs) k n = by (slice_cmp nat_cmp k x) refl (among-with_name xs k n)
  where
    by : (o : Ordering) → slice_cmp nat_cmp k x ≡ o → is_among (with_name xs k) n ≡ (is_among xs n || bytes_eq n k) → is_among (match_ordering o (k ∷ x ∷ xs) (x ∷ xs) (x ∷ with_name xs k)) n ≡ (is_among (x ∷ xs) n || bytes_eq n k)
    by Less e rest = or_last (bytes_eq n k) (is_among (x ∷ xs) n)
    by Equal e rest = or_twice (bytes_eq n x) (is_among xs n) ∙ ap (λ y. is_among (x ∷ xs) n || bytes_eq n y) (sym (exact_bytes k x e))
    by Greater e rest = ap (λ b. bytes_eq n x || b) rest ∙ or_between (bytes_eq n x) (is_among xs n) (bytes_eq n k)

among-fold : (ks names : List (List ℕ)) (n : List ℕ) → is_among (fold with_name ks names) n ≡ (is_among ks n || is_among names n)
among-fold ks [] n = or_last false (is_among ks n)
among-fold ks (name ∷ names) n = among-fold (with_name ks name) names n ∙ ap (λ b. b || is_among names n) (among-with_name ks name n) ∙ sym (or_between (is_among ks n) (bytes_eq n name) (is_among names n))

pub among-in_order : (names : List (List ℕ)) (n : List ℕ) → is_among (in_order names) n ≡ is_among names n
unfolding in_order
among-in_order names n = among-fold [] names n

-- a name that doesn't end as all of these names do isn't among them
pub ends_apart : (names : List (List ℕ)) (ending n : List ℕ) → EndWith names ending → ends_with nat_eq n ending ≡ false → is_among names n ≡ false
ends_apart [] ending n all other = refl
ends_apart (x ∷ names) ending n all other = by (bytes_eq n x) refl (ends_apart names ending n (All-tail (λ (y : List ℕ). ends_with nat_eq y ending ≡ true) x names all) other)
  where
    Ends : List ℕ → Type 0
    Ends y = ends_with nat_eq y ending ≡ true

    by : (b : Bool) → bytes_eq n x ≡ b → is_among names n ≡ false → (b || is_among names n) ≡ false
    by true e rest = absurd (false≢true (sym other ∙ ap (λ y. ends_with nat_eq y ending) ((bytes_eq-Decides n x).0 e) ∙ All-head Ends x names all))
    by false e rest = rest

-- the rest of names that are among others is among them
pub left_among : (ks : List (List ℕ)) (s t : List (String Global)) (r : Option (Bor (String Global))) → TakesFirst (λ x. x.now) s r t → AreAmong ks (texts s) → AreAmong ks (texts t)
left_among ks s t None e all = subst (λ (xs : List (String Global)). AreAmong ks (texts xs)) (sym e.1) (All-nil (λ (n : List ℕ). is_among ks n ≡ true))
left_among ks s t (Some x) e all = All-tail (λ (n : List ℕ). is_among ks n ≡ true) (string_bytes x.now) (texts t) (subst (λ (xs : List (String Global)). AreAmong ks (texts xs)) e all)

-- the first of names that are among others is among them
pub first_among : (ks : List (List ℕ)) (s t : List (String Global)) (name : String Global) → s ≡ name ∷ t → AreAmong ks (texts s) → is_among ks (string_bytes name) ≡ true
first_among ks s t name e all = All-head (λ (n : List ℕ). is_among ks n ≡ true) (string_bytes name) (texts t) (subst (λ (xs : List (String Global)). AreAmong ks (texts xs)) e all)

-- what is asked of a set of names
pub among_texts : (ks : List (String Global)) (n : List ℕ) → list_any (is_at (λ k. slice_cmp nat_cmp n (string_bytes k))) ks ≡ is_among (texts ks) n
among_texts [] n = refl
among_texts (k ∷ ks) n = ap (λ b. b || list_any (is_at (λ k. slice_cmp nat_cmp n (string_bytes k))) ks) (is_eq-slice_cmp n (string_bytes k)) ∙ ap (λ b. bytes_eq n (string_bytes k) || b) (among_texts ks n)

-- a set's names are among them
pub all_among : (ks s : List (String Global)) → s ≡ ks → All (λ (k : String Global). list_any (is_at (λ j. slice_cmp nat_cmp (string_bytes k) (string_bytes j))) ks ≡ true) ks → AreAmong (texts ks) (texts s)
all_among ks s e found = subst (λ (xs : List (String Global)). AreAmong (texts ks) (texts xs)) (sym e) (by ks found)
  where
    Found : String Global → Type 0
    Found k = list_any (is_at (λ j. slice_cmp nat_cmp (string_bytes k) (string_bytes j))) ks ≡ true

    Among : List ℕ → Type 0
    Among n = is_among (texts ks) n ≡ true

    by : (xs : List (String Global)) → All Found xs → AreAmong (texts ks) (texts xs)
    by [] all = All-nil Among
    by (x ∷ xs) all = All-cons Among (string_bytes x) (texts xs) (sym (among_texts ks (string_bytes x)) ∙ All-head Found x xs all) (by xs (All-tail Found x xs all))

-- a name that is inserted
pub bytes-insert : (ks : List (String Global)) (name : String Global) → texts (insert_key string_cmp ks name) ≡ with_name (texts ks) (string_bytes name)
bytes-insert [] name = refl
bytes-insert (k ∷ ks) name = by (slice_cmp nat_cmp (string_bytes name) (string_bytes k)) (bytes-insert ks name)
  where
    by : (o : Ordering) → texts (insert_key string_cmp ks name) ≡ with_name (texts ks) (string_bytes name) → texts (match_ordering o (name ∷ k ∷ ks) (k ∷ ks) (k ∷ insert_key string_cmp ks name)) ≡ match_ordering o (string_bytes name ∷ string_bytes k ∷ texts ks) (string_bytes k ∷ texts ks) (string_bytes k ∷ with_name (texts ks) (string_bytes name))
    by Less rest = refl
    by Equal rest = refl
    by Greater rest = ap (λ ns. string_bytes k ∷ ns) rest
