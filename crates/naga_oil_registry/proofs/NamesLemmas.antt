-- Names in byte order are determined by which names are among them.
use Rattle.std.proofs.Common.{◌≡◌, ℕ, List, [], ◌∷◌, Bool, true, false, ◌||◌, refl, sym, ap, subst, ◌∙◌, String, Global, string_bytes, Ordering, Less, Equal, Greater, Result, Ok, Err}
use Rattle.std.proofs.lemmas.Bool.{or_from, true≢false}
use Rattle.std.proofs.lemmas.Cmp.{nat_list_cmp_total}
use Rattle.std.proofs.lemmas.Map.Lookups.{exact_bytes}
use Rattle.std.proofs.lemmas.Map.Text.{is_eq-slice_cmp}
use Rattle.std.proofs.lemmas.Slice.Eq.{bytes_eq-Decides}
use Rattle.std.specs.BTreeMap.{is_at}
use Rattle.std.specs.Cmp.Lexicographic.{slice_cmp}
use Rattle.std.specs.List.{list_any, fold, AllByRecursion}
use Rattle.std.specs.List.Sorted.{IsStrictlySortedBy}
use Rattle.std.specs.Ordering.{nat_cmp, is_eq, match_ordering, ordering_reverse}
use Rattle.std.specs.Str.{bytes_eq}
use Rattle.std.specs.String.{string_cmp}
use Rattle.naga_oil_lines.specs.Directives.{Directives}
use Rattle.naga_oil_words.specs.Texts.{with_name, in_order, is_among, texts}
use Rattle.naga_oil_lines.proofs.NamesInOrder.{names_rise}
use Rattle.naga_oil_pre.specs.Extracted.{extracted}
use Rattle.naga_oil_conditions.specs.Fault.{Fault}
use Rattle.naga_oil_conditions.specs.Line.{source_lines}
use Rattle.naga_oil_pre.specs.Metadata.{Found, Metadata, metadata, metadata_after, metadata_with, found_in, nothing_found}
use Rattle.naga_oil_pre.specs.Recorded.{is_recorded}

abbrev order : List ℕ → List ℕ → Ordering
order a b = slice_cmp nat_cmp a b

or_last : (a b : Bool) → (a || b) ≡ (b || a)
or_last true true = refl
or_last true false = refl
or_last false true = refl
or_last false false = refl

or_twice : (a b : Bool) → (a || b) ≡ ((a || b) || a)
or_twice true b = refl
or_twice false true = refl
or_twice false false = refl

or_between : (a b c : Bool) → (a || (b || c)) ≡ ((a || b) || c)
or_between true b c = refl
or_between false b c = refl

-- a name that is inserted is among them
among-with_name : (ks : List (List ℕ)) (k n : List ℕ) → is_among (with_name ks k) n ≡ (is_among ks n || bytes_eq n k)
among-with_name [] k n = or_last (bytes_eq n k) false
among-with_name (x ∷ xs) k n = by (order k x) refl (among-with_name xs k n)
  where
    by : (o : Ordering) → order k x ≡ o → is_among (with_name xs k) n ≡ (is_among xs n || bytes_eq n k) → is_among (match_ordering o (k ∷ x ∷ xs) (x ∷ xs) (x ∷ with_name xs k)) n ≡ (is_among (x ∷ xs) n || bytes_eq n k)
    by Less e rest = or_last (bytes_eq n k) (is_among (x ∷ xs) n)
    by Equal e rest = or_twice (bytes_eq n x) (is_among xs n) ∙ ap (λ y. is_among (x ∷ xs) n || bytes_eq n y) (sym (exact_bytes k x e))
    by Greater e rest = ap (λ b. bytes_eq n x || b) rest ∙ or_between (bytes_eq n x) (is_among xs n) (bytes_eq n k)

among-fold : (ks names : List (List ℕ)) (n : List ℕ) → is_among (fold with_name ks names) n ≡ (is_among ks n || is_among names n)
among-fold ks [] n = or_last false (is_among ks n)
among-fold ks (name ∷ names) n = among-fold (with_name ks name) names n ∙ ap (λ b. b || is_among names n) (among-with_name ks name n) ∙ sym (or_between (is_among ks n) (bytes_eq n name) (is_among names n))

pub among-in_order : (names : List (List ℕ)) (n : List ℕ) → is_among (in_order names) n ≡ is_among names n
unfolding in_order
among-in_order names n = among-fold [] names n

-- ---- sorted names are determined by which names are among them
apart : (x z : List ℕ) → order x z ≡ Less → bytes_eq x z ≡ false
apart x z e = sym (is_eq-slice_cmp x z) ∙ ap is_eq e

not_above : (x : List ℕ) (zs : List (List ℕ)) → AllByRecursion (λ z. order x z ≡ Less) zs → is_among zs x ≡ false
not_above x [] h = refl
not_above x (z ∷ zs) h = or_from (bytes_eq x z) (is_among zs x) (apart x z h.0) (not_above x zs h.1)

above_more : (x y : List ℕ) (zs : List (List ℕ)) → order x y ≡ Less → AllByRecursion (λ z. order y z ≡ Less) zs → AllByRecursion (λ z. order x z ≡ Less) zs
above_more x y [] e h = tt
above_more x y (z ∷ zs) e h = (nat_list_cmp_total.trans x y z e h.0, above_more x y zs e h.1)

first_among : (x : List ℕ) (xs : List (List ℕ)) → is_among (x ∷ xs) x ≡ true
first_among x xs = ap (λ b. b || is_among xs x) ((bytes_eq-Decides x x).1 refl)

-- what follows the same first name
following : (x n : List ℕ) (xs ys : List (List ℕ)) → is_among xs x ≡ false → is_among ys x ≡ false → is_among (x ∷ xs) n ≡ is_among (x ∷ ys) n → is_among xs n ≡ is_among ys n
following x n xs ys p q e = by (bytes_eq n x) refl e
  where
    by : (b : Bool) → bytes_eq n x ≡ b → (b || is_among xs n) ≡ (b || is_among ys n) → is_among xs n ≡ is_among ys n
    by true same e = let is : n ≡ x = (bytes_eq-Decides n x).0 same in ap (is_among xs) is ∙ p ∙ sym q ∙ ap (is_among ys) (sym is)
    by false other e = e

sorted_unique : (xs ys : List (List ℕ)) → IsStrictlySortedBy (slice_cmp nat_cmp) xs → IsStrictlySortedBy (slice_cmp nat_cmp) ys → ((n : List ℕ) → is_among xs n ≡ is_among ys n) → xs ≡ ys
unfolding IsStrictlySortedBy
sorted_unique [] [] s t h = refl
sorted_unique [] (y ∷ ys) s t h = absurd (true≢false (sym (first_among y ys) ∙ sym (h y)))
sorted_unique (x ∷ xs) [] s t h = absurd (true≢false (sym (first_among x xs) ∙ h x))
sorted_unique (x ∷ xs) (y ∷ ys) s t h = by (order x y) refl (λ k. sorted_unique xs ys s.1 t.1 k)
  where
    by : (o : Ordering) → order x y ≡ o → (((n : List ℕ) → is_among xs n ≡ is_among ys n) → xs ≡ ys) → x ∷ xs ≡ y ∷ ys
    by Less e rest = absurd (true≢false (sym (first_among x xs) ∙ h x ∙ not_above x (y ∷ ys) (e, above_more x y ys e t.0)))
    by Greater e rest =
        let below : order y x ≡ Less = nat_list_cmp_total.antisymm y x ∙ ap ordering_reverse e in
        absurd (true≢false (sym (first_among y ys) ∙ sym (h y) ∙ not_above y (x ∷ xs) (below, above_more y x xs below s.0)))
    by Equal e rest =
        let same : x ≡ y = exact_bytes x y e in
        let above : is_among ys x ≡ false = ap (is_among ys) same ∙ not_above y ys t.0 in
        ap (λ z. z ∷ xs) same ∙ ap (λ zs. y ∷ zs) (rest (λ n. following x n xs ys (not_above x xs s.0) above (h n ∙ ap (λ z. is_among (z ∷ ys) n) (sym same))))

-- ---- a set of names
all_texts : (k : String Global) (ks : List (String Global)) → AllByRecursion (λ l. string_cmp k l ≡ Less) ks → AllByRecursion (λ n. order (string_bytes k) n ≡ Less) (texts ks)
all_texts k [] h = tt
all_texts k (l ∷ ks) h = (h.0, all_texts k ks h.1)

pub sorted_texts : (ks : List (String Global)) → IsStrictlySortedBy string_cmp ks → IsStrictlySortedBy (slice_cmp nat_cmp) (texts ks)
unfolding IsStrictlySortedBy
sorted_texts [] h = tt
sorted_texts (k ∷ ks) h = (all_texts k ks h.0, sorted_texts ks h.1)

pub among_texts : (ks : List (String Global)) (n : List ℕ) → list_any (is_at (λ k. slice_cmp nat_cmp n (string_bytes k))) ks ≡ is_among (texts ks) n
among_texts [] n = refl
among_texts (k ∷ ks) n = ap (λ b. b || list_any (is_at (λ k. slice_cmp nat_cmp n (string_bytes k))) ks) (is_eq-slice_cmp n (string_bytes k)) ∙ ap (λ b. bytes_eq n (string_bytes k) || b) (among_texts ks n)

-- a set that has exactly these names
pub set_names : (ks : List (String Global)) (names : List (List ℕ)) → IsStrictlySortedBy string_cmp ks → ((n : List ℕ) → list_any (is_at (λ k. slice_cmp nat_cmp n (string_bytes k))) ks ≡ is_among names n) → texts ks ≡ in_order names
set_names ks names s h = sorted_unique (texts ks) (in_order names) (sorted_texts ks s) (names_rise names) (λ n. sym (among_texts ks n) ∙ h n ∙ sym (among-in_order names n))

-- metadata records what its cleaned text records
abbrev RecordsOwn : Result Metadata Fault → Type 0
RecordsOwn (Ok m) = m.records ≡ is_recorded m.cleaned
RecordsOwn (Err f) = Unit {0}

found-records : (cleaned : List ℕ) (directives : Directives) (r : Result Found Fault) → RecordsOwn (metadata_with cleaned directives r)
found-records cleaned directives (Ok found) = refl
found-records cleaned directives (Err f) = tt

following-records : (allow_defines : Bool) (r : Result (List ℕ × Directives) Fault) → RecordsOwn (metadata_after allow_defines r)
following-records allow_defines (Ok r) = found-records r.0 r.1 (found_in allow_defines nothing_found 0 (source_lines r.0))
following-records allow_defines (Err f) = tt

pub records-cleaned : (allow_defines : Bool) (text : List ℕ) (m : Metadata) → metadata allow_defines text ≡ Ok m → m.records ≡ is_recorded m.cleaned
unfolding metadata
records-cleaned allow_defines text m e = subst RecordsOwn e (following-records allow_defines (extracted text))
