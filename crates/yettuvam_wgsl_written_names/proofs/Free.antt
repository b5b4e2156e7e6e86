-- A free number is found: no more numbers fail than names are taken.
use Rattle.std.proofs.Common.{◌≡◌, ◌≢◌, ◌⊎◌, inl, inr, ℕ, zero, suc, ◌+◌, ◌<◌, ◌≤◌, ◌^◌, Bool, true, false, cond, ◌==◌, ◌||◌, not, nat_le, nat_lt, if◌then◌else◌, List, [], ◌∷◌, ◌++◌, map, length, Option, Some, None, is_some, codes, refl, sym, ap, ◌∙◌, arith, below_more, length-append}
use Rattle.std.proofs.lemmas.Bool.{false_from_ne_true, false≢true}
use Rattle.std.proofs.lemmas.Bool.Decides.{nat_tests}
use Rattle.std.proofs.lemmas.Fmt.{decimal_injective}
use Rattle.std.proofs.lemmas.List.{append_cancel_left}
use Rattle.std.proofs.lemmas.Slice.Eq.{bytes_eq-Decides}
use Rattle.std.specs.Str.{bytes_eq}
use Rattle.yettuvam_wgsl_names.specs.Names.{predeclared_rows}
use Rattle.yettuvam_wgsl_names.specs.Table.{Name, meaning}
use Rattle.yettuvam_wgsl_names.specs.Words.{word_rows}
use Rattle.yettuvam_wgsl_written_names.specs.Language.{is_in_language, language_count}
use Rattle.yettuvam_wgsl_written_names.specs.Taken.{Numbers, Taken, number_of, is_among, has, numbered, free_from, free_number, start_by, start_of, greatest_start, count_of, fresh, make_numbered}

-- ---- places but one

abbrev skip : ℕ → ℕ → ℕ
skip j i = if nat_lt i j then i else i + 1

skip_other : (j i : ℕ) → skip j i ≡ j → false ≡ true
skip_other j i e = grind (arith, nat_tests)

skip_apart : (j i k : ℕ) → skip j i ≡ skip j k → i ≡ k
skip_apart j i k e = grind (arith, nat_tests)

skip_within : (j m i : ℕ) → i < m → skip j i < suc m
skip_within j m i h = grind (arith, nat_tests)

-- ---- lists of names

abbrev IsApart : ℕ → (ℕ → Name) → Type 0
IsApart m g = (i j : ℕ) → i < m → j < m → g i ≡ g j → i ≡ j

abbrev AreAmong : Numbers → ℕ → (ℕ → Name) → Type 0
AreAmong ns m g = (i : ℕ) → i < m → is_among ns (g i) ≡ true

record Place (g : ℕ → Name) (x : Name) (m : ℕ) : Type 0 where
  place : ℕ
  within : place < m
  is : bytes_eq (g place) x ≡ true

-- a name has a place, or none
found : (g : ℕ → Name) (x : Name) (m : ℕ) → Place g x m ⊎ ((i : ℕ) → i < m → bytes_eq (g i) x ≡ false)
found g x zero = inr (λ i h. absurd (omega arith))
found g x (suc m) = by (found g x m) (bytes_eq (g m) x) refl
  where
    by : Place g x m ⊎ ((i : ℕ) → i < m → bytes_eq (g i) x ≡ false) → (b : Bool) → bytes_eq (g m) x ≡ b → Place g x (suc m) ⊎ ((i : ℕ) → i < suc m → bytes_eq (g i) x ≡ false)
    by (inl p) b e = inl (record { place = p.place; within = let h : p.place < m = p.within in omega arith; is = p.is })
    by (inr none) true e = inl (record { place = m; within = omega arith; is = e })
    by (inr none) false e = inr (λ i h. at none e i h (nat_lt i m) refl)
      where
        at : ((i : ℕ) → i < m → bytes_eq (g i) x ≡ false) → bytes_eq (g m) x ≡ false → (i : ℕ) → i < suc m → (b : Bool) → nat_lt i m ≡ b → bytes_eq (g i) x ≡ false
        at none e i h true t = none i (grind (arith, nat_tests))
        at none e i h false t = let same : i ≡ m = grind (arith, nat_tests) in ap (λ k. bytes_eq (g k) x) same ∙ e

-- a name that isn't the first one is among the rest
rest : (e : Name × ℕ) (es : Numbers) (n : Name) → is_among (e ∷ es) n ≡ true → bytes_eq n e.0 ≡ false → is_among es n ≡ true
rest e es n h other = sym (ap (λ b. is_some (cond b (Some e.1) (number_of es n))) other) ∙ h

-- so many names that differ are among no fewer names
fit : (ns : Numbers) (m : ℕ) (g : ℕ → Name) → IsApart m g → AreAmong ns m g → m ≤ length ns
fit [] zero g apart all = omega arith
fit [] (suc m) g apart all = absurd (false≢true (all 0 (omega arith)))
fit (e ∷ es) zero g apart all = omega arith
fit (e ∷ es) (suc m) g apart all = by (found g e.0 (suc m)) (fit es)
  where
    by : Place g e.0 (suc m) ⊎ ((i : ℕ) → i < suc m → bytes_eq (g i) e.0 ≡ false) → ((k : ℕ) (f : ℕ → Name) → IsApart k f → AreAmong es k f → k ≤ length es) → suc m ≤ suc (length es)
    by (inr none) fits = let h : suc m ≤ length es = fits (suc m) g apart (λ i h. rest e es (g i) (all i h) (none i h)) in omega arith
    by (inl p) fits =
        let j = p.place in
        let others : (i : ℕ) → i < m → bytes_eq (g (skip j i)) e.0 ≡ false = λ i h. false_from_ne_true _ (λ t. false≢true (skip_other j i (apart (skip j i) j (skip_within j m i h) p.within ((bytes_eq-Decides (g (skip j i)) e.0).0 t ∙ sym ((bytes_eq-Decides (g j) e.0).0 p.is))))) in
        let h : m ≤ length es = fits m (λ i. g (skip j i)) (λ i k hi hk same. skip_apart j i k (apart (skip j i) (skip j k) (skip_within j m i hi) (skip_within j m k hk) same)) (λ i h. rest e es (g (skip j i)) (all (skip j i) (skip_within j m i h)) (others i h)) in
        omega arith

-- ---- numbers

-- where the number that is found makes a taken name, all that were tried do
tried : (f : Name → Bool) (base : Name) (tries n : ℕ) → f (numbered base (free_from f base tries n)) ≡ true → (i : ℕ) → i < suc tries → f (numbered base (n + i)) ≡ true
unfolding free_from
tried f base zero n h i lt = let e : n + i ≡ n = omega arith in ap (λ k. f (numbered base k)) e ∙ h
tried f base (suc tries) n h i lt = by (f (numbered base n)) refl h (tried f base tries (n + 1)) i lt
  where
    by : (b : Bool) → f (numbered base n) ≡ b → f (numbered base (if b then free_from f base tries (n + 1) else n)) ≡ true → (f (numbered base (free_from f base tries (n + 1))) ≡ true → (k : ℕ) → k < suc tries → f (numbered base (n + 1 + k)) ≡ true) → (i : ℕ) → i < suc (suc tries) → f (numbered base (n + i)) ≡ true
    by true is h more zero lt = let e : n + 0 ≡ n = omega arith in ap (λ k. f (numbered base k)) e ∙ is
    by true is h more (suc k) lt = let e : n + suc k ≡ n + 1 + k = omega arith in ap (λ k. f (numbered base k)) e ∙ more h k (omega arith)
    by false is h more i lt = absurd (false≢true (sym is ∙ h))

joined : (xs ys : Numbers) (n : Name) → is_among (xs ++ ys) n ≡ (is_among xs n || is_among ys n)
joined [] ys n = refl
joined (e ∷ es) ys n = by (bytes_eq n e.0) (joined es ys n)
  where
    by : (b : Bool) → is_among (es ++ ys) n ≡ (is_among es n || is_among ys n) → is_some (cond b (Some e.1) (number_of (es ++ ys) n)) ≡ (is_some (cond b (Some e.1) (number_of es n)) || is_among ys n)
    by true h = refl
    by false h = h

-- ---- the words of the language as taken names

listed : {V : Type 0} (es : List (Name × V)) (n : Name) → is_among (map (λ e. (e.0, 1)) es) n ≡ is_some (meaning es n)
listed [] n = refl
listed (e ∷ es) n = by (bytes_eq n e.0) (listed es n)
  where
    by : (b : Bool) → is_among (map (λ e. (e.0, 1)) es) n ≡ is_some (meaning es n) → is_some (cond b (Some 1) (number_of (map (λ e. (e.0, 1)) es) n)) ≡ is_some (cond b (Some e.1) (meaning es n))
    by true h = refl
    by false h = h

unfoldable language_names : Numbers
language_names = map (λ e. (e.0, 1)) word_rows ++ map (λ e. (e.0, 1)) predeclared_rows

in_language : (n : Name) → is_among language_names n ≡ is_in_language n
unfolding language_names is_in_language
in_language n =
    joined (map (λ e. (e.0, 1)) word_rows) (map (λ e. (e.0, 1)) predeclared_rows) n
    ∙ ap (λ b. b || is_among (map (λ e. (e.0, 1)) predeclared_rows) n) (listed word_rows n)
    ∙ ap (λ b. is_some (meaning word_rows n) || b) (listed predeclared_rows n)

language_length : length language_names ≡ language_count
unfolding language_names
language_length = refl

abbrev all_names : Taken → Numbers
all_names t = t.outer ++ (t.own ++ language_names)

has_all : (t : Taken) (n : Name) → is_among (all_names t) n ≡ has t n
has_all t n =
    joined t.outer (t.own ++ language_names) n
    ∙ ap (λ b. is_among t.outer n || b) (joined t.own language_names n ∙ ap (λ b. is_among t.own n || b) (in_language n))

start_small : (o : Option ℕ) → start_by o ≤ greatest_start
start_small None = omega arith
start_small (Some n) = grind (arith, nat_tests)

-- the number that is found makes a free name
pub number_is_free : (t : Taken) (base : Name) → count_of t ≤ 2 ^ 62 → has t (numbered base (free_number t base)) ≡ false
number_is_free t base small =
    let low : start_of t base ≤ greatest_start = start_small (number_of t.own base) in
    false_from_ne_true _ (λ h.
    let all = tried (has t) base (count_of t) (start_of t base) h in
    let apart : IsApart (suc (count_of t)) (λ i. numbered base (start_of t base + i)) = λ i j hi hj same.
    let n : start_of t base + i ≡ start_of t base + j = decimal_injective (start_of t base + i) (start_of t base + j) (omega arith) (omega arith) (append_cancel_left (base ++ codes "_") _ _ same) in
    omega arith in
    let among : AreAmong (all_names t) (suc (count_of t)) (λ i. numbered base (start_of t base + i)) = λ i lt. has_all t (numbered base (start_of t base + i)) ∙ all i lt in
    let most : suc (count_of t) ≤ length (all_names t) = fit (all_names t) (suc (count_of t)) (λ i. numbered base (start_of t base + i)) apart among in
    absurd (omega (arith, length-append t.outer (t.own ++ language_names), length-append t.own language_names, language_length)))

-- a made name is free
pub fresh_is_free : (t : Taken) (n : Name) → count_of t ≤ 2 ^ 62 → has t (fresh t n).name ≡ false
fresh_is_free t n small = by (has t n) refl
  where
    by : (b : Bool) → has t n ≡ b → has t (if b then make_numbered t n else record { name = n; taken = t }).name ≡ false
    by true e = number_is_free t n small
    by false e = e
