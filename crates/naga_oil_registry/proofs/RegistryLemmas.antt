-- Registered modules, and which are removed.
use Rattle.std.proofs.Common.{◌≡◌, ℕ, zero, suc, ◌+◌, ◌<◌, List, [], ◌∷◌, Bool, true, false, not, cond, ◌||◌, eqb, refl, sym, ap, subst, ◌∙◌, map, filter, drop, get_or, length, slice_get, Option, Some, None, option_map, arith}
use Rattle.std.proofs.lemmas.Bool.{or_parts, ne_eqb}
use Rattle.std.proofs.lemmas.List.{drop_more}
use Rattle.std.proofs.lemmas.Option.{slice_get_within, get_or_from_slice_get}
use Rattle.std.proofs.lemmas.Slice.Eq.{bytes_eq-Decides}
use Rattle.std.specs.List.{list_any, find, position_from, range_with_len}
use Rattle.std.specs.Str.{bytes_eq}
use Rattle.naga_oil_registry.specs.Registered.{Registered}
use Rattle.naga_oil_registry.specs.Registry.{registered, module_named, reaches, standing, taken, free_among, IsRegistry}

pub list_any_map : {A C : Type 0} (p : C → Bool) (f : A → C) (xs : List A) → list_any p (map f xs) ≡ list_any (λ x. p (f x)) xs
list_any_map p f [] = refl
list_any_map p f (x ∷ xs) = ap (λ b. p (f x) || b) (list_any_map p f xs)

pub find_map : {A C : Type 0} (p : C → Bool) (f : A → C) (xs : List A) → option_map f (find (λ x. p (f x)) xs) ≡ find p (map f xs)
find_map p f [] = refl
find_map p f (x ∷ xs) = by (p (f x)) (find_map p f xs)
  where
    by : (b : Bool) → option_map f (find (λ x. p (f x)) xs) ≡ find p (map f xs) → option_map f (cond b (Some x) (find (λ x. p (f x)) xs)) ≡ cond b (Some (f x)) (find p (map f xs))
    by true rest = refl
    by false rest = rest

pub option_map_twice : {A B C : Type 0} (f : A → B) (g : B → C) (o : Option A) → option_map (λ x. g (f x)) o ≡ option_map g (option_map f o)
option_map_twice f g None = refl
option_map_twice f g (Some x) = refl

pub list_any_same : {X : Type 0} (p q : X → Bool) → ((x : X) → p x ≡ q x) → (xs : List X) → list_any p xs ≡ list_any q xs
list_any_same p q h [] = refl
list_any_same p q h (x ∷ xs) = ap (λ b. b || list_any p xs) (h x) ∙ ap (λ b. q x || b) (list_any_same p q h xs)

pub filter_map : {A C : Type 0} (p : C → Bool) (f : A → C) (xs : List A) → map f (filter (λ x. p (f x)) xs) ≡ filter p (map f xs)
filter_map p f [] = refl
filter_map p f (x ∷ xs) = by (p (f x)) (filter_map p f xs)
  where
    by : (b : Bool) → map f (filter (λ x. p (f x)) xs) ≡ filter p (map f xs) → map f (cond b (x ∷ filter (λ x. p (f x)) xs) (filter (λ x. p (f x)) xs)) ≡ cond b (f x ∷ filter p (map f xs)) (filter p (map f xs))
    by true rest = ap (λ ys. f x ∷ ys) rest
    by false rest = rest

pub bytes_same : (xs ys : List ℕ) → bytes_eq xs ys ≡ true → xs ≡ ys
bytes_same xs ys h = (bytes_eq-Decides xs ys).0 h

-- what isn't registered reaches nothing
pub unregistered-reaches : (ds : List Registered) (name other : List ℕ) → registered name ds ≡ false → reaches ds name other ≡ false
unfolding reaches
unregistered-reaches [] name other e = refl
unregistered-reaches (d ∷ ds) name other e = let h = or_parts (bytes_eq d.name name) (registered name ds) e in rw (h.0) (unregistered-reaches ds name other h.1)

pub registry-drop : (i : ℕ) (ds : List Registered) → IsRegistry ds → IsRegistry (drop i ds)
registry-drop zero ds h = h
registry-drop (suc i) [] h = tt
registry-drop (suc i) (d ∷ ds) h = registry-drop i ds h.1

-- one more module, removed or not
module _ (d : Registered) (ds : List Registered) (name : List ℕ) (has : List ℕ → Bool) (is_new : registered d.name ds ≡ false) (same : (x : List ℕ) → has x ≡ reaches ds x name) where
  -- whether it is removed
  abbrev pub goes : Bool
  goes = bytes_eq d.name name || list_any (λ u. has u.import.import) d.imports

  here : (x : List ℕ) → bytes_eq d.name x ≡ true → goes ≡ reaches (d ∷ ds) x name
  unfolding reaches
  here x e = rw e (ap (λ b. bytes_eq d.name name || b) (list_any_same (λ u. has u.import.import) (λ u. reaches ds u.import.import name) (λ u. same u.import.import) d.imports) ∙ ap (λ n. bytes_eq n name || list_any (λ u. reaches ds u.import.import name) d.imports) (bytes_same d.name x e))

  there : (x : List ℕ) → bytes_eq d.name x ≡ false → has x ≡ reaches (d ∷ ds) x name
  unfolding reaches
  there x e = rw e (same x)

  pub reaches-goes : goes ≡ true → (x : List ℕ) → cond (bytes_eq d.name x) true (has x) ≡ reaches (d ∷ ds) x name
  reaches-goes g x = by (bytes_eq d.name x) refl
    where
      by : (b : Bool) → bytes_eq d.name x ≡ b → cond b true (has x) ≡ reaches (d ∷ ds) x name
      by true e = sym g ∙ here x e
      by false e = there x e

  pub reaches-stays : goes ≡ false → (x : List ℕ) → has x ≡ reaches (d ∷ ds) x name
  reaches-stays g x = by (bytes_eq d.name x) refl
    where
      by : (b : Bool) → bytes_eq d.name x ≡ b → has x ≡ reaches (d ∷ ds) x name
      by true e = ap has (sym (bytes_same d.name x e)) ∙ same d.name ∙ unregistered-reaches ds d.name name is_new ∙ sym g ∙ here x e
      by false e = there x e

-- a module that isn't removed is found among those that stay
pub standing-named : (leaves : List ℕ → Bool) (name : List ℕ) (ds : List Registered) → leaves name ≡ false → module_named name (standing leaves ds) ≡ module_named name ds
standing-named leaves name [] e = refl
standing-named leaves name (d ∷ ds) e = by (leaves d.name) (bytes_eq d.name name) refl refl (standing-named leaves name ds e)
  where
    by : (g b : Bool) → leaves d.name ≡ g → bytes_eq d.name name ≡ b → module_named name (standing leaves ds) ≡ module_named name ds → module_named name (cond (not g) (d ∷ standing leaves ds) (standing leaves ds)) ≡ cond b (Some d) (module_named name ds)
    by true true p q rest = absurd (let same : leaves d.name ≡ leaves name = ap leaves (bytes_same d.name name q) in cc)
    by true false p q rest = rest
    by false true p q rest = rw q refl
    by false false p q rest = rw q rest

-- the list from a place on
pub opened_at : {X : Type 0} (xs : List X) (place : ℕ) (x : X) → slice_get xs place ≡ Some x → drop place xs ≡ x ∷ drop (place + 1) xs
opened_at xs place x e = drop_more xs place x (slice_get_within xs place x e) ∙ ap (λ y. y ∷ drop (place + 1) xs) (get_or_from_slice_get xs place x x e)

-- the removed modules, one place further
module _ (ds : List Registered) (place : ℕ) (d : Registered) (name : List ℕ) (has : List ℕ → Bool) (at : slice_get ds place ≡ Some d) (all : IsRegistry ds) (same : (o : List ℕ) → has o ≡ reaches (drop (place + 1) ds) o name) where
  first_new : registered d.name (drop (place + 1) ds) ≡ false
  first_new = let rest = subst IsRegistry (opened_at ds place d at) (registry-drop place ds all) in rest.0.name

  pub gone-more : (bytes_eq d.name name || list_any (λ u. has u.import.import) d.imports) ≡ true → (o : List ℕ) → cond (bytes_eq d.name o) true (has o) ≡ reaches (drop place ds) o name
  gone-more g o = reaches-goes d (drop (place + 1) ds) name has first_new same g o ∙ ap (λ ds. reaches ds o name) (sym (opened_at ds place d at))

  pub gone-same : (bytes_eq d.name name || list_any (λ u. has u.import.import) d.imports) ≡ false → (o : List ℕ) → has o ≡ reaches (drop place ds) o name
  gone-same g o = reaches-stays d (drop (place + 1) ds) name has first_new same g o ∙ ap (λ ds. reaches ds o name) (sym (opened_at ds place d at))

-- the first place without a mark is the first index that isn't taken
first_unmarked : (t : ℕ → Bool) (marks : List Bool) (k : ℕ) → ((i : ℕ) → i < length marks → get_or marks i false ≡ t (k + i)) → position_from (λ b. not b) k marks ≡ find (λ i. not (t i)) (range_with_len k (length marks))
first_unmarked t [] k h = refl
first_unmarked t (b ∷ marks) k h =
    let here : b ≡ t k = h 0 (omega arith) ∙ ap t (let e : k + 0 ≡ k = omega arith in e) in
    ap (λ x. cond (not x) (Some k) (position_from (λ b. not b) (k + 1) marks)) here
    ∙ ap (λ r. cond (not (t k)) (Some k) r) (first_unmarked t marks (k + 1) (λ i lt. h (suc i) (omega (arith, lt)) ∙ ap t (let e : k + suc i ≡ k + 1 + i = omega arith in e)))

pub free-marked : (ds : List Registered) (count : ℕ) (marks : List Bool) → length marks ≡ suc count → ((i : ℕ) → i < suc count → get_or marks i false ≡ (eqb i 0 || taken ds i)) → position_from (λ b. not b) 0 marks ≡ free_among count ds
unfolding free_among
free-marked ds count [] len h = absurd (omega arith)
free-marked ds count (b ∷ rest) len h =
    let first : b ≡ true = h 0 (omega arith) in
    let same : length rest ≡ count = omega arith in
    ap (λ x. cond (not x) (Some 0) (position_from (λ b. not b) 1 rest)) first
    ∙ first_unmarked (taken ds) rest 1 (λ i lt. h (suc i) (omega (arith, lt)) ∙ ap (λ x. x || taken ds (suc i)) (ne_eqb (suc i) 0 (λ e. omega (arith, e))) ∙ ap (taken ds) (let e : suc i ≡ 1 + i = omega arith in e))
    ∙ ap (λ n. find (λ i. not (taken ds i)) (range_with_len 1 n)) same
