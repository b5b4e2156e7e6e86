-- What stays after a removal is a registry again.
use Rattle.std.proofs.Common.{◌≡◌, ℕ, List, [], ◌∷◌, ◌++◌, length, String, string_bytes, Bool, true, false, not, cond, ◌||◌, refl, sym, ap, subst, ◌∙◌, filter, Option, option_map, unwrap_or, Result, Ok, Err, OnOk, OnErr}
use Rattle.std.proofs.lemmas.Bool.{or_parts, or_from, and_parts, and_from, true≢false, false_from_ne_true}
use Rattle.std.proofs.lemmas.List.{nil_from_length}
use Rattle.std.proofs.lemmas.Slice.Eq.{bytes_eq-Decides}
use Rattle.std.specs.BTreeSet.{BTreeSet, contains_text}
use Rattle.std.specs.Cmp.Lexicographic.{slice_cmp}
use Rattle.std.specs.List.{list_any, list_all}
use Rattle.std.specs.Ordering.{is_eq, nat_cmp}
use Rattle.std.specs.Str.{bytes_eq}
use Rattle.naga_oil_words.specs.Texts.{in_order}
use Rattle.naga_oil_imports.specs.Uses.{Use}
use Rattle.naga_oil_registry.specs.Registered.{Registered}
use Rattle.naga_oil_registry.specs.Merged.{recorded_names}
use Rattle.naga_oil_registry.specs.Registry.{registered, module_named, reaches, standing, removed, effective_names, IsRegistry}
use Rattle.naga_oil_registry.proofs.RegistryLemmas.{bytes_same, standing-named}

bytes_itself : (xs : List ℕ) → bytes_eq xs xs ≡ true
bytes_itself xs = (bytes_eq-Decides xs xs).1 refl

pub bytes_apart : (xs ys : List ℕ) → bytes_eq xs ys ≡ false → bytes_eq ys xs ≡ false
bytes_apart xs ys e = false_from_ne_true (bytes_eq ys xs) (λ same. let itself : bytes_eq xs ys ≡ true = (bytes_eq-Decides xs ys).1 (sym (bytes_same ys xs same)) in true≢false (sym itself ∙ e))

-- a module that isn't the first is looked up in the rest of the list
tail-same : (d : Registered) (ds : List Registered) (name : List ℕ) (xs : List Registered) → registered d.name xs ≡ false → standing (λ other. reaches (d ∷ ds) other name) xs ≡ standing (λ other. reaches ds other name) xs
unfolding reaches
tail-same d ds name [] e = refl
tail-same d ds name (x ∷ xs) e =
    let h = or_parts (bytes_eq x.name d.name) (registered d.name xs) e in
    rw (bytes_apart x.name d.name h.0) (ap (λ ys. cond (not (reaches ds x.name name)) (x ∷ ys) ys) (tail-same d ds name xs h.1))

-- the first module is removed or stays, whatever follows it
pub removed-cons : (name : List ℕ) (d : Registered) (ds : List Registered) → registered d.name ds ≡ false → removed name (d ∷ ds) ≡ cond (not (bytes_eq d.name name || list_any (λ u. reaches ds u.import.import name) d.imports)) (d ∷ removed name ds) (removed name ds)
unfolding reaches
removed-cons name d ds e =
    ap (λ ys. cond (not (reaches (d ∷ ds) d.name name)) (d ∷ ys) ys) (tail-same d ds name ds e)
    ∙ ap (λ b. cond (not (cond b (bytes_eq d.name name || list_any (λ u. reaches ds u.import.import name) d.imports) (reaches ds d.name name))) (d ∷ removed name ds) (removed name ds)) (bytes_itself d.name)

-- if no item passes, no item that stays passes
none-filter : {X : Type 0} (p q : X → Bool) (xs : List X) → list_any p xs ≡ false → list_any p (filter q xs) ≡ false
none-filter p q [] e = refl
none-filter p q (x ∷ xs) e = let h = or_parts (p x) (list_any p xs) e in by (q x) h.0 (none-filter p q xs h.1)
  where
    by : (b : Bool) → p x ≡ false → list_any p (filter q xs) ≡ false → list_any p (cond b (x ∷ filter q xs) (filter q xs)) ≡ false
    by true e r = or_from (p x) (list_any p (filter q xs)) e r
    by false e r = r

-- a module that isn't removed is registered as before
pub registered-standing : (leaves : List ℕ → Bool) (name : List ℕ) (ds : List Registered) → leaves name ≡ false → registered name (standing leaves ds) ≡ registered name ds
registered-standing leaves name [] e = refl
registered-standing leaves name (d ∷ ds) e = by (leaves d.name) (bytes_eq d.name name) refl refl (registered-standing leaves name ds e)
  where
    by : (g b : Bool) → leaves d.name ≡ g → bytes_eq d.name name ≡ b → registered name (standing leaves ds) ≡ registered name ds → registered name (cond (not g) (d ∷ standing leaves ds) (standing leaves ds)) ≡ (b || registered name ds)
    by true true p q rest = absurd (let same : leaves d.name ≡ leaves name = ap leaves (bytes_same d.name name q) in cc)
    by true false p q rest = rest
    by false b p q rest = ap (λ x. x || registered name (standing leaves ds)) q ∙ ap (λ x. b || x) rest

-- the imports of a module that stays
imports-stay : (name : List ℕ) (ds : List Registered) (us : List Use) → list_any (λ u. reaches ds u.import.import name) us ≡ false → list_all (λ u. registered u.import.import ds) us ≡ true → list_all (λ u. registered u.import.import (removed name ds)) us ≡ true
imports-stay name ds [] e r = refl
imports-stay name ds (u ∷ us) e r =
    let h = or_parts (reaches ds u.import.import name) (list_any (λ u. reaches ds u.import.import name) us) e in
    let k = and_parts (registered u.import.import ds) (list_all (λ u. registered u.import.import ds) us) r in
    and_from (registered u.import.import (removed name ds)) (list_all (λ u. registered u.import.import (removed name ds)) us) (registered-standing (λ other. reaches ds other name) u.import.import ds h.0 ∙ k.0) (imports-stay name ds us h.1 k.1)

effective-stay : (name : List ℕ) (ds : List Registered) (us : List Use) → list_any (λ u. reaches ds u.import.import name) us ≡ false → effective_names (removed name ds) us ≡ effective_names ds us
effective-stay name ds [] e = refl
effective-stay name ds (u ∷ us) e =
    let h = or_parts (reaches ds u.import.import name) (list_any (λ u. reaches ds u.import.import name) us) e in
    ap (λ (o : Option Registered). unwrap_or (option_map (λ d. d.effective) o) [] ++ effective_names (removed name ds) us) (standing-named (λ other. reaches ds other name) u.import.import ds h.0)
    ∙ ap (λ ns. unwrap_or (option_map (λ d. d.effective) (module_named u.import.import ds)) [] ++ ns) (effective-stay name ds us h.1)

pub removed-registry : (name : List ℕ) (ds : List Registered) → IsRegistry ds → IsRegistry (removed name ds)
removed-registry name [] h = tt
removed-registry name (d ∷ ds) h = subst IsRegistry (sym (removed-cons name d ds h.0.name)) (by (bytes_eq d.name name || list_any (λ u. reaches ds u.import.import name) d.imports) refl (removed-registry name ds h.1))
  where
    by : (g : Bool) → (bytes_eq d.name name || list_any (λ u. reaches ds u.import.import name) d.imports) ≡ g → IsRegistry (removed name ds) → IsRegistry (cond (not g) (d ∷ removed name ds) (removed name ds))
    by true e rest = rest
    by false e rest =
        let k = or_parts (bytes_eq d.name name) (list_any (λ u. reaches ds u.import.import name) d.imports) e in (
          record {
            name = none-filter _ _ ds h.0.name;
            index = none-filter _ _ ds h.0.index;
            positive = h.0.positive;
            small = h.0.small;
            imports = imports-stay name ds d.imports k.1 h.0.imports;
            effective = h.0.effective ∙ ap (λ ns. in_order (recorded_names d.source ++ ns)) (sym (effective-stay name ds d.imports k.1));
          },
          rest,
        )

-- a module reaches itself
reaches-itself : (name : List ℕ) (ds : List Registered) → registered name ds ≡ true → reaches ds name name ≡ true
unfolding reaches
reaches-itself name [] r = absurd (true≢false (sym r))
reaches-itself name (d ∷ ds) r = by (bytes_eq d.name name) refl (λ r. reaches-itself name ds r)
  where
    by : (b : Bool) → bytes_eq d.name name ≡ b → (registered name ds ≡ true → reaches ds name name ≡ true) → cond b (bytes_eq name name || list_any (λ u. reaches ds u.import.import name) d.imports) (reaches ds name name) ≡ true
    by true e rest = ap (λ b. b || list_any (λ u. reaches ds u.import.import name) d.imports) (bytes_itself name)
    by false e rest = rest (ap (λ b. b || registered name ds) (sym e) ∙ r)

pub gone-registered : (leaves : List ℕ → Bool) (name : List ℕ) (ds : List Registered) → leaves name ≡ true → registered name (standing leaves ds) ≡ false
gone-registered leaves name [] e = refl
gone-registered leaves name (d ∷ ds) e = by (leaves d.name) (bytes_eq d.name name) refl refl (gone-registered leaves name ds e)
  where
    by : (g b : Bool) → leaves d.name ≡ g → bytes_eq d.name name ≡ b → registered name (standing leaves ds) ≡ false → registered name (cond (not g) (d ∷ standing leaves ds) (standing leaves ds)) ≡ false
    by true b p q rest = rest
    by false true p q rest = absurd (let same : leaves d.name ≡ leaves name = ap leaves (bytes_same d.name name q) in cc)
    by false false p q rest = or_from (bytes_eq d.name name) (registered name (standing leaves ds)) q rest

-- the module itself is removed
pub removed-named : (name : List ℕ) (ds : List Registered) → registered name (removed name ds) ≡ false
removed-named name ds = by (registered name ds) refl
  where
    by : (b : Bool) → registered name ds ≡ b → registered name (removed name ds) ≡ false
    by true e = gone-registered (λ other. reaches ds other name) name ds (reaches-itself name ds e)
    by false e = none-filter _ _ ds e

any-none : {X : Type 0} (p : X → Bool) (xs : List X) → ((x : X) → p x ≡ false) → list_any p xs ≡ false
any-none p [] h = refl
any-none p (x ∷ xs) h = or_from (p x) (list_any p xs) (h x) (any-none p xs h)

-- nothing reaches what isn't registered
pub reaches-unregistered : (name : List ℕ) (ds : List Registered) (other : List ℕ) → registered name ds ≡ false → reaches ds other name ≡ false
unfolding reaches
reaches-unregistered name [] other e = refl
reaches-unregistered name (d ∷ ds) other e =
    let h = or_parts (bytes_eq d.name name) (registered name ds) e in
    by (bytes_eq d.name other) refl h.0 (λ i. reaches-unregistered name ds i h.1)
  where
    by : (b : Bool) → bytes_eq d.name other ≡ b → bytes_eq d.name name ≡ false → ((i : List ℕ) → reaches ds i name ≡ false) → cond b (bytes_eq other name || list_any (λ u. reaches ds u.import.import name) d.imports) (reaches ds other name) ≡ false
    by true q fresh rest = or_from (bytes_eq other name) (list_any (λ u. reaches ds u.import.import name) d.imports) (ap (λ n. bytes_eq n name) (sym (bytes_same d.name other q)) ∙ fresh) (any-none (λ u. reaches ds u.import.import name) d.imports (λ u. rest u.import.import))
    by false q fresh rest = rest other

pub filter-all : {X : Type 0} (p : X → Bool) (xs : List X) → ((x : X) → p x ≡ true) → filter p xs ≡ xs
filter-all p [] h = refl
filter-all p (x ∷ xs) h = ap (λ b. cond b (x ∷ filter p xs) (filter p xs)) (h x) ∙ ap (λ ys. x ∷ ys) (filter-all p xs h)

pub removed-unknown : (name : List ℕ) (ds : List Registered) → registered name ds ≡ false → removed name ds ≡ ds
removed-unknown name ds e = filter-all _ ds (λ d. ap not (reaches-unregistered name ds d.name e))

-- an empty set contains no name, and all modules stay
pub none-gone : {Y : Type 0} (gone : BTreeSet (String Y)) (name : List ℕ) → length gone.keys ≡ 0 → contains_text gone name ≡ false
none-gone gone name e = ap (λ ks. list_any (λ k. is_eq (slice_cmp nat_cmp name (string_bytes k))) ks) (nil_from_length gone.keys e)

pub none-imported : {Y : Type 0} (gone : BTreeSet (String Y)) (us : List Use) → length gone.keys ≡ 0 → list_any (λ u. contains_text gone u.import.import) us ≡ false
none-imported gone us e = any-none _ us (λ u. none-gone gone u.import.import e)

pub all-stay : {Y : Type 0} (gone : BTreeSet (String Y)) (ds : List Registered) → length gone.keys ≡ 0 → standing (contains_text gone) ds ≡ ds
all-stay gone ds e = filter-all _ ds (λ d. ap not (none-gone gone d.name e))

-- if the same names are removed, the same modules stay
pub standing-same : (f g : List ℕ → Bool) → ((other : List ℕ) → f other ≡ g other) → (ds : List Registered) → standing f ds ≡ standing g ds
standing-same f g h [] = refl
standing-same f g h (d ∷ ds) = ap (λ b. cond (not b) (d ∷ standing f ds) (standing f ds)) (h d.name) ∙ ap (λ ys. cond (not (g d.name)) (d ∷ ys) ys) (standing-same f g h ds)

-- the registry after a removal, also after a refused one
pub after_removal : {T E : Type 0} (r : Result T E) (name : List ℕ) (old new : List Registered) → OnOk r (new ≡ removed name old) → OnErr r (new ≡ old) → IsRegistry old → IsRegistry new
after_removal (Ok x) name old new ok err h = subst IsRegistry (sym ok) (removed-registry name old h)
after_removal (Err e) name old new ok err h = subst IsRegistry (sym err) h
