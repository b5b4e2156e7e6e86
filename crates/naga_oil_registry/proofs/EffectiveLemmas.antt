-- The effective names of a module are those recorded by the modules that it reaches.
use Rattle.std.proofs.Common.{◌≡◌, ℕ, List, [], ◌∷◌, ◌++◌, Bool, true, false, ◌&&◌, ◌||◌, cond, refl, sym, ap, ◌∙◌, Option, Some, option_map, unwrap_or, is_some}
use Rattle.std.proofs.lemmas.Bool.{or_parts, and_parts, true≢false}
use Rattle.std.proofs.lemmas.List.Folds.{list_any-append}
use Rattle.std.proofs.lemmas.Slice.Eq.{bytes_eq-Decides}
use Rattle.std.specs.List.{list_any, list_all, flat_map}
use Rattle.std.specs.Str.{bytes_eq}
use Rattle.naga_oil_imports.specs.Uses.{Use}
use Rattle.naga_oil_pre.specs.Recorded.{is_recorded}
use Rattle.naga_oil_words.specs.Texts.{is_among}
use Rattle.naga_oil_registry.specs.Registered.{Registered}
use Rattle.naga_oil_registry.specs.Merged.{recorded_names}
use Rattle.naga_oil_registry.specs.Registry.{registered, module_named, reaches, effective_names, IsRegistry, is_reached_name, AreReachedNames}
use Rattle.naga_oil_registry.proofs.AddedLemmas.{named-registered}
use Rattle.naga_oil_registry.proofs.NamesLemmas.{among-in_order}
use Rattle.naga_oil_registry.proofs.RegistryLemmas.{bytes_same}
use Rattle.naga_oil_registry.proofs.RemovedLemmas.{reaches-unregistered, bytes_apart}

abbrev names_at : List Registered → List ℕ → List (List ℕ)
names_at ds name = unwrap_or (option_map (λ d. d.effective) (module_named name ds)) []

among-flat_map : {X : Type 0} (f : X → List (List ℕ)) (xs : List X) (n : List ℕ) → is_among (flat_map f xs) n ≡ list_any (λ x. is_among (f x) n) xs
among-flat_map f [] n = refl
among-flat_map f (x ∷ xs) n = list_any-append (bytes_eq n) (f x) (flat_map f xs) ∙ ap (λ b. is_among (f x) n || b) (among-flat_map f xs n)

and-or : (a b s : Bool) → ((a || b) && s) ≡ ((a && s) || (b && s))
and-or true true true = refl
and-or true true false = refl
and-or true false true = refl
and-or true false false = refl
and-or false b s = refl

or-swap : (a b c d : Bool) → ((a || b) || (c || d)) ≡ ((a || c) || (b || d))
or-swap true b c d = refl
or-swap false true true d = refl
or-swap false true false d = refl
or-swap false false c d = refl

or-none : (b : Bool) → b ≡ (false || b)
or-none b = refl

-- one import more, among all modules
spread : {X : Type 0} (a b s : X → Bool) (xs : List X) → (list_any (λ x. a x && s x) xs || list_any (λ x. b x && s x) xs) ≡ list_any (λ x. (a x || b x) && s x) xs
spread a b s [] = refl
spread a b s (x ∷ xs) = or-swap (a x && s x) (list_any (λ x. a x && s x) xs) (b x && s x) (list_any (λ x. b x && s x) xs) ∙ ap (λ t. t || (list_any (λ x. a x && s x) xs || list_any (λ x. b x && s x) xs)) (sym (and-or (a x) (b x) (s x))) ∙ ap (λ t. ((a x || b x) && s x) || t) (spread a b s xs)

nowhere-any : {X : Type 0} (s : X → Bool) (xs : List X) → false ≡ list_any (λ x. false && s x) xs
nowhere-any s [] = refl
nowhere-any s (x ∷ xs) = nowhere-any s xs

-- what the imported modules say
imported-names : (ds : List Registered) (us : List Use) (n : List ℕ) → list_all (λ u. registered u.import.import ds) us ≡ true → ((name : List ℕ) → registered name ds ≡ true → is_among (names_at ds name) n ≡ is_reached_name ds name n) → list_any (λ u. is_among (names_at ds u.import.import) n) us ≡ list_any (λ e. list_any (λ u. reaches ds u.import.import e.name) us && is_recorded e.source n) ds
imported-names ds [] n all known = nowhere-any (λ e. is_recorded e.source n) ds
imported-names ds (u ∷ us) n all known =
    let k = and_parts (registered u.import.import ds) (list_all (λ u. registered u.import.import ds) us) all in
    ap (λ b. b || list_any (λ u. is_among (names_at ds u.import.import) n) us) (known u.import.import k.0)
    ∙ ap (λ b. is_reached_name ds u.import.import n || b) (imported-names ds us n k.1 known)
    ∙ spread (λ e. reaches ds u.import.import e.name) (λ e. list_any (λ u. reaches ds u.import.import e.name) us) (λ e. is_recorded e.source n) ds

-- the module itself, and what its imports reach
reached-here : (d : Registered) (earlier : List Registered) (n : List ℕ) (xs : List Registered) → registered d.name xs ≡ false → list_any (λ e. list_any (λ u. reaches earlier u.import.import e.name) d.imports && is_recorded e.source n) xs ≡ list_any (λ e. reaches (d ∷ earlier) d.name e.name && is_recorded e.source n) xs
unfolding reaches
reached-here d earlier n [] fresh = refl
reached-here d earlier n (x ∷ xs) fresh =
    let h = or_parts (bytes_eq x.name d.name) (registered d.name xs) fresh in
    ap (λ b. ((b || list_any (λ u. reaches earlier u.import.import x.name) d.imports) && is_recorded x.source n) || list_any (λ e. list_any (λ u. reaches earlier u.import.import e.name) d.imports && is_recorded e.source n) xs) (sym (bytes_apart x.name d.name h.0))
    ∙ ap (λ b. (cond b (bytes_eq d.name x.name || list_any (λ u. reaches earlier u.import.import x.name) d.imports) (reaches earlier d.name x.name) && is_recorded x.source n) || list_any (λ e. list_any (λ u. reaches earlier u.import.import e.name) d.imports && is_recorded e.source n) xs) (sym ((bytes_eq-Decides d.name d.name).1 refl))
    ∙ ap (λ b. (reaches (d ∷ earlier) d.name x.name && is_recorded x.source n) || b) (reached-here d earlier n xs h.1)

reached-itself : (d : Registered) (earlier : List Registered) → true ≡ reaches (d ∷ earlier) d.name d.name
unfolding reaches
reached-itself d earlier =
    ap (λ b. b || list_any (λ u. reaches earlier u.import.import d.name) d.imports) (sym ((bytes_eq-Decides d.name d.name).1 refl))
    ∙ ap (λ b. cond b (bytes_eq d.name d.name || list_any (λ u. reaches earlier u.import.import d.name) d.imports) (reaches earlier d.name d.name)) (sym ((bytes_eq-Decides d.name d.name).1 refl))

-- another module is looked up in the rest of the list
reached-there : (d : Registered) (earlier : List Registered) (name n : List ℕ) (xs : List Registered) → bytes_eq d.name name ≡ false → list_any (λ e. reaches earlier name e.name && is_recorded e.source n) xs ≡ list_any (λ e. reaches (d ∷ earlier) name e.name && is_recorded e.source n) xs
unfolding reaches
reached-there d earlier name n [] other = refl
reached-there d earlier name n (x ∷ xs) other =
    ap (λ b. (cond b (bytes_eq name x.name || list_any (λ u. reaches earlier u.import.import x.name) d.imports) (reaches earlier name x.name) && is_recorded x.source n) || list_any (λ e. reaches earlier name e.name && is_recorded e.source n) xs) (sym other)
    ∙ ap (λ b. (reaches (d ∷ earlier) name x.name && is_recorded x.source n) || b) (reached-there d earlier name n xs other)

not-reached : (d : Registered) (earlier : List Registered) (name : List ℕ) → bytes_eq d.name name ≡ false → registered d.name earlier ≡ false → false ≡ reaches (d ∷ earlier) name d.name
unfolding reaches
not-reached d earlier name other fresh = sym (reaches-unregistered d.name earlier name fresh) ∙ ap (λ b. cond b (bytes_eq name d.name || list_any (λ u. reaches earlier u.import.import d.name) d.imports) (reaches earlier name d.name)) (sym other)

pub effective-reached : (ds : List Registered) → IsRegistry ds → (n name : List ℕ) → registered name ds ≡ true → is_among (names_at ds name) n ≡ is_reached_name ds name n
effective-reached [] h n name r = absurd (true≢false (sym r))
effective-reached (d ∷ earlier) h n name r = by (bytes_eq d.name name) refl r (λ name r. effective-reached earlier h.1 n name r)
  where
    by : (b : Bool) → bytes_eq d.name name ≡ b → (b || registered name earlier) ≡ true → ((name : List ℕ) → registered name earlier ≡ true → is_among (names_at earlier name) n ≡ is_reached_name earlier name n) → is_among (unwrap_or (option_map (λ x. x.effective) (cond b (Some d) (module_named name earlier))) []) n ≡ is_reached_name (d ∷ earlier) name n
    by true e r known =
        ap (λ ns. is_among ns n) h.0.effective
        ∙ among-in_order (recorded_names d.source ++ effective_names earlier d.imports) n
        ∙ list_any-append (bytes_eq n) (recorded_names d.source) (effective_names earlier d.imports)
        ∙ ap (λ b. is_recorded d.source n || b) (among-flat_map (λ u. names_at earlier u.import.import) d.imports n ∙ imported-names earlier d.imports n h.0.imports known ∙ reached-here d earlier n earlier h.0.name)
        ∙ ap (λ b. (b && is_recorded d.source n) || list_any (λ e. reaches (d ∷ earlier) d.name e.name && is_recorded e.source n) earlier) (reached-itself d earlier)
        ∙ ap (λ x. is_reached_name (d ∷ earlier) x n) (bytes_same d.name name e)
    by false e r known =
        known name r ∙ reached-there d earlier name n earlier e
        ∙ ap (λ b. (b && is_recorded d.source n) || list_any (λ x. reaches (d ∷ earlier) name x.name && is_recorded x.source n) earlier) (not-reached d earlier name e h.0.name)

pub are_reached : (ds : List Registered) → IsRegistry ds → AreReachedNames ds
are_reached ds h d name e =
    ap (λ (o : Option Registered). is_among (unwrap_or (option_map (λ x. x.effective) o) []) name) (sym e)
    ∙ effective-reached ds h name d.name (sym (named-registered d.name ds) ∙ ap is_some e)
