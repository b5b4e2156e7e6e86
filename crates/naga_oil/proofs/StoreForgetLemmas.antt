-- Law: after modules are removed, the builds still kept are what building them afresh gives.
use Rattle.std.proofs.Common.{◌≡◌, ℕ, List, [], ◌∷◌, Bool, true, false, not, ◌&&◌, ◌||◌, cond, refl, sym, ap, subst, ◌∙◌, Option, Some, None, option_map, slice_index_or}
use Rattle.std.proofs.lemmas.Bool.{true≢false, false_from_ne_true}
use Rattle.std.proofs.lemmas.Map.Entries.{lookup-filter-keys}
use Rattle.std.proofs.lemmas.Map.Made.{IsDistinct-keys_filter}
use Rattle.std.proofs.lemmas.Map.Views.{any-filter_same}
use Rattle.std.specs.List.{All, list_any}
use Rattle.std.specs.Option.{IsSomeAnd}
use Rattle.std.specs.Str.{bytes_eq}
use Rattle.naga_oil_registry.specs.Added.{registry_with}
use Rattle.naga_oil_registry.specs.Registered.{Registered, Defs}
use Rattle.naga_oil_registry.specs.Registry.{registered, module_named, reaches, removed, IsRegistry}
use Rattle.naga_oil_registry.proofs.RegistryLemmas.{bytes_same, standing-named}
use Rattle.naga_oil_registry.proofs.RemovedLemmas.{reaches-unregistered, removed-registry}
use Rattle.naga_oil_link.specs.BuiltModule.{BuiltModule}
use Rattle.naga_oil_build.specs.Held.{Settings}
use Rattle.naga_oil_build.specs.Overriding.{build_named}
use Rattle.naga_oil.specs.AfreshLaw.{afresh}
use Rattle.naga_oil.specs.ReachLaw.{AreRegisteredAlike}
use Rattle.naga_oil.specs.Store.{Key, key_under, key_named, same_key, Kept, kept_under, is_kept, forget}
use Rattle.naga_oil.specs.StoreLaw.{IsKeptUnder, IsKeptAfresh, IsStore, ForgetLaw}
use Rattle.naga_oil.proofs.ReachLawLemmas.{imports_name, reaches-first, reaches-past, reaches-itself, what_is_reached}
use Rattle.naga_oil.proofs.StoreKeyLemmas.{key-Decides}
use Rattle.naga_oil.proofs.StoreReachLemmas.{StandsAt, place_of, name_found, key_name, registered_named, reaches_import, built_from, imports_may}

-- ---- what a reached module reaches

any_weaker : {X : Type 0} (p q : X → Bool) → ((x : X) → p x ≡ true → q x ≡ true) → (xs : List X) → list_any p xs ≡ true → list_any q xs ≡ true
any_weaker p q h [] e = absurd (true≢false (sym e))
any_weaker p q h (x ∷ xs) e = by (p x) refl e (any_weaker p q h xs)
  where
    or_right : (a b : Bool) → b ≡ true → (a || b) ≡ true
    or_right true b k = refl
    or_right false b k = k

    by : (b : Bool) → p x ≡ b → (b || list_any p xs) ≡ true → (list_any p xs ≡ true → list_any q xs ≡ true) → (q x || list_any q xs) ≡ true
    by true k e known = ap (λ b. b || list_any q xs) (h x k)
    by false k e known = or_right (q x) (list_any q xs) (known e)

-- each reached module is registered
reached_registered : (ds : List Registered) (x y : List ℕ) → reaches ds x y ≡ true → registered y ds ≡ true
reached_registered ds x y h = by (registered y ds) refl
  where
    by : (b : Bool) → registered y ds ≡ b → b ≡ true
    by true e = refl
    by false e = absurd (true≢false (sym h ∙ reaches-unregistered y ds x e))

reaches_on : (ds : List Registered) → IsRegistry ds → (x y z : List ℕ) → reaches ds x y ≡ true → reaches ds y z ≡ true → reaches ds x z ≡ true
reaches_on [] all x y z h k = absurd (true≢false (sym (reached_registered [] x y h)))
reaches_on (d ∷ earlier) all x y z h k = by (bytes_eq d.name x) refl (reaches_on earlier all.1)
  where
    Known : Type 0
    Known = (x y z : List ℕ) → reaches earlier x y ≡ true → reaches earlier y z ≡ true → reaches earlier x z ≡ true

    -- a module reached from the rest of the registry is another one
    past : (w : List ℕ) → reaches earlier w y ≡ true → reaches earlier y z ≡ true
    past w r = sym (reaches-past d earlier y z (false_from_ne_true (bytes_eq d.name y) (λ q. true≢false (sym (reached_registered earlier w y r) ∙ ap (λ n. registered n earlier) (sym (bytes_same d.name y q)) ∙ all.0.name)))) ∙ k

    or_more : (a b c : Bool) → (b ≡ true → c ≡ true) → (a ≡ true → (a || c) ≡ true) → (a || b) ≡ true → (a || c) ≡ true
    or_more true b c f g e = refl
    or_more false b c f g e = f e

    by : (b : Bool) → bytes_eq d.name x ≡ b → Known → reaches (d ∷ earlier) x z ≡ true
    by false q known =
        let r : reaches earlier x y ≡ true = sym (reaches-past d earlier x y q) ∙ h in
        reaches-past d earlier x z q ∙ known x y z r (past x r)
    by true q known = here (bytes_eq x y) refl (sym (reaches-first d earlier x y q) ∙ h)
      where
        here : (b : Bool) → bytes_eq x y ≡ b → (b || list_any (λ u. reaches earlier u.import.import y) d.imports) ≡ true → reaches (d ∷ earlier) x z ≡ true
        here true e r = ap (λ n. reaches (d ∷ earlier) n z) (bytes_same x y e) ∙ k
        here false e r =
            let more : list_any (λ u. reaches earlier u.import.import z) d.imports ≡ true = any_weaker (λ u. reaches earlier u.import.import y) (λ u. reaches earlier u.import.import z) (λ u w. known u.import.import y z w (past u.import.import w)) d.imports r in
            reaches-first d earlier x z q ∙ or_right (bytes_eq x z) (list_any (λ u. reaches earlier u.import.import z) d.imports) more
          where
            or_right : (a b : Bool) → b ≡ true → (a || b) ≡ true
            or_right true b k = refl
            or_right false b k = k

-- ---- the builds that stay kept

-- modules are removed with all that reach them, and those that stay are registered alike
module _ (s : Settings) (ds es : List Registered) (all : IsRegistry ds) (all' : IsRegistry es) (goes : List ℕ → Bool)
    (back : (x y : List ℕ) → reaches ds x y ≡ true → goes y ≡ true → goes x ≡ true)
    (stays : (x : List ℕ) → registered x ds ≡ true → goes x ≡ false → module_named x es ≡ module_named x ds)
    (kept : Kept) (store : IsStore s ds kept) where
  abbrev left : Kept
  left = forget goes kept

  -- a build is found as before, unless it is removed
  found_left : (k : Key) → kept_under left k ≡ cond (not (goes k.name)) (kept_under kept k) None
  found_left k = lookup-filter-keys (same_key k) (λ l. not (goes l.name)) (not (goes k.name)) (λ l e. ap (λ (x : Key). not (goes x.name)) (sym ((key-Decides k l).0 e))) kept

  is_left : (k : Key) → goes k.name ≡ false → is_kept kept k ≡ true → is_kept left k ≡ true
  is_left k g h =
      any-filter_same (λ e. same_key k e.0) (λ e. not (goes e.0.name)) (not (goes k.name)) (λ e q. ap (λ (x : Key). not (goes x.name)) (sym ((key-Decides k e.0).0 q))) kept
      ∙ (λ i. not (g i) && h i)

  left_under : (x : List ℕ) (defs : Defs) → goes x ≡ false → (o : Option Key) → key_named ds defs x ≡ o → IsSomeAnd o (λ k. is_kept kept k ≡ true) → IsSomeAnd o (λ k. is_kept left k ≡ true)
  left_under x defs g None e h = h
  left_under x defs g (Some k) e h = is_left k (ap goes (key_name ds x defs k e) ∙ g) h

  module _ (k : Key) (b : BuiltModule) (here : goes k.name ≡ false) (old : IsKeptAfresh s ds kept k b) (d : Registered) (named : module_named k.name ds ≡ Some d) where
    following : List Registered
    following = (place_of ds k.name d all named).0

    at : StandsAt ds d following
    unfolding following
    at = (place_of ds k.name d all named).1

    is_name : d.name ≡ k.name
    is_name = name_found k.name ds d named

    known : registered k.name ds ≡ true
    known = registered_named k.name ds d named

    -- no module that it reaches is removed
    reached_stays : (x : List ℕ) → reaches ds k.name x ≡ true → goes x ≡ false
    reached_stays x r = false_from_ne_true (goes x) (λ g. true≢false (sym (back k.name x r g) ∙ here))

    alike : AreRegisteredAlike ds es k.name
    alike x r = stays x (reached_registered ds k.name x r) (reached_stays x r)

    same_afresh : afresh s ds k.defs k.name ≡ afresh s es k.defs k.name
    same_afresh = what_is_reached s k.defs ds es k.name [] all all' known alike

    may : All (λ i. imports_name d i.import ≡ true) b.imports
    may = imports_may s ds k.defs d following at b (built_from s ds k.defs d following at b
        (ap (λ n. (afresh s ds k.defs n).result) is_name ∙ old.reached)
        ((λ i. build_named (afresh s ds k.defs (is_name i)).builds (is_name i)) ∙ old.built))

    -- the modules that it imports are among those that it reaches
    reaches_it : (x : List ℕ) → imports_name d x ≡ true → reaches ds k.name x ≡ true
    reaches_it x m = ap (λ n. reaches ds n x) (sym is_name) ∙ reaches_import ds d following at x m

    import_left : (x : List ℕ) → imports_name d x ≡ true → IsKeptUnder s ds kept k.defs x → IsKeptUnder s es left k.defs x
    import_left x m h =
        let r = reaches_it x m in
        subst (λ o. IsSomeAnd (option_map (λ e. key_under e k.defs) o) (λ l. is_kept left l ≡ true)) (sym (alike x r)) (left_under x k.defs (reached_stays x r) (key_named ds k.defs x) refl h)

    afresh_left : IsKeptAfresh s es left k b
    afresh_left = record {
      key = ap (option_map (λ e. key_under e k.defs)) (alike k.name (reaches-itself ds k.name known)) ∙ old.key;
      reached = ap (λ o. o.result) (sym same_afresh) ∙ old.reached;
      built = ap (λ o. build_named o.builds k.name) (sym same_afresh) ∙ old.built;
      imports = λ j e l. import_left (slice_index_or b.imports j e).import (may j e l) (old.imports j e l);
    }

  each_left : (k : Key) (b : BuiltModule) → kept_under left k ≡ Some b → IsKeptAfresh s es left k b
  each_left k b h = by (goes k.name) refl (sym (found_left k) ∙ h)
    where
      of_named : goes k.name ≡ false → IsKeptAfresh s ds kept k b → (o : Option Registered) → module_named k.name ds ≡ o → option_map (λ d. key_under d k.defs) o ≡ Some k → IsKeptAfresh s es left k b
      of_named g old None e q = absurd cc
      of_named g old (Some d) e q = afresh_left k b g old d e

      by : (g : Bool) → goes k.name ≡ g → cond (not g) (kept_under kept k) None ≡ Some b → IsKeptAfresh s es left k b
      by true g h = absurd cc
      by false g h = let old = store.each k b h in of_named g old (module_named k.name ds) refl old.key

  pub store_left : IsStore s es left
  store_left = record { differ = IsDistinct-keys_filter same_key (λ e. not (goes e.0.name)) kept store.differ; each = each_left }

removal : (s : Settings) (ds : List Registered) (name : List ℕ) (kept : Kept) → IsRegistry ds → IsStore s ds kept → IsStore s (removed name ds) (forget (λ other. reaches ds other name) kept)
removal s ds name kept all store =
    store_left s ds (removed name ds) all (removed-registry name ds all) (λ other. reaches ds other name) (λ x y r g. reaches_on ds all x y name r g) (λ x r g. standing-named (λ other. reaches ds other name) x ds g) kept store

addition : (s : Settings) (ds : List Registered) (d : Registered) (kept : Kept) → IsRegistry ds → IsRegistry (registry_with ds d) → IsStore s ds kept → IsStore s (registry_with ds d) (forget (λ other. reaches ds other d.name) kept)
addition s ds d kept all all' store =
    store_left s ds (registry_with ds d) all all' (λ other. reaches ds other d.name) (λ x y r g. reaches_on ds all x y d.name r g) stays kept store
  where
    stays : (x : List ℕ) → registered x ds ≡ true → reaches ds x d.name ≡ false → module_named x (registry_with ds d) ≡ module_named x ds
    stays x r g =
        let other : bytes_eq d.name x ≡ false = false_from_ne_true (bytes_eq d.name x) (λ q. true≢false (sym (reaches-itself ds x r) ∙ ap (λ n. reaches ds x n) (sym (bytes_same d.name x q)) ∙ g)) in
        ap (λ b. cond b (Some d) (module_named x (removed d.name ds))) other ∙ standing-named (λ y. reaches ds y d.name) x ds g

pub forget_law : ForgetLaw
forget_law = record { removal = removal; addition = addition }
