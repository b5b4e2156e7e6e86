-- Law: each kept build is what building its module afresh gives.
use Rattle.std.proofs.Common.{◌≡◌, ℕ, suc, List, [], ◌∷◌, ◌++◌, drop, Bool, true, false, ◌||◌, cond, refl, sym, ap, subst, ◌∙◌, Option, Some, None, option_map, slice_index_or, Ok}
use Rattle.std.proofs.lemmas.Bool.{true≢false}
use Rattle.std.proofs.lemmas.List.{map-append}
use Rattle.std.proofs.lemmas.Map.Keys.{IsDistinct-push}
use Rattle.std.proofs.lemmas.Slice.Eq.{bytes_eq-Decides}
use Rattle.std.specs.List.{All, IsDistinct}
use Rattle.std.specs.Map.{keys_of}
use Rattle.std.specs.Option.{IsSomeAnd, option_or}
use Rattle.std.specs.Str.{bytes_eq}
use Rattle.naga_oil_pre.specs.Preprocessed.{Output}
use Rattle.naga_oil_registry.specs.Registered.{Registered, Defs}
use Rattle.naga_oil_registry.specs.Registry.{IsRegistry}
use Rattle.naga_oil_registry.proofs.RegistryLemmas.{bytes_same, list_any_map}
use Rattle.naga_oil_link.specs.BuiltModule.{BuiltModule, Builds}
use Rattle.naga_oil_build.specs.Build.{build}
use Rattle.naga_oil_build.specs.Held.{Settings}
use Rattle.naga_oil_build.specs.Overriding.{build_named}
use Rattle.naga_oil.specs.AfreshLaw.{afresh, AllStandAfresh, AreReachedAfresh, IsReachedAfresh}
use Rattle.naga_oil.specs.LocalLaw.{UsesAlike}
use Rattle.naga_oil.specs.Outcome.{Outcome}
use Rattle.naga_oil.specs.Reach.{Unreached, Reaching, is_built, builds_with, enter_build, as_recorded, preprocess_module, reach_each, reach_module, reach}
use Rattle.naga_oil.specs.Store.{project, Key, key_under, key_named, same_key, Kept, KeepsAll, kept_under, is_kept, keep_build}
use Rattle.naga_oil.specs.StoreLaw.{IsKeptUnder, IsKeptAfresh, IsStore, Stands, reach_imports, reach_kept, KeptLaw, EnterLaw}
use Rattle.naga_oil.proofs.AfreshLemmas.{afresh_law, with_there, with_last, built_last, outcome_is}
use Rattle.naga_oil.proofs.LocalLemmas.{build_alike}
use Rattle.naga_oil.proofs.ReachLawLemmas.{projection, imports_name}
use Rattle.naga_oil.proofs.ReachLemmas.{bind_ok, module_over}
use Rattle.naga_oil.proofs.StoreKeyLemmas.{key-Decides, key_equiv, lookup_last, lookup_absent, keep_there, keep_last, keep_all, kept_stays, kept_now, projection_one, project_within, project_twice}
use Rattle.naga_oil.proofs.StoreReachLemmas.{StandsAt, stands_at, place_of, imports_module, after_it, uses_after, IsBuiltFrom, built_from, imports_may, imports_reached}

-- ---- kept builds stay kept

under_more : (old new : Kept) → KeepsAll old new → (o : Option Key) → IsSomeAnd o (λ k. is_kept old k ≡ true) → IsSomeAnd o (λ k. is_kept new k ≡ true)
under_more old new g None h = h
under_more old new g (Some k) h = kept_stays g k h

module _ (s : Settings) (ds : List Registered) where
  pub under_stays : (old new : Kept) → KeepsAll old new → (defs : Defs) (name : List ℕ) → IsKeptUnder s ds old defs name → IsKeptUnder s ds new defs name
  under_stays old new g defs name h = under_more old new g (key_named ds defs name) h

  afresh_stays : (old new : Kept) → KeepsAll old new → (k : Key) (b : BuiltModule) → IsKeptAfresh s ds old k b → IsKeptAfresh s ds new k b
  afresh_stays old new g k b h = record { key = h.key; reached = h.reached; built = h.built; imports = λ j e l. under_stays old new g k.defs (slice_index_or b.imports j e).import (h.imports j e l) }

  -- nothing is kept
  pub store_nothing : IsStore s ds []
  unfolding IsDistinct
  store_nothing = record { differ = tt; each = λ k b h. absurd cc }

  -- a build still stands when more builds are kept
  pub stands_more : {defs : Defs} {builds : Builds} {old new : Kept} → Stands s ds defs builds old → IsStore s ds new → KeepsAll old new → Stands s ds defs builds new
  stands_more {defs} {builds} {old} {new} st store g = record { built = st.built; store = store; each = λ name h. under_stays old new g defs name (st.each name h) }

  -- nothing is built yet
  pub stands_nothing : (defs : Defs) (kept : Kept) → IsRegistry ds → IsStore s ds kept → Stands s ds defs [] kept
  stands_nothing defs kept all store = record { built = (afresh_law s ds defs all).nothing; store = store; each = λ name h. absurd (true≢false (sym h)) }

-- ---- a build over builds that are as built afresh

module _ (s : Settings) (ds : List Registered) (defs : Defs) (all : IsRegistry ds) (d : Registered) (following : List Registered) (at : StandsAt ds d following) where
  abbrev pub key_here : Key
  key_here = key_under d defs

  abbrev reaching : Reaching
  reaching = after_it s ds defs d following at

  -- the module is built alike under the projection
  same_afresh : afresh s ds (project d defs) d.name ≡ afresh s ds defs d.name
  same_afresh = projection s ds d.name d (project d defs) defs [] all at.named (projection_one d defs)

  -- how a kept build was made
  pub kept_from : (kept : Kept) (b : BuiltModule) → IsKeptAfresh s ds kept key_here b → IsBuiltFrom s ds defs d following at b
  kept_from kept b h = built_from s ds defs d following at b (ap (λ o. o.result) (sym same_afresh) ∙ h.reached) (ap (λ o. build_named o.builds d.name) (sym same_afresh) ∙ h.built)

  -- the uses are reached as in the whole registry
  pub reached_so : (out : Output) (bs : Builds) → AllStandAfresh s ds defs bs → AreReachedAfresh s ds defs (as_recorded d) out.uses bs (reach_each (as_recorded d) reaching out.uses bs)
  reached_so out bs st = subst (AreReachedAfresh s ds defs (as_recorded d) out.uses bs) (sym (uses_after s ds defs d following at out.uses bs)) ((afresh_law s ds defs all).each (as_recorded d) out.uses bs st)

  module _ (b : BuiltModule) (k : IsBuiltFrom s ds defs d following at b) (bs : Builds) (st : AllStandAfresh s ds defs bs) where
    abbrev over : Outcome (Unit {0}) Unreached
    over = reach_each (as_recorded d) reaching k.out.uses bs

    from_none : AreReachedAfresh s ds defs (as_recorded d) k.out.uses [] (record { builds = k.mid; result = Ok tt })
    from_none = subst (AreReachedAfresh s ds defs (as_recorded d) k.out.uses []) k.used (reached_so k.out [] (afresh_law s ds defs all).nothing)

    pub over_ok : over.result ≡ Ok tt
    over_ok = (reached_so k.out bs st).result ∙ sym from_none.result

    pub over_is : over ≡ record { builds = over.builds; result = Ok tt }
    over_is = outcome_is over (Ok tt) over_ok

    alike : UsesAlike over.builds k.mid k.out.uses
    alike = (afresh_law s ds defs all).alike k.out.uses over.builds k.mid (reached_so k.out bs st).stand from_none.stand (λ j e l. ((reached_so k.out bs st).built over_ok j e l).built) (λ j e l. (from_none.built refl j e l).built)

    built_over : build s d k.out over.builds ≡ Ok b
    built_over = build_alike s d k.out over.builds k.mid (reached_so k.out bs st).stand.differ from_none.stand.differ alike ∙ k.built

    -- the module is reached by its kept build
    pub module_so : reach_module s defs d reaching bs ≡ record { builds = builds_with over.builds d.name b; result = Ok tt }
    module_so = module_over s defs d reaching bs k.out (ap (λ r. preprocess_module defs d r bs) k.read) over.builds over_is ∙ ap (λ r. enter_build d.name r over.builds) built_over

    -- its imports are reached, and the build is entered
    pub kept_so : reach_kept reaching d.name b bs ≡ record { builds = builds_with over.builds d.name b; result = Ok tt }
    kept_so = bind_ok (reach_imports reaching b.imports) (λ done. enter_build d.name (Ok b)) bs over.builds tt (imports_reached s ds defs d following at b k bs ∙ over_is)

pub kept_law : KeptLaw
kept_law s ds defs place d b builds kept all at st found =
    let here = stands_at ds place d all at in
    let k = kept_from s ds defs all d (drop (suc place) ds) here kept b (st.store.each (key_under d defs) b found) in
    module_so s ds defs all d (drop (suc place) ds) here b k builds st.built ∙ sym (kept_so s ds defs all d (drop (suc place) ds) here b k builds st.built)

-- ---- one more build

module _ (s : Settings) (ds : List Registered) (defs : Defs) (all : IsRegistry ds) (d : Registered) (following : List Registered) (at : StandsAt ds d following) where
  -- the key of an import
  import_key : (x : List ℕ) → imports_name d x ≡ true → key_named ds (project d defs) x ≡ key_named ds defs x
  import_key x may =
      let o = imports_module ds d following at x may in
      ap (option_map (λ e. key_under e (project d defs))) o.1 ∙ (λ i. Some (record { name = o.0.name; defs = project_within o.0 d defs o.2 i })) ∙ ap (option_map (λ e. key_under e defs)) (sym o.1)

  -- the key of the module
  own_key : key_named ds (project d defs) d.name ≡ Some (key_under d defs)
  own_key = ap (option_map (λ e. key_under e (project d defs))) at.named ∙ (λ i. Some (record { name = d.name; defs = project_twice d defs i }))

  key_is : key_named ds defs d.name ≡ Some (key_under d defs)
  key_is = ap (option_map (λ e. key_under e defs)) at.named

  module _ (b : BuiltModule) (builds mid : Builds) (kept : Kept) (first : AllStandAfresh s ds defs builds) (st : Stands s ds defs mid kept)
      (reached : reach s defs ds d.name builds ≡ record { builds = builds_with mid d.name b; result = Ok tt })
      (imports : All (λ i. is_built mid i.import ≡ true) b.imports) where
    abbrev key : Key
    key = key_under d defs

    abbrev new : Kept
    new = keep_build kept key b

    one : IsReachedAfresh s ds defs builds d.name (record { builds = builds_with mid d.name b; result = Ok tt })
    one = subst (IsReachedAfresh s ds defs builds d.name) reached ((afresh_law s ds defs all).one d.name builds first)

    kept_itself : IsKeptUnder s ds new defs d.name
    kept_itself = subst (λ o. IsSomeAnd o (λ k. is_kept new k ≡ true)) (sym key_is) (kept_now kept key b)

    kept_before : is_built mid d.name ≡ true → is_kept kept key ≡ true
    kept_before q = subst (λ o. IsSomeAnd o (λ k. is_kept kept k ≡ true)) key_is (st.each d.name q)

    -- a name that is built now was built before, or is the module's
    which : (n : List ℕ) → is_built (builds_with mid d.name b) n ≡ true → is_built mid n ≡ false → bytes_eq n d.name ≡ true
    which n h none = by (is_built mid d.name) refl
      where
        last : (q : Bool) → (q || false) ≡ true → q ≡ true
        last true e = refl
        last false e = e

        by : (q : Bool) → is_built mid d.name ≡ q → bytes_eq n d.name ≡ true
        by true q = absurd (true≢false (sym h ∙ ap (λ bs. is_built bs n) (with_there mid d.name b q) ∙ none))
        by false q = last (bytes_eq n d.name) (ap (λ c. c || (bytes_eq n d.name || false)) (sym none) ∙ sym (built_last mid (d.name, b) n) ∙ ap (λ bs. is_built bs n) (sym (with_last mid d.name b q)) ∙ h)

    kept_all : (n : List ℕ) → is_built (builds_with mid d.name b) n ≡ true → IsKeptUnder s ds new defs n
    kept_all n h = by (is_built mid n) refl
      where
        by : (q : Bool) → is_built mid n ≡ q → IsKeptUnder s ds new defs n
        by true q = under_stays s ds kept new (keep_all kept key b) defs n (st.each n q)
        by false q = subst (λ x. IsKeptUnder s ds new defs x) (sym (bytes_same n d.name (which n h q))) kept_itself

    module _ (fresh : is_built mid d.name ≡ false) (absent : is_kept kept key ≡ false) where
      abbrev more : Kept
      more = kept ++ (key, b) ∷ []

      grows : KeepsAll kept more
      grows = record { more = (key, b) ∷ []; is = refl }

      differ : IsDistinct same_key (keys_of more)
      differ = subst (IsDistinct same_key) (sym (map-append (λ e. e.0) kept ((key, b) ∷ []))) (IsDistinct-push key_equiv (keys_of kept) key st.store.differ (list_any_map (same_key key) (λ e. e.0) kept ∙ absent))

      named_so : build_named (builds_with mid d.name b) d.name ≡ Some b
      named_so =
          ap (λ bs. build_named bs d.name) (with_last mid d.name b fresh)
          ∙ lookup_last (bytes_eq d.name) mid (d.name, b)
          ∙ ap (λ o. option_or o (cond (bytes_eq d.name d.name) (Some b) None)) (lookup_absent (bytes_eq d.name) mid fresh)
          ∙ ap (λ p. cond p (Some b) None) ((bytes_eq-Decides d.name d.name).1 refl)

      afresh_so : build_named (afresh s ds defs d.name).builds d.name ≡ Some b
      afresh_so = sym (one.built refl).same ∙ named_so

      may : All (λ i. imports_name d i.import ≡ true) b.imports
      may = imports_may s ds defs d following at b (built_from s ds defs d following at b (sym one.result) afresh_so)

      kept_afresh : IsKeptAfresh s ds more key b
      kept_afresh = record {
        key = own_key;
        reached = ap (λ o. o.result) (same_afresh s ds defs all d following at) ∙ sym one.result;
        built = ap (λ o. build_named o.builds d.name) (same_afresh s ds defs all d following at) ∙ afresh_so;
        imports = λ j e l.
            let x = (slice_index_or b.imports j e).import in
            under_stays s ds kept more grows (project d defs) x (subst (λ o. IsSomeAnd o (λ k. is_kept kept k ≡ true)) (sym (import_key x (may j e l))) (st.each x (imports j e l)));
      }

      each_more : (k : Key) (c : BuiltModule) → kept_under more k ≡ Some c → IsKeptAfresh s ds more k c
      each_more k c h = by (kept_under kept k) (same_key k key) refl refl (sym (lookup_last (same_key k) kept (key, b)) ∙ h)
        where
          by : (o : Option BuiltModule) (q : Bool) → kept_under kept k ≡ o → same_key k key ≡ q → option_or o (cond q (Some b) None) ≡ Some c → IsKeptAfresh s ds more k c
          by (Some x) q e f h = afresh_stays s ds kept more grows k c (st.store.each k c (e ∙ h))
          by None true e f h =
              let same : b ≡ c = cc in
              subst (λ x. IsKeptAfresh s ds more x c) (sym ((key-Decides k key).0 f)) (subst (λ x. IsKeptAfresh s ds more key x) same kept_afresh)
          by None false e f h = absurd cc

      store_more : IsStore s ds more
      store_more = record { differ = differ; each = each_more }

    store_new : IsStore s ds new
    store_new = by (is_kept kept key) (is_built mid d.name) refl refl
      where
        by : (p q : Bool) → is_kept kept key ≡ p → is_built mid d.name ≡ q → IsStore s ds new
        by true q e f = subst (IsStore s ds) (sym (keep_there kept key b e)) st.store
        by false true e f = absurd (true≢false (sym (kept_before f) ∙ e))
        by false false e f = subst (IsStore s ds) (sym (keep_last kept key b e)) (store_more f e)

    pub entered : Stands s ds defs (builds_with mid d.name b) new
    entered = record { built = one.stand; store = store_new; each = kept_all }

pub enter_law : EnterLaw
enter_law s ds defs d b builds mid kept all at first st reached imports =
    let k = place_of ds d.name d all at in
    entered s ds defs all d k.0 k.1 b builds mid kept first st reached imports
